-- What C is told: an instruction, and where a run ended, as numbers.
use Rattle.std.specs.Prelude.{ℕ, ◌≡◌, List, take}
use Rattle.processor.specs.declared.Instr.{Instr}
use Rattle.processor.specs.declared.Instr.TheVariants.{Lui, Auipc, Jal, Jalr, Branch, Load, Store, OpImm, Shift, Op, Fence, Ecall, Ebreak, Unknown}
use Rattle.processor.specs.declared.Status.{Status}
use Rattle.processor.specs.declared.Status.TheVariants.{Going, Exit, Trap, Fault, Limit}
use Rattle.processor.specs.Instructions.{alu_key, cond_key, width_key}
use Rattle.processor.specs.Run.{Run}
use Rattle.emulator_c.specs.declared.Columns.{Columns}

abbrev pub row : ℕ → ℕ → ℕ → ℕ → ℕ → ℕ → Columns
row o k d a b i = record { opcode = o; key = k; rd = d; rs1 = a; rs2 = b; imm = i }

-- the opcode of document 03 §3's row (an unknown word has none: 0), the number of its second column, rd, rs1, rs2, immediate
abbrev pub columns_of : Instr → Columns
columns_of (Lui d imm) = row 0x37 0 d 0 0 imm
columns_of (Auipc d imm) = row 0x17 0 d 0 0 imm
columns_of (Jal d imm) = row 0x6f 0 d 0 0 imm
columns_of (Jalr d a imm) = row 0x67 0 d a 0 imm
columns_of (Branch c a b imm) = row 0x63 (cond_key c) 0 a b imm
columns_of (Load s d a imm) = row 0x03 (width_key s) d a 0 imm
columns_of (Store s a b imm) = row 0x23 (width_key s) 0 a b imm
columns_of (OpImm o d a imm) = row 0x13 (alu_key o) d a 0 imm
columns_of (Shift o d a b) = row 0x13 (alu_key o) d a b 0
columns_of (Op o d a b) = row 0x33 (alu_key o) d a b 0
columns_of (Fence d a imm) = row 0x0f 0 d a 0 imm
columns_of Ecall = row 0x73 0 0 0 0 0
columns_of Ebreak = row 0x73 0 0 0 0 1
columns_of Unknown = row 0 0 0 0 0 0

-- document 03 §4: which stop
abbrev pub stop_of : Status → ℕ
stop_of Going = 0
stop_of Exit = 1
stop_of (Trap t) = 2
stop_of (Fault n) = 3
stop_of Limit = 4

-- the number of a trap or a fault
abbrev pub number_of : Status → ℕ
number_of Going = 0
number_of Exit = 0
number_of (Trap t) = t
number_of (Fault n) = n
number_of Limit = 0

-- What is handed back is this run's end.
pub record Tells (run : Run) (registers : List ℕ) (pc : ℕ) (memory : List ℕ) (log : List ℕ) (logged : ℕ) (steps : ℕ) (stop : ℕ) (number : ℕ) : Type 0 where
  pub registers_are : registers ≡ run.machine.registers
  pub pc_is : pc ≡ run.machine.pc
  pub memory_is : memory ≡ run.machine.memory
  pub log_is : take logged log ≡ run.machine.log
  pub steps_are : steps ≡ run.steps
  pub stop_is : stop ≡ stop_of run.machine.status
  pub number_is : number ≡ number_of run.machine.status
