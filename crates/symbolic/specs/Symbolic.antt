-- The symbolic processor: one instruction of it is one instruction of document 03. Registers stand in banks by their role, memory is a map from addresses
-- of words to words, and pc counts instructions. It faults wherever the real processor does, and more often: what is followed are the runs that don't fault.
use Rattle.std.specs.Prelude.{ℕ, zero, suc, ◌+◌, ◌-◌, ◌*◌, ◌/◌, List, [], ◌∷◌, ◌++◌, ltb, eqb, length, get_or}
use Rattle.word.specs.Choice.{pick, both}
use Rattle.word.specs.Word.{add_w}
use Rattle.processor.specs.declared.Alu.{Alu}
use Rattle.processor.specs.declared.Cond.{Cond}
use Rattle.processor.specs.declared.Width.TheVariants.{Word}
use Rattle.processor.specs.declared.Status.{Status}
use Rattle.processor.specs.declared.Status.TheVariants.{Going, Exit, Trap, Fault, Limit}
use Rattle.processor.specs.Machine.{code_start, data_start}
use Rattle.processor.specs.Execute.{alu_of, cond_of, reaches}

-- Registers.

-- x1 to x3 have a fixed use; x4 to x9 hold a value for a few instructions; x10 to x17 pass arguments, results and what ecall asks for;
-- x18 to x24 live across calls; x25 to x31 hold the values of an expression's parts.
pub data Bank : Type 0 where
  Fixed Scratch Argument Saved Temporary : Bank

-- the number of a bank's first register, and how many it has
abbrev pub first : Bank → ℕ
first Fixed = 1
first Scratch = 4
first Argument = 10
first Saved = 18
first Temporary = 25

abbrev pub width : Bank → ℕ
width Fixed = 3
width Scratch = 6
width Argument = 8
width Saved = 7
width Temporary = 7

pub data Reg : Type 0 where
  x0 : Reg
  reg : Bank → ℕ → Reg

-- its number
abbrev pub number : Reg → ℕ
number x0 = 0
number (reg b n) = first b + n

-- the return address, the stack pointer, and how many activations may yet begin
abbrev pub ra : Reg
ra = reg Fixed 0

abbrev pub sp : Reg
sp = reg Fixed 1

abbrev pub activations : Reg
activations = reg Fixed 2

abbrev pub scratch : ℕ → Reg
scratch n = reg Scratch n

abbrev pub argument : ℕ → Reg
argument n = reg Argument n

abbrev pub saved : ℕ → Reg
saved n = reg Saved n

abbrev pub temporary : ℕ → Reg
temporary n = reg Temporary n

-- what an ecall asks for (x17), and the value that it takes (x10)
abbrev pub request : Reg
request = argument 7

abbrev pub answer : Reg
answer = argument 0

-- Instructions. A destination stands first, as in an assembler's text; an immediate is a word, sign-extended.
pub data Instruction : Type 0 where
  -- lui rd, imm
  lui : Reg → ℕ → Instruction
  -- addi, slti, sltiu, xori, ori, andi rd, rs, imm
  opi : Alu → Reg → Reg → ℕ → Instruction
  -- slli, srli, srai rd, rs, amount
  shift : Alu → Reg → Reg → ℕ → Instruction
  -- addi rd, rs, 0: the value as it is
  mv : Reg → Reg → Instruction
  -- add, sub, .. rd, rs1, rs2
  op : Alu → Reg → Reg → Reg → Instruction
  -- lw rd, offset(base)
  lw : Reg → Reg → ℕ → Instruction
  -- sw rs, offset(base)
  sw : Reg → Reg → ℕ → Instruction
  -- beq, bne, blt, bge, bltu, bgeu rs1, rs2: so many instructions onward, or back
  branch : Cond → Reg → Reg → ℕ → Instruction
  branch_back : Cond → Reg → Reg → ℕ → Instruction
  -- jal x0: so many instructions onward, or back
  jump : ℕ → Instruction
  jump_back : ℕ → Instruction
  -- jal ra: to the instruction at a position
  call : ℕ → Instruction
  -- jalr x0, 0(ra)
  ret : Instruction
  ecall : Instruction
  -- what stands past the code's end
  bad : Instruction

-- State.

abbrev pub Registers : Type 0
Registers = Bank → ℕ → ℕ

pub record State : Type 0 where
  pub status : Status
  pub pc : ℕ
  pub registers : Registers
  pub memory : ℕ → ℕ
  pub log : List ℕ

abbrev pub state : Status → ℕ → Registers → (ℕ → ℕ) → List ℕ → State
state s p x m l = record { status = s; pc = p; registers = x; memory = m; log = l }

-- what is read of a register, and the registers once one is written
abbrev pub get : Reg → Registers → ℕ
get x0 x = 0
get (reg b n) x = x b n

abbrev pub set : Reg → ℕ → Registers → Registers
set x0 v x = x
set (reg b n) v x = λ c j. pick (both (eqb (first c) (first b)) (eqb j n)) v (x c j)

-- a map with another value at k
abbrev pub updated : {A : Type 0} → (ℕ → A) → ℕ → A → (ℕ → A)
updated f k v = λ j. pick (eqb j k) v (f j)

-- The address of the instruction at position k, and the position of an address. (T10 changes these two.)
abbrev pub pos : ℕ → ℕ
pos k = code_start + 4 * k

abbrev pub position_of : ℕ → ℕ
position_of a = (a - code_start) / 4

-- The state at the start, with these words in the input block: all else is 0.
abbrev pub initial : List ℕ → State
initial arrays = state Going 0 (λ b n. 0) (λ a. get_or arrays ((a - data_start) / 4) 0) []

-- Steps.

abbrev pub quit : Status → State → State
quit s σ = state s σ.pc σ.registers σ.memory σ.log

abbrev pub goto : ℕ → State → State
goto p σ = state Going p σ.registers σ.memory σ.log

-- gone on behind the instruction: with a register written, a word stored, a value logged
abbrev pub puts : Reg → ℕ → State → State
puts r v σ = state Going (suc σ.pc) (set r v σ.registers) σ.memory σ.log

abbrev pub stores : ℕ → ℕ → State → State
stores a v σ = state Going (suc σ.pc) σ.registers (updated σ.memory a v) σ.log

abbrev pub logs : ℕ → State → State
logs v σ = state Going (suc σ.pc) σ.registers σ.memory (σ.log ++ (v ∷ []))

abbrev pub value : State → Reg → ℕ
value σ r = get r σ.registers

module _ (room : ℕ) where
  -- by x17, as document 03 §4 has it
  unfoldable pub ecall_of : State → State
  ecall_of σ =
      pick (eqb (value σ request) 0) (quit Exit σ)
      (pick (eqb (value σ request) 1) (pick (ltb (length σ.log) room) (logs (value σ answer) σ) (quit (Trap 4) σ))
      (pick (eqb (value σ request) 2) (quit (Trap (value σ answer)) σ)
      (quit (Fault 5) σ)))

  abbrev pub exec1 : Instruction → State → State
  exec1 (lui r n) σ = puts r n σ
  exec1 (opi o r q n) σ = puts r (alu_of o (value σ q) n) σ
  exec1 (shift o r q n) σ = puts r (alu_of o (value σ q) n) σ
  exec1 (mv r q) σ = puts r (value σ q) σ
  exec1 (op o r p q) σ = puts r (alu_of o (value σ p) (value σ q)) σ
  exec1 (lw r q n) σ = pick (reaches Word (add_w (value σ q) n)) (puts r (σ.memory (add_w (value σ q) n)) σ) (quit (Fault 3) σ)
  exec1 (sw r q n) σ = pick (reaches Word (add_w (value σ q) n)) (stores (add_w (value σ q) n) (value σ r) σ) (quit (Fault 3) σ)
  exec1 (branch c p q n) σ = goto (pick (cond_of c (value σ p) (value σ q)) (σ.pc + n) (suc σ.pc)) σ
  exec1 (branch_back c p q n) σ = goto (pick (cond_of c (value σ p) (value σ q)) (σ.pc - n) (suc σ.pc)) σ
  exec1 (jump n) σ = goto (σ.pc + n) σ
  exec1 (jump_back n) σ = goto (σ.pc - n) σ
  exec1 (call t) σ = state Going t (set ra (pos (suc σ.pc)) σ.registers) σ.memory σ.log
  exec1 ret σ = pick (eqb (pos (position_of (value σ ra))) (value σ ra)) (goto (position_of (value σ ra)) σ) (quit (Fault 1) σ)
  exec1 ecall σ = ecall_of σ
  exec1 bad σ = quit (Fault 2) σ

  -- a machine that stopped stays as it is
  abbrev pub step_by : Status → List Instruction → State → State
  step_by Going code σ = exec1 (get_or code σ.pc bad) σ
  step_by Exit code σ = σ
  step_by (Trap t) code σ = σ
  step_by (Fault n) code σ = σ
  step_by Limit code σ = σ

  unfoldable pub step : List Instruction → State → State
  step code σ = step_by σ.status code σ

  unfoldable pub run : List Instruction → ℕ → State → State
  run code zero σ = σ
  run code (suc n) σ = run code n (step code σ)

  -- how many of n steps a machine that goes on makes: all, or those up to its stop
  abbrev pub count_by : Status → ℕ → ℕ
  count_by Going n = suc n
  count_by Exit n = 1
  count_by (Trap t) n = 1
  count_by (Fault f) n = 1
  count_by Limit n = 0

  unfoldable pub count : List Instruction → ℕ → State → ℕ
  count code zero σ = 0
  count code (suc n) σ = count_by (step code σ).status (count code n (step code σ))
