-- Document 03 §3: what each instruction does.
use Rattle.std.specs.Prelude.{ℕ, ◌+◌, ◌-◌, ◌*◌, ◌/◌, ◌%◌, ◌^◌, Bool, not, List, [], ◌∷◌, ◌++◌, leb, ltb, eqb, length, set}
use Rattle.word.specs.Choice.{pick, both}
use Rattle.word.specs.Word.{add_w, sub_w, mul_w, lt_s, lt_u, quot_s, rem_s, quot_u, rem_u, and_w, or_w, xor_w, shl_w, shr_u, shr_s, mulh_ss, mulh_su, mulh_uu, sign_extend, bit_of}
use Rattle.word.specs.Bytes.{byte₀, byte₁, byte₂, byte₃}
use Rattle.processor.specs.declared.Alu.{Alu}
use Rattle.processor.specs.declared.Alu.TheVariants.{Add, Sub, Sll, Slt, Sltu, Xor, Srl, Sra, Or, And, Mul, Mulh, Mulhsu, Mulhu, Div, Divu, Rem, Remu}
use Rattle.processor.specs.declared.Cond.{Cond}
use Rattle.processor.specs.declared.Cond.TheVariants.{Eq, Ne, Lt, Ge, Ltu, Geu}
use Rattle.processor.specs.declared.Width.{Width}
use Rattle.processor.specs.declared.Width.TheVariants.{Byte, Half, Word, ByteU, HalfU}
use Rattle.processor.specs.declared.Instr.{Instr}
use Rattle.processor.specs.declared.Instr.TheVariants.{Lui, Auipc, Jal, Jalr, Branch, Load, Store, OpImm, Shift, Op, Fence, Ecall, Ebreak, Unknown}
use Rattle.processor.specs.declared.Status.{Status}
use Rattle.processor.specs.declared.Status.TheVariants.{Going, Exit, Trap, Fault}
use Rattle.processor.specs.Machine.{Machine, state, memory_bytes, data_start, set_register, reg, byte_at, half_at, word_at}

-- Arithmetic. "Register shifts use the low 5 bits. mulh, mulhsu, mulhu give the upper 32 bits of the 64-bit product of signed by signed,
-- signed by unsigned, unsigned by unsigned." "By zero: div and divu give all ones, rem and remu the dividend."

abbrev pub all_ones : ℕ
all_ones = 2 ^ 32 - 1

unfoldable pub alu_of : Alu → ℕ → ℕ → ℕ
alu_of Add a b = add_w a b
alu_of Sub a b = sub_w a b
alu_of Sll a b = shl_w a (b % 32)
alu_of Slt a b = bit_of (lt_s a b)
alu_of Sltu a b = bit_of (lt_u a b)
alu_of Xor a b = xor_w a b
alu_of Srl a b = shr_u a (b % 32)
alu_of Sra a b = shr_s a (b % 32)
alu_of Or a b = or_w a b
alu_of And a b = and_w a b
alu_of Mul a b = mul_w a b
alu_of Mulh a b = mulh_ss a b
alu_of Mulhsu a b = mulh_su a b
alu_of Mulhu a b = mulh_uu a b
alu_of Div a b = pick (eqb b 0) all_ones (quot_s a b)
alu_of Divu a b = pick (eqb b 0) all_ones (quot_u a b)
alu_of Rem a b = pick (eqb b 0) a (rem_s a b)
alu_of Remu a b = pick (eqb b 0) a (rem_u a b)

unfoldable pub cond_of : Cond → ℕ → ℕ → Bool
cond_of Eq a b = eqb a b
cond_of Ne a b = not (eqb a b)
cond_of Lt a b = lt_s a b
cond_of Ge a b = not (lt_s a b)
cond_of Ltu a b = lt_u a b
cond_of Geu a b = not (lt_u a b)

-- Loads and stores.

abbrev pub size_of : Width → ℕ
size_of Byte = 1
size_of Half = 2
size_of Word = 4
size_of ByteU = 1
size_of HalfU = 2

-- whether a load or store may be: else it is fault 3, "a load or store that isn't aligned to its size, or leaves memory, or lies below 0x100000" (§4)
unfoldable pub reaches : Width → ℕ → Bool
reaches s at = both (eqb (at % size_of s) 0) (both (leb (at + size_of s) memory_bytes) (leb data_start at))

unfoldable pub read_at : Width → List ℕ → ℕ → ℕ
read_at Byte m i = sign_extend 8 (byte_at m i)
read_at Half m i = sign_extend 16 (half_at m i)
read_at Word m i = word_at m i
read_at ByteU m i = byte_at m i
read_at HalfU m i = half_at m i

unfoldable pub write_at : Width → List ℕ → ℕ → ℕ → List ℕ
write_at Byte m i v = set m i (byte₀ v)
write_at ByteU m i v = set m i (byte₀ v)
write_at Half m i v = set (set m i (byte₀ v)) (i + 1) (byte₁ v)
write_at HalfU m i v = set (set m i (byte₀ v)) (i + 1) (byte₁ v)
write_at Word m i v = set (set (set (set m i (byte₀ v)) (i + 1) (byte₁ v)) (i + 2) (byte₂ v)) (i + 3) (byte₃ v)

-- How an instruction ends.

-- gone on at p; with memory changed; with register rd written; with a number appended to the log
abbrev pub goto : Machine → ℕ → Machine
goto m p = state m.registers p m.memory m.log Going

abbrev pub stored : Machine → List ℕ → ℕ → Machine
stored m memory p = state m.registers p memory m.log Going

abbrev pub wrote : Machine → ℕ → ℕ → ℕ → Machine
wrote m rd v p = state (set_register m.registers rd v) p m.memory m.log Going

abbrev pub logged : Machine → ℕ → ℕ → Machine
logged m v p = state m.registers p m.memory (m.log ++ (v ∷ [])) Going

-- stopped at this instruction, which "has changed nothing else" (§4)
abbrev pub halt : Machine → Status → Machine
halt m s = state m.registers m.pc m.memory m.log s

-- "Addresses and pc are sums modulo 2^32."
abbrev pub next : Machine → ℕ
next m = add_w m.pc 4

unfoldable pub load_of : Width → ℕ → ℕ → Machine → Machine
load_of s rd at m = pick (reaches s at) (wrote m rd (read_at s m.memory at) (next m)) (halt m (Fault 3))

unfoldable pub store_of : Width → ℕ → ℕ → Machine → Machine
store_of s at v m = pick (reaches s at) (stored m (write_at s m.memory at v) (next m)) (halt m (Fault 3))

-- ecall, by x17 (§4): exit; "appends x10 to the log and goes on", or trap 4 where the log, which has this room, is full; trap x10; fault 5
unfoldable pub call_of : ℕ → Machine → Machine
call_of room m =
    pick (eqb (reg m 17) 0) (halt m Exit)
    (pick (eqb (reg m 17) 1) (pick (ltb (length m.log) room) (logged m (reg m 10) (next m)) (halt m (Trap 4)))
    (pick (eqb (reg m 17) 2) (halt m (Trap (reg m 10)))
    (halt m (Fault 5))))

unfoldable pub exec_of : ℕ → Instr → Machine → Machine
-- lui: rd = imm
exec_of room (Lui rd imm) m = wrote m rd imm (next m)
-- auipc: rd = pc + imm
exec_of room (Auipc rd imm) m = wrote m rd (add_w m.pc imm) (next m)
-- jal: rd = pc + 4, pc = pc + imm
exec_of room (Jal rd imm) m = wrote m rd (next m) (add_w m.pc imm)
-- jalr: rd = pc + 4, pc = (rs1 + imm) with bit 0 cleared; rs1 is read first
exec_of room (Jalr rd rs1 imm) m = wrote m rd (next m) (add_w (reg m rs1) imm / 2 * 2)
-- beq bne blt bge bltu bgeu: pc = pc + imm if so
exec_of room (Branch c rs1 rs2 imm) m = goto m (pick (cond_of c (reg m rs1) (reg m rs2)) (add_w m.pc imm) (next m))
exec_of room (Load s rd rs1 imm) m = load_of s rd (add_w (reg m rs1) imm) m
exec_of room (Store s rs1 rs2 imm) m = store_of s (add_w (reg m rs1) imm) (reg m rs2) m
-- "sltiu compares with the sign-extended immediate read as unsigned": imm is sign-extended already
exec_of room (OpImm o rd rs1 imm) m = wrote m rd (alu_of o (reg m rs1) imm) (next m)
exec_of room (Shift o rd rs1 amount) m = wrote m rd (alu_of o (reg m rs1) amount) (next m)
exec_of room (Op o rd rs1 rs2) m = wrote m rd (alu_of o (reg m rs1) (reg m rs2)) (next m)
-- fence: nothing
exec_of room (Fence rd rs1 imm) m = goto m (next m)
exec_of room Ecall m = call_of room m
exec_of room Ebreak m = halt m (Fault 4)
exec_of room Unknown m = halt m (Fault 2)
