-- Document 03 §3: which word is which instruction. (What each does: Execute.antt.)
use Rattle.std.specs.Prelude.{ℕ, ◌+◌, ◌*◌, ◌/◌, ◌%◌, ◌^◌, ◌<◌, ◌≡◌, List, [], ◌∷◌, eqb, Result, MatchResult}
use Rattle.std.proofs.Math.Option.{Option, none, some}
use Rattle.word.specs.Choice.{pick}
use Rattle.word.specs.Word.{sign_extend}
use Rattle.processor.specs.declared.Alu.{Alu}
use Rattle.processor.specs.declared.Alu.TheVariants.{Add, Sub, Sll, Slt, Sltu, Xor, Srl, Sra, Or, And, Mul, Mulh, Mulhsu, Mulhu, Div, Divu, Rem, Remu}
use Rattle.processor.specs.declared.Cond.{Cond}
use Rattle.processor.specs.declared.Cond.TheVariants.{Eq, Ne, Lt, Ge, Ltu, Geu}
use Rattle.processor.specs.declared.Width.{Width}
use Rattle.processor.specs.declared.Width.TheVariants.{Byte, Half, Word, ByteU, HalfU}
use Rattle.processor.specs.declared.Instr.{Instr}
use Rattle.processor.specs.declared.Instr.TheVariants.{Lui, Auipc, Jal, Jalr, Branch, Load, Store, OpImm, Shift, Op, Fence, Ecall, Ebreak, Unknown}
use Rattle.processor.specs.Formats.{opcode, rd, funct3, rs1, rs2, funct7, imm_i, imm_s, imm_b, imm_u, imm_j, r_word, i_word, s_word, b_word, u_word, j_word}

-- The numbers of the table's second column.

-- funct3 and funct7 in one number
abbrev pub key : ℕ → ℕ → ℕ
key f3 f7 = f7 * 8 + f3

-- | 33 R | 0 (00), 0 (20), 1, 2, 3, 4, 5 (00), 5 (20), 6, 7 | add sub sll slt sltu xor srl sra or and; funct7 00 unless said |
-- | 33 R | 0 to 7 (01) | mul mulh mulhsu mulhu div divu rem remu |
abbrev pub alu_key : Alu → ℕ
alu_key Add = key 0 0x00
alu_key Sub = key 0 0x20
alu_key Sll = key 1 0x00
alu_key Slt = key 2 0x00
alu_key Sltu = key 3 0x00
alu_key Xor = key 4 0x00
alu_key Srl = key 5 0x00
alu_key Sra = key 5 0x20
alu_key Or = key 6 0x00
alu_key And = key 7 0x00
alu_key Mul = key 0 0x01
alu_key Mulh = key 1 0x01
alu_key Mulhsu = key 2 0x01
alu_key Mulhu = key 3 0x01
alu_key Div = key 4 0x01
alu_key Divu = key 5 0x01
alu_key Rem = key 6 0x01
alu_key Remu = key 7 0x01

abbrev pub operations : List Alu
operations = Add ∷ Sub ∷ Sll ∷ Slt ∷ Sltu ∷ Xor ∷ Srl ∷ Sra ∷ Or ∷ And ∷ Mul ∷ Mulh ∷ Mulhsu ∷ Mulhu ∷ Div ∷ Divu ∷ Rem ∷ Remu ∷ []

-- | 13 I | 0 2 3 4 6 7 | addi slti sltiu xori ori andi |
abbrev pub immediates : List Alu
immediates = Add ∷ Slt ∷ Sltu ∷ Xor ∷ Or ∷ And ∷ []

-- | 13 I | 1 (00), 5 (00), 5 (20) | slli srli srai; the amount is bits 24 to 20 |
abbrev pub shifts : List Alu
shifts = Sll ∷ Srl ∷ Sra ∷ []

-- | 63 B | 0 1 4 5 6 7 | beq bne blt bge bltu bgeu: pc = pc + imm if so |
abbrev pub cond_key : Cond → ℕ
cond_key Eq = 0
cond_key Ne = 1
cond_key Lt = 4
cond_key Ge = 5
cond_key Ltu = 6
cond_key Geu = 7

abbrev pub branches : List Cond
branches = Eq ∷ Ne ∷ Lt ∷ Ge ∷ Ltu ∷ Geu ∷ []

-- | 03 I | 0 1 2 4 5 | lb lh lw lbu lhu |
abbrev pub width_key : Width → ℕ
width_key Byte = 0
width_key Half = 1
width_key Word = 2
width_key ByteU = 4
width_key HalfU = 5

abbrev pub loads : List Width
loads = Byte ∷ Half ∷ Word ∷ ByteU ∷ HalfU ∷ []

-- | 23 S | 0 1 2 | sb sh sw |
abbrev pub stores : List Width
stores = Byte ∷ Half ∷ Word ∷ []

-- the entry of a list with this number
abbrev pub find : {A : Type 0} → (A → ℕ) → List A → ℕ → Option A
find number [] k = none
find number (a ∷ rest) k = pick (eqb k (number a)) (some a) (find number rest k)

-- a search in the code that gives the entry which the list has, and fails where it has none
abbrev pub Finds : {A E : Type 0} → Option A → Result A E → Type 0
Finds x r = MatchResult r (λ a. x ≡ some a) (λ e. x ≡ none)

-- the instruction of the entry that was found, else another
abbrev pub found : {A : Type 0} → Option A → (A → Instr) → Instr → Instr
found none instr other = other
found (some a) instr other = instr a

-- The rows by opcode. "Every other word is unknown."

unfoldable pub decode_jalr : ℕ → Instr
decode_jalr w = pick (eqb (funct3 w) 0) (Jalr (rd w) (rs1 w) (imm_i w)) Unknown

unfoldable pub decode_branch : ℕ → Instr
decode_branch w = found (find cond_key branches (funct3 w)) (λ c. Branch c (rs1 w) (rs2 w) (imm_b w)) Unknown

unfoldable pub decode_load : ℕ → Instr
decode_load w = found (find width_key loads (funct3 w)) (λ s. Load s (rd w) (rs1 w) (imm_i w)) Unknown

unfoldable pub decode_store : ℕ → Instr
decode_store w = found (find width_key stores (funct3 w)) (λ s. Store s (rs1 w) (rs2 w) (imm_s w)) Unknown

unfoldable pub decode_shift : ℕ → Instr
decode_shift w = found (find alu_key shifts (key (funct3 w) (funct7 w))) (λ o. Shift o (rd w) (rs1 w) (rs2 w)) Unknown

unfoldable pub decode_op_imm : ℕ → Instr
decode_op_imm w = found (find alu_key immediates (funct3 w)) (λ o. OpImm o (rd w) (rs1 w) (imm_i w)) (decode_shift w)

unfoldable pub decode_op : ℕ → Instr
decode_op w = found (find alu_key operations (key (funct3 w) (funct7 w))) (λ o. Op o (rd w) (rs1 w) (rs2 w)) Unknown

-- | 0f I | 0 | fence: nothing |
unfoldable pub decode_fence : ℕ → Instr
decode_fence w = pick (eqb (funct3 w) 0) (Fence (rd w) (rs1 w) (imm_i w)) Unknown

-- | 73 | the words 00000073, 00100073 | ecall, ebreak |
unfoldable pub decode_system : ℕ → Instr
decode_system w = pick (eqb w 0x00000073) Ecall (pick (eqb w 0x00100073) Ebreak Unknown)

unfoldable pub decode_of : ℕ → Instr
decode_of w =
    pick (eqb (opcode w) 0x37) (Lui (rd w) (imm_u w))
    (pick (eqb (opcode w) 0x17) (Auipc (rd w) (imm_u w))
    (pick (eqb (opcode w) 0x6f) (Jal (rd w) (imm_j w))
    (pick (eqb (opcode w) 0x67) (decode_jalr w)
    (pick (eqb (opcode w) 0x63) (decode_branch w)
    (pick (eqb (opcode w) 0x03) (decode_load w)
    (pick (eqb (opcode w) 0x23) (decode_store w)
    (pick (eqb (opcode w) 0x13) (decode_op_imm w)
    (pick (eqb (opcode w) 0x33) (decode_op w)
    (pick (eqb (opcode w) 0x0f) (decode_fence w)
    (pick (eqb (opcode w) 0x73) (decode_system w)
    Unknown))))))))))

-- The word of an instruction. (Unknown has none, and gives the word 0, which is unknown.)
unfoldable pub encode_of : Instr → ℕ
encode_of (Lui d imm) = u_word imm d 0x37
encode_of (Auipc d imm) = u_word imm d 0x17
encode_of (Jal d imm) = j_word imm d 0x6f
encode_of (Jalr d a imm) = i_word imm a 0 d 0x67
encode_of (Branch c a b imm) = b_word imm b a (cond_key c) 0x63
encode_of (Load s d a imm) = i_word imm a (width_key s) d 0x03
encode_of (Store s a b imm) = s_word imm b a (width_key s) 0x23
encode_of (OpImm o d a imm) = i_word imm a (alu_key o) d 0x13
encode_of (Shift o d a b) = r_word (alu_key o / 8) b a (alu_key o % 8) d 0x13
encode_of (Op o d a b) = r_word (alu_key o / 8) b a (alu_key o % 8) d 0x33
encode_of (Fence d a imm) = i_word imm a 0 d 0x0f
encode_of Ecall = 0x00000073
encode_of Ebreak = 0x00100073
encode_of Unknown = 0x00000000

-- The instructions that have a word: registers and amounts below 32, immediates that the format holds, operations that its row has.

-- a number that so many bits, sign-extended, give; with bit 0 clear; with only the upper 20 bits set
abbrev pub Extended : ℕ → ℕ → Type 0
Extended n imm = imm ≡ sign_extend n (imm % 2 ^ n)

abbrev pub Even : ℕ → Type 0
Even imm = imm % 2 ≡ 0

abbrev pub Upper : ℕ → Type 0
Upper imm = (imm < 2 ^ 32) × (imm % 2 ^ 12 ≡ 0)

-- an entry that a list has
abbrev pub Among : {A : Type 0} → (A → ℕ) → List A → A → Type 0
Among number l a = find number l (number a) ≡ some a

unfoldable pub WellFormed : Instr → Type 0
WellFormed (Lui d imm) = (d < 32) × Upper imm
WellFormed (Auipc d imm) = (d < 32) × Upper imm
WellFormed (Jal d imm) = (d < 32) × Extended 21 imm × Even imm
WellFormed (Jalr d a imm) = (d < 32) × (a < 32) × Extended 12 imm
WellFormed (Branch c a b imm) = (a < 32) × (b < 32) × Extended 13 imm × Even imm
WellFormed (Load s d a imm) = (d < 32) × (a < 32) × Extended 12 imm
WellFormed (Store s a b imm) = Among width_key stores s × (a < 32) × (b < 32) × Extended 12 imm
WellFormed (OpImm o d a imm) = Among alu_key immediates o × (d < 32) × (a < 32) × Extended 12 imm
WellFormed (Shift o d a b) = Among alu_key shifts o × (d < 32) × (a < 32) × (b < 32)
WellFormed (Op o d a b) = (d < 32) × (a < 32) × (b < 32)
WellFormed (Fence d a imm) = (d < 32) × (a < 32) × Extended 12 imm
WellFormed Ecall = Unit {0}
WellFormed Ebreak = Unit {0}
WellFormed Unknown = ⊥
