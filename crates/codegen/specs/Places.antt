-- Where values are: the frame of an activation, and the places of constants, locals and temporaries.
use Rattle.std.specs.Prelude.{ℕ, zero, suc, ◌+◌, ◌-◌, ◌*◌, ◌/◌, ◌%◌, ◌^◌, Bool, true, false, List, [], ◌∷◌, ◌++◌, ltb, leb}
use Rattle.word.specs.Choice.{pick, either}
use Rattle.word.specs.Word.{sign_extend}
use Rattle.processor.specs.declared.Alu.TheVariants.{Add}
use Rattle.language.specs.Meaning.{most_activations}
use Rattle.symbolic.specs.Symbolic.{Temporary, Reg, x0, reg, sp, answer, scratch, Instruction, lui, opi, mv, lw, sw}

-- The frame. All frames are of one size: word 0 is the return address, then come 64 locals, then the temporaries. The stack grows up from behind the
-- largest block of arrays (16,384 words from 0x100000 on); sp is the frame of the activation that runs.

abbrev pub most_locals : ℕ
most_locals = 64

abbrev pub most_temporaries : ℕ
most_temporaries = 431

abbrev pub frame_words : ℕ
frame_words = 1 + most_locals + most_temporaries

abbrev pub frame_bytes : ℕ
frame_bytes = 4 * frame_words

abbrev pub stack_start : ℕ
stack_start = 0x110000

-- behind the frames of 64 activations
abbrev pub stack_end : ℕ
stack_end = stack_start + most_activations * frame_bytes

-- words of the frame: of a local, of a temporary
abbrev pub local_word : ℕ → ℕ
local_word y = suc y

abbrev pub temporary_word : ℕ → ℕ
temporary_word d = suc most_locals + d

-- the first temporaries are in registers; each has a word of the frame besides, where it is saved across a call
abbrev pub in_registers : ℕ
in_registers = 7

abbrev pub in_register : ℕ → Bool
in_register d = ltb d in_registers

-- Where a value is: nowhere yet, since it is known; in a local's word; in a temporary.
pub data Place : Type 0 where
  constant local temporary : ℕ → Place

-- so many temporaries are in use, once a value is at its place
abbrev pub above : Place → ℕ → ℕ
above (constant n) d = d
above (local y) d = d
above (temporary j) d = suc d

-- Constants. A word that 12 bits, sign-extended, give; and the two parts of any word: the upper part is one larger where bit 11 of the lower is set.

unfoldable pub short : ℕ → Bool
short n = either (ltb n 2048) (leb (2 ^ 32 - 2048) n)

unfoldable pub upper_of : ℕ → ℕ
upper_of n = (n + 2048) / 4096 * 4096 % 2 ^ 32

unfoldable pub lower_of : ℕ → ℕ
lower_of n = sign_extend 12 (n % 4096)

abbrev pub constant_by : Bool → Reg → ℕ → List Instruction
constant_by true r n = opi Add r x0 n ∷ []
constant_by false r n = lui r (upper_of n) ∷ opi Add r r (lower_of n) ∷ []

abbrev pub constant_to : Reg → ℕ → List Instruction
constant_to r n = constant_by (short n) r n

-- An operand: its register, once it is fetched to scratch register w where it is in none.

abbrev pub source : Place → ℕ → Reg
source (constant zero) w = x0
source (constant (suc n)) w = scratch w
source (local y) w = scratch w
source (temporary d) w = pick (in_register d) (reg Temporary d) (scratch w)

abbrev pub fetch : Place → ℕ → List Instruction
fetch (constant zero) w = []
fetch (constant (suc n)) w = constant_to (scratch w) (suc n)
fetch (local y) w = lw (scratch w) sp (4 * local_word y) ∷ []
fetch (temporary d) w = pick (in_register d) [] (lw (scratch w) sp (4 * temporary_word d) ∷ [])

-- A value becomes temporary d: it is put into this register, and then it is kept.

abbrev pub target : ℕ → Reg
target d = pick (in_register d) (reg Temporary d) (scratch 0)

abbrev pub keep : ℕ → List Instruction
keep d = pick (in_register d) [] (sw (scratch 0) sp (4 * temporary_word d) ∷ [])

-- 0 or 1 becomes temporary d
abbrev pub settle : ℕ → ℕ → List Instruction
settle v d = opi Add (target d) x0 v ∷ keep d

-- a value from its place to temporary d, where it may be already
abbrev pub move : Place → ℕ → List Instruction
move (constant n) d = fetch (constant n) 0 ++ (mv (target d) (source (constant n) 0) ∷ keep d)
move (local y) d = fetch (local y) 0 ++ (mv (target d) (source (local y) 0) ∷ keep d)
move (temporary j) d = []

-- a value from its place to the register of results and of what is logged
abbrev pub bring : Place → List Instruction
bring (constant n) = constant_to answer n
bring (local y) = lw answer sp (4 * local_word y) ∷ []
bring (temporary d) = pick (in_register d) (mv answer (reg Temporary d) ∷ []) (lw answer sp (4 * temporary_word d) ∷ [])
