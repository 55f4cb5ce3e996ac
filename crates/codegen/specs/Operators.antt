-- Operators, jumps and traps: which instructions they are.
use Rattle.std.specs.Prelude.{ℕ, zero, suc, ◌+◌, ◌*◌, Bool, true, false, List, [], ◌∷◌, ◌++◌, ltb}
use Rattle.std.proofs.Math.Option.{Option, none, some}
use Rattle.word.specs.Choice.{pick}
use Rattle.word.specs.Word.{neg_w}
use Rattle.processor.specs.declared.Alu.{Alu}
use Rattle.processor.specs.declared.Alu.TheVariants.{Add, Sub, Sll, Slt, Sltu, Mul, Div, Rem}
use Rattle.processor.specs.declared.Cond.{Cond}
use Rattle.processor.specs.declared.Cond.TheVariants.{Eq, Ne, Lt, Ge, Ltu, Geu}
use Rattle.processor.specs.Machine.{data_start}
use Rattle.language.specs.Tree.{Unary, negate, Strict, eq, ne, lt, le, gt, ge, add, sub, mul, div, rem}
use Rattle.language.specs.Tree as T
use Rattle.language.specs.Core.{Array}
use Rattle.language.specs.Meaning.{apply}
use Rattle.symbolic.specs.Symbolic.{Reg, x0, scratch, answer, request, Instruction, lui, opi, shift, op, lw, sw, branch, jump, call, ecall}
use Rattle.codegen.specs.Places.{Place, constant, local, temporary, short, upper_of, lower_of, constant_to, source, fetch, target, keep}

-- Traps: the stubs stand behind the first instructions of every image, three instructions each.

abbrev pub stub : ℕ → ℕ
stub t = 3 + 3 * t

abbrev pub trapping : ℕ → List Instruction
trapping t = opi Add answer x0 t ∷ opi Add request x0 2 ∷ ecall ∷ []

-- Jumps, if a comparison holds, over the k instructions that follow: near by a branch, far by a branch around a jump.

abbrev pub opposite : Cond → Cond
opposite Eq = Ne
opposite Ne = Eq
opposite Lt = Ge
opposite Ge = Lt
opposite Ltu = Geu
opposite Geu = Ltu

abbrev pub skip : Bool → Cond → Reg → Reg → ℕ → List Instruction
skip true c r s k = branch c r s (suc k) ∷ []
skip false c r s k = branch (opposite c) r s 2 ∷ jump (suc k) ∷ []

-- The strict operators as values: one instruction; one instruction once the divisor is tested; 1 where a comparison holds and else 0.
-- The sides may be exchanged.

pub data Work : Type 0 where
  plain : Alu → Bool → Work
  divided : Alu → Work
  tested : Cond → Bool → Work

abbrev pub work : Strict → Work
work add = plain Add false
work sub = plain Sub false
work mul = plain Mul false
work div = divided Div
work rem = divided Rem
work eq = tested Eq false
work ne = tested Ne false
work lt = plain Slt false
work gt = plain Slt true
work ge = tested Ge false
work le = tested Ge true

-- the left and the right side, exchanged or not
abbrev pub left : Bool → Reg → Reg → Reg
left turned r s = pick turned s r

abbrev pub right : Bool → Reg → Reg → Reg
right turned r s = pick turned r s

abbrev pub working : Work → Reg → Reg → ℕ → List Instruction
working (plain o t) r s d = op o (target d) (left t r s) (right t r s) ∷ keep d
working (divided o) r s d = branch Ne s x0 2 ∷ call (stub 1) ∷ op o (target d) r s ∷ keep d
working (tested c t) r s d =
    branch c (left t r s) (right t r s) 3 ∷ opi Add (target d) x0 0 ∷ jump 2 ∷ opi Add (target d) x0 1 ∷ keep d

-- with a short constant on the right: the operation and its immediate
abbrev pub with_constant : Strict → ℕ → Option (Alu × ℕ)
with_constant add n = pick (short n) (some (Add, n)) none
with_constant sub n = pick (short (neg_w n)) (some (Add, neg_w n)) none
with_constant lt n = pick (short n) (some (Slt, n)) none
with_constant mul n = none
with_constant div n = none
with_constant rem n = none
with_constant eq n = none
with_constant ne n = none
with_constant ge n = none
with_constant gt n = none
with_constant le n = none

abbrev pub immediate : Strict → Place → Option (Alu × ℕ)
immediate o (constant n) = with_constant o n
immediate o (local y) = none
immediate o (temporary d) = none

abbrev pub operating_by : Option (Alu × ℕ) → Strict → Place → Place → ℕ → List Instruction
operating_by (some (k, m)) o p q d = fetch p 0 ++ (opi k (target d) (source p 0) m ∷ keep d)
operating_by none o p q d = fetch p 0 ++ (fetch q 1 ++ working (work o) (source p 0) (source q 1) d)

-- the value of an operator becomes temporary d
abbrev pub operating : Strict → Place → Place → ℕ → List Instruction
operating o p q d = operating_by (immediate o q) o p q d

-- Unary operators: of a constant the result is one.

abbrev pub result : Unary → Place → ℕ → Place
result o (constant n) d = constant (apply o n)
result o (local y) d = temporary d
result o (temporary j) d = temporary d

abbrev pub alone : Unary → Reg → Reg → Instruction
alone negate r s = op Sub r x0 s
alone T.not r s = opi Sltu r s 1

abbrev pub applying : Unary → Place → ℕ → List Instruction
applying o (constant n) d = []
applying o (local y) d = fetch (local y) 0 ++ (alone o (target d) (source (local y) 0) ∷ keep d)
applying o (temporary j) d = fetch (temporary j) 0 ++ (alone o (target d) (source (temporary j) 0) ∷ keep d)

-- Conditions: the operators that are one branch, the jump where a comparison's truth is t, and that where a value's is.

abbrev pub relation : Strict → Option (Cond × Bool)
relation eq = some (Eq, false)
relation ne = some (Ne, false)
relation lt = some (Lt, false)
relation ge = some (Ge, false)
relation gt = some (Lt, true)
relation le = some (Ge, true)
relation add = none
relation sub = none
relation mul = none
relation div = none
relation rem = none

abbrev pub sense : Bool → Cond → Cond
sense true c = c
sense false c = opposite c

abbrev pub comparing : Bool → Bool → Cond → Bool → Place → Place → ℕ → List Instruction
comparing near t c turned p q k =
    fetch p 0 ++ (fetch q 1 ++ skip near (sense t c) (left turned (source p 0) (source q 1)) (right turned (source p 0) (source q 1)) k)

abbrev pub testing : Bool → Bool → Place → ℕ → List Instruction
testing near t p k = fetch p 0 ++ skip near (sense t Ne) (source p 0) x0 k

-- a constant's truth is known
abbrev pub always : Bool → ℕ → ℕ → List Instruction
always true zero k = []
always true (suc n) k = jump (suc k) ∷ []
always false zero k = jump (suc k) ∷ []
always false (suc n) k = []

-- Elements. The arrays lie from 0x100000 on; scratch register 0 and an offset give the element's address.

abbrev pub address : Array → ℕ → ℕ
address a i = data_start + 4 * (a.offset + i)

-- an index that is known to be inside, and its number
abbrev pub inside : Array → Place → Bool
inside a (constant n) = ltb n a.size
inside a (local y) = false
inside a (temporary d) = false

abbrev pub index : Place → ℕ
index (constant n) = n
index (local y) = 0
index (temporary d) = 0

-- the index is tested against the size, and then it gives the address
abbrev pub indexed : Array → Place → List Instruction
indexed a p =
    branch Ltu (source p 0) (scratch 1) 2 ∷ call (stub 2) ∷ shift Sll (scratch 0) (source p 0) 2
    ∷ lui (scratch 1) (upper_of (address a 0)) ∷ op Add (scratch 0) (scratch 0) (scratch 1) ∷ []

abbrev pub locate_by : Bool → Array → Place → List Instruction
locate_by true a p = lui (scratch 0) (upper_of (address a (index p))) ∷ []
locate_by false a p = fetch p 0 ++ (constant_to (scratch 1) a.size ++ indexed a p)

abbrev pub locate : Array → Place → List Instruction
locate a p = locate_by (inside a p) a p

abbrev pub offset : Array → Place → ℕ
offset a p = lower_of (address a (pick (inside a p) (index p) 0))

abbrev pub reading : Array → Place → ℕ → List Instruction
reading a p d = locate a p ++ (lw (target d) (scratch 0) (offset a p) ∷ keep d)

abbrev pub writing : Array → Place → Place → List Instruction
writing a p v = locate a p ++ (fetch v 1 ++ (sw (source v 1) (scratch 0) (offset a p) ∷ []))
