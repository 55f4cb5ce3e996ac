-- What the checker keeps in words while it reads a tree: names as parts of the text, types, the globals and the visible locals. Each table is read
-- as the list of document 01 §4 that it stands for, the last entry first.
use Rattle.std.specs.Prelude.{Bool, true, false, List, [], ◌∷◌, ℕ, zero, suc, ◌+◌, ◌*◌, eqb, get_or}
use Rattle.std.proofs.Math.Option.{Option, none, some}
use Rattle.word.specs.Choice.{pick, both}
use Rattle.language.specs.Tree.{Name, Ty, int, bool}
use Rattle.language.specs.Rules.{Global, Local, Thing, Signature, an_array, a_function, same_ty}

abbrev pub word : List ℕ → ℕ → ℕ
word ws i = get_or ws i 0

-- the n bytes from a on
unfoldable pub part : List ℕ → ℕ → ℕ → Name
part text a zero = []
part text a (suc n) = word text a ∷ part text (a + 1) n

-- a type's number: 1 int, 2 bool
unfoldable pub type_of : ℕ → Ty
type_of n = pick (eqb n 2) bool int

-- a result type's number: 0 for none
unfoldable pub result_of : ℕ → Option Ty
result_of n = pick (eqb n 0) none (some (type_of n))

-- n types, one at each d-th word from i on
unfoldable pub types_from : List ℕ → ℕ → ℕ → ℕ → List Ty
types_from ws d i zero = []
types_from ws d i (suc n) = type_of (word ws i) ∷ types_from ws d (i + d) n

unfoldable pub same_types : List Ty → List Ty → Bool
same_types [] [] = true
same_types [] (t ∷ ts) = false
same_types (t ∷ ts) [] = false
same_types (t ∷ ts) (u ∷ us) = both (same_ty t u) (same_types ts us)

-- A visible local is four words: its name's place and length, its type, its slot.

abbrev pub local_words : ℕ
local_words = 4

unfoldable pub local_at : List ℕ → List ℕ → ℕ → Local
local_at text ws i = record { name = part text (word ws (4 * i)) (word ws (4 * i + 1)); type = type_of (word ws (4 * i + 2)); slot = word ws (4 * i + 3) }

unfoldable pub locals_in : List ℕ → List ℕ → ℕ → List Local
locals_in text ws zero = []
locals_in text ws (suc n) = local_at text ws n ∷ locals_in text ws n

-- A global is two words: where its header stands in the tree, and its array's offset or its function's number. The rest stands in the header.

abbrev pub global_words : ℕ
global_words = 2

-- the signature of function v, whose header stands at h
abbrev pub signature : List ℕ → ℕ → ℕ → Signature
signature tree h v = record { number = v; parameters = types_from tree 3 (h + 10) (word tree (h + 3)); result = result_of (word tree (h + 4)) }

unfoldable pub thing_at : List ℕ → ℕ → ℕ → Thing
thing_at tree h v =
    pick (eqb (word tree h) 0) (an_array (record { offset = v; size = word tree (h + 3) })) (a_function (signature tree h v))

-- the global of the header at h, with its offset or number
abbrev pub global_from : List ℕ → List ℕ → ℕ → ℕ → Global
global_from text tree h v = record { place = word tree (h + 1); name = part text (word tree (h + 1)) (word tree (h + 2)); thing = thing_at tree h v }

unfoldable pub global_at : List ℕ → List ℕ → List ℕ → ℕ → Global
global_at text tree ws i = global_from text tree (word ws (2 * i)) (word ws (2 * i + 1))

unfoldable pub globals_in : List ℕ → List ℕ → List ℕ → ℕ → List Global
globals_in text tree ws zero = []
globals_in text tree ws (suc n) = global_at text tree ws n ∷ globals_in text tree ws n
