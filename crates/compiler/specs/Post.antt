-- What the functions ensure, of every expression that may end where they look.
use Rattle.std.specs.Prelude.{ℕ, ◌+◌, ◌-◌, ◌*◌, ◌≤◌, ◌<◌, ◌≡◌, Bool, true, false, List, [], ◌∷◌, ◌++◌, ltb, leb, get_or, length}
use Rattle.std.proofs.Math.Option.{Option, some}
use Rattle.word.specs.Choice.{pick}
use Rattle.language.specs.Tree as T
use Rattle.language.specs.Tree.{Unary, negate, Strict, eq, ne, lt, le, gt, ge, add, sub, mul, div, rem}
use Rattle.language.specs.Core.{Expr, Args}
use Rattle.language.specs.Core as C
use Rattle.processor.specs.declared.Cond.{Cond}
use Rattle.flat.specs.Words.{word, unary_number, strict_number}
use Rattle.codegen.specs.Owed.{count}
use Rattle.codegen.specs.Places.{Place, above}
use Rattle.codegen.specs.Operators.{operating, applying, relation, reading, comparing}
use Rattle.codegen.specs.Expressions.{place_of, places_of, code, codes, condition, passes, calling}
use Rattle.emission.specs.Tape.{Emits}
use Rattle.compiler.specs.Lies.{first, second, Lies, LieAll}

-- how many operands an item of kind k takes; of a call that is its second word
unfoldable pub operands_of : ℕ → ℕ → ℕ
operands_of k b = get_or (0 ∷ 0 ∷ 1 ∷ b ∷ 1 ∷ 2 ∷ 1 ∷ 1 ∷ 2 ∷ []) k 0

-- the unary operator with a number; past the table the last one
unfoldable pub unary_of_number : ℕ → Unary
unary_of_number o = get_or (negate ∷ []) o T.not

-- the strict operator with a number; past the table the last one
unfoldable pub strict_of_number : ℕ → Strict
strict_of_number o = get_or (eq ∷ ne ∷ lt ∷ le ∷ gt ∷ ge ∷ add ∷ sub ∷ mul ∷ div ∷ []) o rem

-- the expression that ends at j starts at r
pub record Starts (ws : List ℕ) (j r : ℕ) : Type 0 where
  pub each : (e : Expr) (i : ℕ) → Lies ws e i j → r ≡ i

-- the place of the value of the expression that ends at j
pub record PlaceAt (ws : List ℕ) (j d : ℕ) (p : Place) : Type 0 where
  pub each : (e : Expr) (i : ℕ) → Lies ws e i j → p ≡ place_of e d

-- how many temporaries a value takes, and the values of arguments
unfoldable pub weight : Expr → ℕ
weight e = above (place_of e 0) 0

unfoldable pub weights : Args → ℕ
weights C.none = 0
weights (C.more e xs) = weight e + weights xs

-- how many n arguments take that end at j
pub record Weighs (ws : List ℕ) (j n r : ℕ) : Type 0 where
  pub each : (xs : Args) (i : ℕ) → LieAll ws xs i j → count xs ≡ n → r ≡ weights xs

-- of two expressions, of which the second ends at j: where it starts, and how many temporaries are in use before it
pub record SidesAt (ws : List ℕ) (j d middle next : ℕ) : Type 0 where
  pub each : (a b : Expr) (i m : ℕ) → Lies ws a i m → Lies ws b m j → d < 4294967295 → (middle ≡ m) × (next ≡ above (place_of a d) d)

-- The own code of the item that ends at j, when its operands have theirs.

pub record Reads (ws : List ℕ) (j d at : ℕ) (us us' : List ℕ) (r : ℕ) : Type 0 where
  pub each : (e : Expr) (i : ℕ) → Lies ws e i (j - 4) → Emits (reading (record { offset = first ws j; size = second ws j }) (place_of e d) d) at us us' r

pub record Applies (ws : List ℕ) (j d at : ℕ) (us us' : List ℕ) (r : ℕ) : Type 0 where
  pub each : (o : Unary) (e : Expr) (i : ℕ) → first ws j ≡ unary_number o → Lies ws e i (j - 4) → Emits (applying o (place_of e d) d) at us us' r

-- the sides: the right one starts at `middle`, with `next` temporaries in use
pub record Operates (ws : List ℕ) (j middle next d at : ℕ) (us us' : List ℕ) (r : ℕ) : Type 0 where
  pub each : (o : Strict) (a b : Expr) (i : ℕ) → first ws j ≡ strict_number o → Lies ws a i middle → Lies ws b middle (j - 4) →
      Emits (operating o (place_of a d) (place_of b next) d) at us us' r

pub record Compares (ws : List ℕ) (near t : Bool) (c : Cond) (turned : Bool) (j middle next d at to : ℕ) (us us' : List ℕ) (r : ℕ) : Type 0 where
  pub each : (a b : Expr) (i : ℕ) → Lies ws a i middle → Lies ws b middle (j - 4) → Emits (comparing near t c turned (place_of a d) (place_of b next) (to - at)) at us us' r

-- Where functions begin, by a table whose last word is for all numbers past it. A position past the longest code is none.

abbrev pub position : ℕ → ℕ
position n = pick (leb n 131072) n 0

unfoldable pub entry_in : List ℕ → ℕ → ℕ
entry_in es f = position (pick (ltb f (length es)) (get_or es f 0) (get_or es (length es - 1) 0))

-- Whole expressions. So many temporaries are in use as there is room for before the expression's start.

pub record Values (ws es : List ℕ) (near : Bool) (j d at : ℕ) (us us' : List ℕ) (r : ℕ) : Type 0 where
  pub each : (e : Expr) (i : ℕ) → Lies ws e i j → 4 * d ≤ i → Emits (code (entry_in es) near e d) at us us' r

pub record Arguments (ws es : List ℕ) (near : Bool) (j n d at : ℕ) (us us' : List ℕ) (r : ℕ) : Type 0 where
  pub each : (xs : Args) (i : ℕ) → LieAll ws xs i j → count xs ≡ n → 4 * d ≤ i → Emits (codes (entry_in es) near xs d) at us us' r

-- a jump to `to` where the truth is t
pub record Conditions (ws es : List ℕ) (near t : Bool) (j d at to : ℕ) (us us' : List ℕ) (r : ℕ) : Type 0 where
  pub each : (e : Expr) (i : ℕ) → Lies ws e i j → 4 * d ≤ i → Emits (condition (entry_in es) near e t d (to - at)) at us us' r

-- values passed as arguments, the last one first
pub record Passes (ws : List ℕ) (j n d at : ℕ) (us us' : List ℕ) (r : ℕ) : Type 0 where
  pub each : (xs : Args) (i : ℕ) → LieAll ws xs i j → count xs ≡ n → 4 * d ≤ i → Emits (passes (places_of xs d) 0) at us us' r

-- a call's own code, with its arguments' values at their places; and with the code of these
pub record Callings (ws es : List ℕ) (j d at : ℕ) (us us' : List ℕ) (r : ℕ) : Type 0 where
  pub each : (xs : Args) (i : ℕ) → LieAll ws xs i (j - 4) → second ws j ≡ count xs → 4 * d ≤ i →
      Emits (calling (entry_in es (first ws j)) (places_of xs d) d) at us us' r

pub record Calls (ws es : List ℕ) (near : Bool) (j d at : ℕ) (us us' : List ℕ) (r : ℕ) : Type 0 where
  pub each : (xs : Args) (i : ℕ) → LieAll ws xs i (j - 4) → second ws j ≡ count xs → 4 * d ≤ i →
      Emits (codes (entry_in es) near xs d ++ calling (entry_in es (first ws j)) (places_of xs d) d) at us us' r

-- What the functions ask: a position among the words, and one of code.
pub record Ready (j at : ℕ) : Type 0 where
  pub small : j ≤ 1073741824
  pub room : at ≤ 262144

-- a position of code to jump to
pub record Aimed (j at to : ℕ) : Type 0 where
  pub small : j ≤ 1073741824
  pub ahead : at ≤ to
  pub room : to ≤ 262144

-- the one branch that the item ending at j is, if it is one
pub record RelationAt (ws : List ℕ) (j : ℕ) (s : Option (Cond × Bool)) : Type 0 where
  pub strict : word ws (j - 4) ≡ 5 → s ≡ relation (strict_of_number (first ws j))
  pub only : (c : Cond) (turned : Bool) → s ≡ some (c, turned) → word ws (j - 4) ≡ 5

-- whether two truths are one
abbrev pub agree : Bool → Bool → Bool
agree true t = t
agree false true = false
agree false false = true
