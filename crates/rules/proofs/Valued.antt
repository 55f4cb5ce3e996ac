-- Types of the code, and document 01's.
use mathlib.Core.Path.{◌≡◌, refl, sym, ap, ◌∙◌}
use mathlib.Core.Bool.{Bool, true, false, not}
use mathlib.Core.Option.{none, some}
use mathlib.Core.List.{List}
use mathlib.Core.Logic.{◌⊎◌, inl, inr}
use Prim.Native.Nat.{ℕ, ◌+◌, ◌*◌, ◌<◌}
use native.Mathlib.Omega.{arith}
use borrow.Author.Tests.{eq-eqb, ne_eqb}
use denote.Enum.Declared.{tag_of}
use denote.Enum.Bare.{sameb}
use Rattle.std.specs.Prelude.{Result, Ok, Err}
use Rattle.std.specs.Result.{IsErrAnd, result_unwrap_or}
use Rattle.grammar.specs.Numbers.{ReadsType}
use Rattle.flat.specs.declared.UnknownNumber.{UnknownNumber}
use Rattle.rules.specs.declared.Broken.{Broken}
use Rattle.language.specs.Tree.{Ty, int, bool}
use Rattle.language.specs.Rules.{same_ty}
use Rattle.rules.specs.Tables.{word, type_of, result_of, local_at}
use Rattle.rules.specs.Values.{meant, known}
use Rattle.flat.specs.Numbers.{kind_number}
use Rattle.flat.specs.declared.item.Kind as I
use Rattle.flat.specs.declared.item.Kind.TheVariants as IV
use Rattle.flat.specs.contracts.item.Kind.{the_type as item_type}
use Rattle.grammar.specs.contracts.tree.ValueType.{the_type}
use Rattle.grammar.specs.declared.tree.ValueType.{ValueType}
use Rattle.grammar.specs.declared.tree.ValueType.TheVariants as V

pub number : (t : ValueType) → type_of (tag_of the_type t + 1) ≡ meant t
unfolding type_of
number V.Int = refl
number V.Bool = refl

pub type_read : (n : ℕ) (r : Result ValueType UnknownNumber) → ReadsType n r → meant (result_unwrap_or r V.Int) ≡ type_of n
unfolding type_of
type_read n (Ok V.Int) h = rw (← h) refl
type_read n (Ok V.Bool) h = rw (← h) refl
type_read n (Err e) h = rw (ne_eqb n 2 (other h.1)) refl
  where
    other : {n : ℕ} → (n < 1) ⊎ (2 < n) → n ≡ 2 → ⊥
    other (inl l) e = omega (arith, l, e)
    other (inr l) e = omega (arith, l, e)

pub no_type : (n : ℕ) → n ≡ 0 → none ≡ result_of n
unfolding result_of
no_type n e = rw (eq-eqb n 0 e) refl

pub a_type : (n : ℕ) {t : Ty} → (n ≡ 0 → ⊥) → t ≡ type_of n → some t ≡ result_of n
unfolding result_of
a_type n e h = rw (ne_eqb n 0 e, h) refl

same_is : (x y : ValueType) → sameb the_type x y ≡ same_ty (meant y) (meant x)
same_is V.Int V.Int = refl
same_is V.Int V.Bool = refl
same_is V.Bool V.Int = refl
same_is V.Bool V.Bool = refl

pub denied : (b : Bool) → not b ≡ true → b ≡ false
denied true e = sym e
denied false e = refl

pub granted : (b : Bool) → not b ≡ false → b ≡ true
granted true e = refl
granted false e = sym e

-- what a test of two types says
pub unlike : {r : Bool} (x y : ValueType) → r ≡ not (sameb the_type x y) → r ≡ true → same_ty (meant y) (meant x) ≡ false
unlike x y h e = sym (same_is x y) ∙ denied (sameb the_type x y) (sym h ∙ e)

pub alike : {r : Bool} (x y : ValueType) → r ≡ not (sameb the_type x y) → r ≡ false → same_ty (meant y) (meant x) ≡ true
alike x y h e = sym (same_is x y) ∙ granted (sameb the_type x y) (sym h ∙ e)

-- the same of a type that is named
pub unlike_named : {t : Ty} {r : Bool} (x y : ValueType) → meant x ≡ t → r ≡ not (sameb the_type x y) → r ≡ true → same_ty (meant y) t ≡ false
unlike_named x y n h e = ap (same_ty (meant y)) (sym n) ∙ unlike x y h e

pub alike_named : {t : Ty} {r : Bool} (x y : ValueType) → meant x ≡ t → r ≡ not (sameb the_type x y) → r ≡ false → same_ty (meant y) t ≡ true
alike_named x y n h e = ap (same_ty (meant y)) (sym n) ∙ alike x y h e

-- a type that is read in a word
pub through : {t : Ty} {n m : ℕ} → t ≡ type_of n → n ≡ m → t ≡ type_of m
through h e = h ∙ ap type_of e

pub local_read : (text ws : List ℕ) (i : ℕ) {place length : ℕ} (t : ValueType) {slot : ℕ} → place ≡ word ws (4 * i) → length ≡ word ws (4 * i + 1) → meant t ≡ type_of (word ws (4 * i + 2)) → slot ≡ word ws (4 * i + 3) →
    known text (record { name = record { place = place; length = length }; ty = t; slot = slot }) ≡ local_at text ws i
unfolding local_at
local_read text ws i t e f g h = rw (e, f, g, h) refl

flip : (t u : Ty) → same_ty t u ≡ same_ty u t
flip int int = refl
flip int bool = refl
flip bool int = refl
flip bool bool = refl

twice : (b : Bool) → not (not b) ≡ b
twice true = refl
twice false = refl

-- what a test of two types that are read in words says
pub words_alike : (x y : ValueType) {n m p q : ℕ} {r : Bool} → meant x ≡ type_of n → n ≡ p → meant y ≡ type_of m → m ≡ q → r ≡ not (sameb the_type x y) → not r ≡ same_ty (type_of p) (type_of q)
words_alike x y e f g h k = ap not k ∙ (twice (sameb the_type x y) ∙ (same_is x y ∙ (flip (meant y) (meant x) ∙ rw (through e f, through g h) refl)))

-- a broken rule that is passed on
pub passed : {A : Type 0} (r : Result A Broken) {b : Broken} → IsErrAnd r (λ y. y ≡ b) → r ≡ Err b
passed (Ok a) h = absurd h
passed (Err y) h = ap (λ (z : Broken). Err z) h

-- the number of an item's kind
pub kind_is : (k : I.Kind) → tag_of item_type k ≡ kind_number k
kind_is IV.Number = refl
kind_is IV.Local = refl
kind_is IV.Element = refl
kind_is IV.Call = refl
kind_is IV.Unary = refl
kind_is IV.Strict = refl
kind_is IV.And = refl
kind_is IV.Or = refl
kind_is IV.Join = refl
