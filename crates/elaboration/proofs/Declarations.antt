-- What the declarations give: arrays are inside the elements, a function's number is its place among the functions, and it has as many parameters as are declared.
use mathlib.Core.Path.{◌≡◌, refl, sym, ap, ◌∙◌}
use mathlib.Core.Bool.{Bool, true, false}
use mathlib.Core.List.{List, [], ◌∷◌}
use mathlib.Core.Option.{Option, some}
use Prim.Native.Nat.{ℕ, zero, suc, ◌+◌, ◌≤◌, ◌<◌}
use native.Mathlib.Omega.{arith}
use lib.ListN.{length, get_or, drop}
use borrow.Author.Tests.{leb-true, eqb-true}
use Rattle.word.specs.Choice.{pick}
use Rattle.language.specs.Tree.{Place, Name, Param, Item, array, function}
use Rattle.language.specs.Core.{Array}
use Rattle.language.specs.Rules.{found, Signature, Thing, an_array, a_function, Global, global_of, is_array, is_function, and_then, array_of, function_of, most_elements_in_all, most_parameters, Declared, types, declare, declare_all, main_name, main_of}
use Rattle.language.specs.Tokens.{same}
use Rattle.elaboration.proofs.All.{All, kept, broken, then, anything, needed, so, Each}

-- how many parameters each function has, in order of declaration
unfoldable pub arities : List Item → List ℕ
arities [] = []
arities (array at x n ∷ is) = arities is
arities (function at x ps r b ∷ is) = length ps ∷ arities is

-- these are the parameters of function `number`, where functions have so many
pub record Callee (arity : List ℕ) (s : Signature) : Type 0 where
  pub known : s.number < length arity
  pub right : get_or arity s.number 0 ≡ length s.parameters
  pub few : length s.parameters ≤ most_parameters

-- a list from place k on begins with n
pub record Split {A : Type 0} (d : A) (xs : List A) (k : ℕ) (n : A) (ys : List A) : Type 0 where
  pub inside : k < length xs
  pub first : get_or xs k d ≡ n
  pub others : drop (suc k) xs ≡ ys

pub split : {A : Type 0} (d : A) (xs : List A) (k : ℕ) (n : A) (ys : List A) → drop k xs ≡ n ∷ ys → Split d xs k n ys
split d [] zero n ys e = let l : 0 ≡ suc (length ys) = ap length e in absurd (omega (arith, l))
split d [] (suc k) n ys e = let l : 0 ≡ suc (length ys) = ap length e in absurd (omega (arith, l))
split {A} d (x ∷ xs) zero n ys e = record { inside = omega arith; first = ap (λ (l : List A). get_or l 0 d) e; others = ap (drop 1) e }
split d (x ∷ xs) (suc k) n ys e = let s = split d xs k n ys e in record { inside = omega (arith, s.inside); first = s.first; others = s.others }

-- what is found by its name is one of those that are declared
module _ {A : Type 0} (P : A → Type 0) (is : Thing → Option A) (Fine : Thing → Type 0) (at : Place) (fine : (t : Thing) → Fine t → All P (found (is t) at)) where
  pub found_fine : (gs : List Global) → Each (λ g. Fine g.thing) gs → (x : Name) → All P (found (and_then (global_of gs x) (λ g. is g.thing)) at)
  unfolding global_of found
  found_fine [] Each.none x = broken
  found_fine (g ∷ gs) (Each.more h hs) x = go (same g.name x) (fine g.thing h) (found_fine gs hs x)
    where
      go : (b : Bool) → All P (found (is g.thing) at) → All P (found (and_then (global_of gs x) (λ g. is g.thing)) at) →
          All P (found (and_then (pick b (some g) (global_of gs x)) (λ g. is g.thing)) at)
      go true p q = p
      go false p q = q

abbrev pub Within : ℕ → Array → Type 0
Within elements a = a.offset + a.size ≤ elements

module _ (arity : List ℕ) where
  abbrev pub Known : ℕ → Thing → Type 0
  Known elements (an_array a) = Within elements a
  Known elements (a_function s) = Callee arity s

  abbrev pub AllKnown : ℕ → List Global → Type 0
  AllKnown elements gs = Each (λ g. Known elements g.thing) gs

  as_array : (elements : ℕ) (at : Place) (t : Thing) → Known elements t → All (Within elements) (found (is_array t) at)
  unfolding found
  as_array elements at (an_array a) h = kept h
  as_array elements at (a_function s) h = broken

  as_function : (elements : ℕ) (at : Place) (t : Thing) → Known elements t → All (Callee arity) (found (is_function t) at)
  unfolding found
  as_function elements at (an_array a) h = broken
  as_function elements at (a_function s) h = kept h

  pub array_known : {elements : ℕ} {gs : List Global} → AllKnown elements gs → (at : Place) (x : Name) → All (Within elements) (array_of gs at x)
  unfolding array_of
  array_known {elements} {gs} h at x = found_fine (Within elements) is_array (Known elements) at (as_array elements at) gs h x

  pub function_known : {elements : ℕ} {gs : List Global} → AllKnown elements gs → (at : Place) (x : Name) → All (Callee arity) (function_of gs at x)
  unfolding function_of
  function_known {elements} {gs} h at x = found_fine (Callee arity) is_function (Known elements) at (as_function elements at) gs h x

  -- "There is a function `main` without parameters"
  pub record Main (m : ℕ) : Type 0 where
    pub known : m < length arity
    pub alone : get_or arity m 0 ≡ 0

  pub main_known : {elements : ℕ} {gs : List Global} → AllKnown elements gs → (end : Place) → All Main (main_of gs end)
  unfolding main_of
  main_known {gs = gs} h end =
      then anything λ g _.
      then (function_known h g.place main_name) λ s c.
      then (needed g.place) λ _ e.
      then (needed g.place) λ _ _.
      kept (record { known = c.known; alone = c.right ∙ eqb-true _ _ e })

  -- From one declaration to the next: those that come are the rest of the functions.

  pub record Declares (d : Declared) (is : List Item) : Type 0 where
    pub known : AllKnown d.elements d.globals
    pub few : d.elements ≤ most_elements_in_all
    pub rest : drop d.functions arity ≡ arities is

  more_elements : {e f : ℕ} {gs : List Global} → e ≤ f → AllKnown e gs → AllKnown f gs
  more_elements l Each.none = Each.none
  more_elements {e} {f} l (Each.more {a = g} h hs) = Each.more (go g.thing h) (more_elements l hs)
    where
      go : (t : Thing) → Known e t → Known f t
      go (an_array a) k = omega (arith, k, l)
      go (a_function s) k = k

  types_length : (ps : List Param) → length (types ps) ≡ length ps
  types_length [] = refl
  types_length (p ∷ ps) = ap suc (types_length ps)

  one_known : (i : Item) (is : List Item) (d : Declared) → Declares d (i ∷ is) → All (λ e. Declares e is) (declare i d)
  unfolding declare arities
  one_known (array at x n) is d h =
      then (needed at) λ _ _.
      then (needed at) λ _ _.
      then (needed at) λ _ _.
      then (needed at) λ _ e.
      kept (record { known = Each.more (omega arith) (more_elements (omega arith) h.known); few = leb-true _ _ e; rest = h.rest })
  one_known (function at x ps r b) is d h =
      let s = split 0 arity d.functions (length ps) (arities is) h.rest in
      then (needed at) λ _ _.
      then (needed at) λ _ _.
      then (needed at) λ _ e.
      kept (record { known = Each.more (record { known = s.inside; right = s.first ∙ sym (types_length ps); few = rw (types_length ps) (leb-true _ _ e) }) h.known; few = h.few; rest = s.others })

  pub all_known : (is : List Item) (d : Declared) → Declares d is → All (λ e. Declares e []) (declare_all is d)
  unfolding declare_all
  all_known [] d h = kept h
  all_known (i ∷ is) d h = then (one_known i is d h) λ e k. all_known is e k

-- "8 parameters"

abbrev pub Few : List Item → Type 0
Few is = Each (λ n. n ≤ most_parameters) (arities is)

one_few : (i : Item) (is : List Item) (d : Declared) → All (λ e. Few is → Few (i ∷ is)) (declare i d)
unfolding declare arities
one_few (array at x n) is d = so (λ e _ h. h) anything
one_few (function at x ps r b) is d =
    then (needed at) λ _ _.
    then (needed at) λ _ _.
    then (needed at) λ _ e.
    kept (λ h. Each.more (leb-true _ _ e) h)

pub all_few : (is : List Item) (d : Declared) → All (λ e. Few is) (declare_all is d)
unfolding declare_all arities
all_few [] d = kept Each.none
all_few (i ∷ is) d = then (one_few i is d) λ e k. so (λ f h. k h) (all_few is e)
