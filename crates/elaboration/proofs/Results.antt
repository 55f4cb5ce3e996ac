-- Result types: a function that is found by its name has the one that it was declared with.
use mathlib.Core.Path.{◌≡◌}
use mathlib.Core.List.{List, [], ◌∷◌}
use mathlib.Core.Option.{Option, none}
use lib.ListN.{get_or, drop}
use Rattle.language.specs.Tree.{Place, Name, Ty, Item, array, function}
use Rattle.language.specs.Rules.{found, Signature, Thing, an_array, a_function, Global, is_function, function_of, Declared, declare, declare_all}
use Rattle.elaboration.specs.Results.{results}
use Rattle.elaboration.proofs.All.{All, kept, broken, then, anything, Each}
use Rattle.elaboration.proofs.Declarations.{split, found_fine}

-- where functions have these result types
module _ (result : List (Option Ty)) where
  abbrev pub Resulting : Signature → Type 0
  Resulting s = get_or result s.number none ≡ s.result

  abbrev ResultKnown : Thing → Type 0
  ResultKnown (an_array a) = Unit {0}
  ResultKnown (a_function s) = Resulting s

  abbrev pub ResultsKnown : List Global → Type 0
  ResultsKnown gs = Each (λ g. ResultKnown g.thing) gs

  as_function : (at : Place) (t : Thing) → ResultKnown t → All Resulting (found (is_function t) at)
  unfolding found
  as_function at (an_array a) h = broken
  as_function at (a_function s) h = kept h

  pub result_known : {gs : List Global} → ResultsKnown gs → (at : Place) (x : Name) → All Resulting (function_of gs at x)
  unfolding function_of
  result_known {gs} h at x = found_fine Resulting is_function ResultKnown at (as_function at) gs h x

  -- from one declaration to the next: those that come are the rest of the functions
  pub record Promises (d : Declared) (is : List Item) : Type 0 where
    pub known : ResultsKnown d.globals
    pub rest : drop d.functions result ≡ results is

  one_promised : (i : Item) (is : List Item) (d : Declared) → Promises d (i ∷ is) → All (λ e. Promises e is) (declare i d)
  unfolding declare results
  one_promised (array at x n) is d h =
      then anything λ _ _.
      then anything λ _ _.
      then anything λ _ _.
      then anything λ _ _.
      kept (record { known = Each.more tt h.known; rest = h.rest })
  one_promised (function at x ps r b) is d h =
      let s = split none result d.functions r (results is) h.rest in
      then anything λ _ _.
      then anything λ _ _.
      then anything λ _ _.
      kept (record { known = Each.more s.first h.known; rest = s.others })

  pub all_promised : (is : List Item) (d : Declared) → Promises d is → All (λ e. Promises e []) (declare_all is d)
  unfolding declare_all
  all_promised [] d h = kept h
  all_promised (i ∷ is) d h = then (one_promised i is d h) λ e k. all_promised is e k
