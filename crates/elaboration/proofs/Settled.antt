-- Programs: their functions read nothing that was not given, and give what they were declared to.
use mathlib.Core.Path.{◌≡◌, refl, sym, ◌∙◌, subst}
use mathlib.Core.List.{List, [], ◌∷◌}
use mathlib.Core.Logic.{⊎_elim}
use mathlib.Core.Option.{Option}
use Prim.Native.Nat.{ℕ, zero, suc, ◌<◌}
use native.Mathlib.Nat.{eq-or-lt_of_le}
use native.Mathlib.Omega.{arith}
use lib.ListN.{length}
use Rattle.language.specs.Tree.{Place, Name, Ty, Param, Item, array, function}
use Rattle.language.specs.Tree as T
use Rattle.language.specs.Tokens.{In}
use Rattle.language.specs.Core.{Function}
use Rattle.language.specs.Rules.{Global, Local, Declared, nothing_declared, function_of, function_from, functions_from, elaborate}
use Rattle.codegen.specs.Owed.{nothing}
use Rattle.elaboration.specs.Settled.{below, function_at, SettledBlock}
use Rattle.elaboration.specs.Results.{results, Returns, Returning}
use Rattle.elaboration.proofs.All.{All, kept, then, anything, so, also, Each, each_at}
use Rattle.elaboration.proofs.Declarations.{AllKnown, arities, function_known, all_known}
use Rattle.elaboration.proofs.Calls.{parameters_of, parameters_at}
use Rattle.elaboration.proofs.Slots.{Visible}
use Rattle.elaboration.proofs.Statements.{parameters_good}
use Rattle.elaboration.proofs.Functions.{all_parameters}
use Rattle.elaboration.proofs.Results.{ResultsKnown, result_known, all_promised}
use Rattle.elaboration.proofs.Returning.{all_return}
use Rattle.elaboration.proofs.Settling.{Answers, Written, block_settled}

-- the parameters are written when a body begins
in_below : (n x : ℕ) → x < n → In x (below n)
in_below zero x h = absurd (omega (arith, h))
in_below (suc n) x h = ⊎_elim In.here (λ l. In.there (in_below n x l)) (eq-or-lt_of_le (omega (arith, h)))

parameters_written : {n : ℕ} {ls : List Local} → Visible n ls → Written (below n) ls
parameters_written Each.none = Each.none
parameters_written {n} (Each.more {a = l} h hs) = Each.more {a = l} (in_below n l.slot h) (parameters_written hs)

abbrev pub SettledFunction : List Function → Function → Type 0
SettledFunction functions g = SettledBlock functions (below g.parameters) g.body

module _ (functions : List Function) (globals : List Global) (answers : (at : Place) (x : Name) → All (Answers functions) (function_of globals at x)) where
  function_settled : (at : Place) (ps : List Param) (r : Option Ty) (b : T.Block) → All (SettledFunction functions) (function_from globals at ps r b)
  unfolding function_from
  function_settled at ps r b =
      then (parameters_good globals ps (record { visible = []; count = 0 }) Each.none) λ s p.
      let all : s.count ≡ length ps = omega (arith, p.all) in
      then (block_settled functions globals answers r b s (below (length ps)) (parameters_written (subst (λ n. Visible n s.visible) all p.visible))) λ c u.
      then anything λ _ _.
      kept u

  functions_settled : (is : List Item) → All (Each (SettledFunction functions)) (functions_from globals is)
  unfolding functions_from
  functions_settled [] = kept Each.none
  functions_settled (array at x n ∷ is) = functions_settled is
  functions_settled (function at x ps r b ∷ is) =
      then (function_settled at ps r b) λ g h.
      then (functions_settled is) λ fs hs.
      kept (Each.more h hs)

-- functions answer as they were declared
answering : (functions : List Function) (is : List Item) {elements : ℕ} {globals : List Global} → AllKnown (parameters_of functions) elements globals → ResultsKnown (results is) globals →
    Returning is functions → (at : Place) (x : Name) → All (Answers functions) (function_of globals at x)
answering functions is known promised returning at x =
    so (λ s h. record {
      arity = sym (parameters_at functions s.number) ∙ h.0.right;
      returns = subst (λ r. Returns r (function_at functions s.number).body) h.1 (returning.each s.number);
    }) (also (function_known (parameters_of functions) known at x) (result_known (results is) promised at x))

-- what there is past the last function
nothing_settled : (functions : List Function) → SettledFunction functions nothing
unfolding SettledBlock
nothing_settled functions = tt

pub program_settled : (is : List Item) (end : Place) →
    All (λ p. ((f : ℕ) → SettledFunction p.functions (function_at p.functions f)) × Returning is p.functions) (elaborate is end)
unfolding elaborate
program_settled is end =
    then (also (all_known (arities is) is nothing_declared (record { known = Each.none; few = omega arith; rest = refl })) (all_promised (results is) is nothing_declared (record { known = Each.none; rest = refl }))) λ d h.
    then anything λ m _.
    then (also (all_parameters d.globals is) (also (all_return d.globals is) (every d h.0.known h.1.known))) λ fs g.
    kept (each_at nothing (nothing_settled fs) (g.1.1 fs g.0 g.1.0), g.1.0)
  where
    every : (d : Declared) → AllKnown (arities is) d.elements d.globals → ResultsKnown (results is) d.globals →
        All (λ fs. (functions : List Function) → parameters_of functions ≡ arities is → Returning is functions → Each (SettledFunction functions) fs) (functions_from d.globals is)
    every d known promised = record {
      holds = λ fs e functions q r.
          (functions_settled functions d.globals (answering functions is (subst (λ a. AllKnown a d.elements d.globals) (sym q) known) promised r) is).holds fs e;
    }
