-- Programs: the declarations, `main` and the functions together.
use mathlib.Core.Path.{◌≡◌, refl, sym, ap, ◌∙◌, subst}
use mathlib.Core.List.{List}
use mathlib.Core.Option.{Option}
use Prim.Native.Nat.{ℕ, ◌+◌, ◌≤◌, ◌<◌}
use native.Mathlib.Omega.{arith}
use lib.ListN.{length, get_or}
use Rattle.language.specs.Tree.{Place, Item}
use Rattle.language.specs.Tokens.{Token, Placed, largest_number}
use Rattle.language.specs.Grammar.{Has, IsItems}
use Rattle.language.specs.Core.{Function, Program}
use Rattle.language.specs.Rules.{Declared, nothing_declared, functions_from, elaborate, most_elements_in_all}
use Rattle.flat.specs.Fits as F
use Rattle.flat.specs.Fits.{function_at, block_operands, nests_all}
use Rattle.codegen.specs.Owed.{Owed, Runs, size, nothing, most_nodes}
use Rattle.codegen.proofs.Bounds.{program_weight}
use Rattle.elaboration.proofs.All.{All, kept, then, also, Each, each_at}
use Rattle.elaboration.proofs.Declarations.{AllKnown, Main, arities, Few, main_known, all_known, all_few}
use Rattle.elaboration.proofs.Calls.{parameters_of, parameters_length, parameters_at}
use Rattle.elaboration.proofs.Functions.{GoodFunction, all_parameters, functions_good}
use Rattle.elaboration.proofs.Locals.{block_few}

-- what there is past the last function
nothing_good : (functions : List Function) (elements : ℕ) → GoodFunction functions elements nothing
unfolding Runs size nests_all block_operands F.most_all
nothing_good functions elements = record {
  proper = record { few = omega arith; locals = omega arith; body = tt; short = omega arith };
  nesting = omega arith;
  operands = omega arith;
}

module _ (p : Program) (each : Each (GoodFunction p.functions p.elements) p.functions) where
  at : (f : ℕ) → GoodFunction p.functions p.elements (get_or p.functions f nothing)
  at f = each_at nothing (nothing_good p.functions p.elements) each f

  fits : F.Fits p
  unfolding function_at
  fits = record {
    nesting = λ f. (at f).nesting;
    operands = λ f. (at f).operands;
    locals = λ f. block_few p.functions p.elements _ (λ g l. (at g).proper.locals) _ (at f).proper.body;
    main = omega (arith, (at p.main).proper.locals);
  }

  owed : {arity : List ℕ} → parameters_of p.functions ≡ arity → Main arity p.main → p.elements ≤ most_elements_in_all → Owed p
  owed q m l = record {
    each = λ f _. (at f).proper;
    main_known = subst (λ k. p.main < k) (parameters_length p.functions) (subst (λ k. p.main < length k) (sym q) m.known);
    main_alone = sym (parameters_at p.functions p.main) ∙ (ap (λ k. get_or k p.main 0) q ∙ m.alone);
    few_elements = l;
  }

pub program_owed : (tok : ℕ → Option Placed) → ((i v : ℕ) → Has tok i (Token.number v) → v ≤ largest_number) → ((i : ℕ) (t : Token) → Has tok i t → i < most_nodes) →
    {i j : ℕ} {is : List Item} → IsItems tok i j is → (end : Place) →
    All (λ p. Owed p × F.Fits p × (program_weight p.functions ≤ j)) (elaborate is end)
unfolding elaborate
program_owed tok small inside {i} {j} {is} derives end =
    then (also (all_known (arities is) is nothing_declared (record { known = Each.none; few = omega arith; rest = refl })) (all_few is nothing_declared)) λ d h.
    then (main_known (arities is) h.0.known end) λ m k.
    then (also (all_parameters d.globals is) (every d h.0.known h.1)) λ fs g.
    let each : Each (GoodFunction fs d.elements) fs = (g.1 fs g.0).0 in
    kept (owed (record { functions = fs; main = m; elements = d.elements }) each g.0 k h.0.few, fits (record { functions = fs; main = m; elements = d.elements }) each, omega (arith, (g.1 fs g.0).1))
  where
    every : (d : Declared) → AllKnown (arities is) d.elements d.globals → Few is →
        All (λ fs. (functions : List Function) → parameters_of functions ≡ arities is → Each (GoodFunction functions d.elements) fs × (i + program_weight fs ≤ j)) (functions_from d.globals is)
    every d known few = record {
      holds = λ fs e functions q.
          (functions_good functions d.elements d.globals (subst (λ a. AllKnown a d.elements d.globals) (sym q) known) tok small inside derives few).holds fs e;
    }
