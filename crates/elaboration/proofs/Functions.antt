-- Functions: each is proper for the compiler's theorem, its body fits the flat form, and all together have no more weight than tokens.
use mathlib.Core.Path.{◌≡◌, refl}
use mathlib.Core.List.{List, [], ◌∷◌}
use mathlib.Core.Option.{Option}
use Prim.Native.Nat.{ℕ, ◌+◌, ◌-◌, ◌≤◌, ◌<◌}
use native.Mathlib.Omega.{arith}
use lib.ListN.{length}
use Rattle.language.specs.Tree.{Place, Ty, Param, Item, array, function}
use Rattle.language.specs.Tree as T
use Rattle.language.specs.Tokens.{Token, Placed, largest_number}
use Rattle.language.specs.Grammar.{Has, IsBlock, IsParam, IsParamList, IsParams, IsResult, IsItem, IsItems}
use Rattle.language.specs.Core.{Function}
use Rattle.language.specs.Rules.{Global, Scope, block, function_from, functions_from, most_parameters}
use Rattle.flat.specs.Items.{most_operands}
use Rattle.flat.specs.Words.{most_nesting}
use Rattle.flat.specs.Fits.{nests_all, block_operands}
use Rattle.codegen.specs.Owed.{Proper, most_nodes}
use Rattle.codegen.proofs.Bounds.{function_weight, program_weight, block_light}
use Rattle.elaboration.proofs.All.{All, kept, then, anything, so, Each}
use Rattle.elaboration.proofs.Declarations.{AllKnown, arities, Few}
use Rattle.elaboration.proofs.Calls.{parameters_of}
use Rattle.elaboration.proofs.Statements.{Sound, Steps, block_good, parameters_good}

pub record GoodFunction (functions : List Function) (elements : ℕ) (g : Function) : Type 0 where
  pub proper : Proper functions elements g
  pub nesting : nests_all g.body ≤ most_nesting
  pub operands : block_operands g.body ≤ most_operands

-- a function has the parameters that it declares
same_parameters : (globals : List Global) (at : Place) (ps : List Param) (r : Option Ty) (b : T.Block) → All (λ g. g.parameters ≡ length ps) (function_from globals at ps r b)
unfolding function_from
same_parameters globals at ps r b = then anything λ s _. then anything λ c _. then anything λ _ _. kept refl

pub all_parameters : (globals : List Global) (is : List Item) → All (λ fs. parameters_of fs ≡ arities is) (functions_from globals is)
unfolding functions_from parameters_of arities
all_parameters globals [] = kept refl
all_parameters globals (array at x n ∷ is) = all_parameters globals is
all_parameters globals (function at x ps r b ∷ is) =
    then (same_parameters globals at ps r b) λ g p.
    then (all_parameters globals is) λ fs q.
    kept (rw (p, q))

module _ (functions : List Function) (elements : ℕ) (globals : List Global) (all_known : AllKnown (parameters_of functions) elements globals)
    (tok : ℕ → Option Placed) (small : (i v : ℕ) → Has tok i (Token.number v) → v ≤ largest_number)
    (inside : (i : ℕ) (t : Token) → Has tok i t → i < most_nodes) where
  block_end : {d i j : ℕ} {b : T.Block} → IsBlock tok d i j b → j ≤ most_nodes
  block_end (IsBlock.block {j = j} l o b c e) = let h = inside j _ c in omega (arith, h, e)

  -- a function's block doesn't begin before its parameters
  list_forward : {i j : ℕ} {xs : List Param} → IsParamList tok i j xs → i ≤ j
  list_forward (IsParamList.last (IsParam.param _ _ _ e)) = omega (arith, e)
  list_forward (IsParamList.comma (IsParam.param _ _ _ e) _ xs) = let h = list_forward xs in omega (arith, e, h)

  params_forward : {i j : ℕ} {xs : List Param} → IsParams tok i j xs → i ≤ j
  params_forward IsParams.none = omega arith
  params_forward (IsParams.some xs) = list_forward xs

  result_forward : {i j : ℕ} {t : Option Ty} → IsResult tok i j t → i ≤ j
  result_forward IsResult.none = omega arith
  result_forward (IsResult.some _ _ e) = omega (arith, e)

  -- with as many locals as are counted at last
  body_good : {i j : ℕ} (r : Option Ty) {b : T.Block} → IsBlock tok 0 i j b → (s : Scope globals) → Sound globals s →
      All (λ c. (n : ℕ) → Steps functions elements n globals all_known tok small r s 1 i j c) (block globals r b s)
  body_good r h s t = record { holds = λ c e n. (block_good functions elements n globals all_known tok small r h s t).holds c e }

  -- its weight is at most the tokens from h on, where it begins
  function_good : {h i j : ℕ} (at : Place) (ps : List Param) (r : Option Ty) {b : T.Block} → h < i → IsBlock tok 0 i j b → length ps ≤ most_parameters →
      All (λ g. GoodFunction functions elements g × (h + function_weight g ≤ j)) (function_from globals at ps r b)
  unfolding function_from block_operands
  function_good at ps r l h few =
      then (parameters_good globals ps (record { visible = []; count = 0 }) Each.none) λ s p.
      then (body_good r h s (record { visible = p.visible; few = omega (arith, few, p.all) })) λ c k.
      then anything λ _ _.
      let enough : c.1 ≤ length ps + (c.1 - length ps) = omega arith in
      let g = (k (length ps + (c.1 - length ps))).good enough in
      kept (
        record {
          proper = record {
            few = few;
            locals = omega (arith, p.all, (k 0).grows, (k 0).few);
            body = g.runs;
            short = omega (arith, g.short, p.all, (k 0).grows, block_light c.0, block_end h);
          };
          nesting = omega (arith, g.nesting);
          operands = g.room;
        },
        omega (arith, g.short, p.all, (k 0).grows, l),
      )

  pub functions_good : {i j : ℕ} {is : List Item} → IsItems tok i j is → Few is →
      All (λ fs. Each (GoodFunction functions elements) fs × (i + program_weight fs ≤ j)) (functions_from globals is)
  unfolding functions_from arities program_weight
  functions_good IsItems.end few = kept (Each.none, omega arith)
  functions_good (IsItems.then (IsItem.array _ _ _ _ _ _ _ _ e) xs) few = so (λ fs k. (k.0, omega (arith, k.1, e))) (functions_good xs few)
  functions_good {i} (IsItems.then (IsItem.function {p = at} {xs = ps} {t = r} _ _ _ q _ t b) xs) (Each.more l few) =
      then (function_good {h = i} at ps r (omega (arith, params_forward q, result_forward t)) b l) λ g h.
      then (functions_good xs few) λ fs k.
      kept (Each.more h.0 k.0, omega (arith, h.1, k.1))
