-- Expressions: what a derivation's tree is elaborated to is good, a law for each line of the grammar.
use mathlib.Core.Path.{◌≡◌}
use mathlib.Core.Bool.{Bool, true, false}
use mathlib.Core.List.{List}
use mathlib.Core.Option.{Option}
use Prim.Native.Nat.{ℕ, ◌+◌, ◌≤◌, ◌<◌}
use native.Mathlib.Omega.{arith}
use Rattle.language.specs.Tree.{Place, Name, int, bool, Unary, negate, not, Binary}
use Rattle.language.specs.Tree as T
use Rattle.language.specs.Tokens.{Token, Placed, largest_number}
use Rattle.language.specs.Grammar.{most_open, expr_level, unary_level, Has, IsExpr, IsRest, IsArgs, IsExprs}
use Rattle.language.specs.Core.{Function}
use Rattle.language.specs.Core as C
use Rattle.language.specs.Rules.{Global, Local, Typed, changed, combined, indexed, called, known, expr, exprs, truth_of}
use Rattle.elaboration.proofs.All.{All, kept, then, anything, so, each_in}
use Rattle.elaboration.proofs.Declarations.{AllKnown, array_known, function_known}
use Rattle.elaboration.proofs.Measures.{Good, GoodArgs, alone, in_parens, good_number, good_local, good_element, good_call, no_args, more_args, good_unary, good_strict, good_or, good_and}
use Rattle.elaboration.proofs.Wanted.{wanted, both_wanted, strict_wanted}
use Rattle.elaboration.proofs.Calls.{parameters_of, args_of, fitted, callable}
use Rattle.elaboration.proofs.Slots.{Visible, local_seen}
use Rattle.elaboration.proofs.Levels.{Row, rows}

module _ (functions : List Function) (elements n : ℕ) where
  abbrev GoodTyped : ℕ → ℕ → ℕ → ℕ → Typed → Type 0
  GoodTyped l d i j v = Good functions elements n l d i j v.expr

  combined_good : {l d i j k : ℕ} {o : Binary} → Row l o → d ≤ most_open → (at : Place) (a b : Typed) → GoodTyped l d i j a → GoodTyped (l + 1) d (j + 1) k b → All (GoodTyped l d i k) (combined o at a b)
  unfolding combined
  combined_good (Row.or u) t at a b f g = both_wanted (Good functions elements n _ _ _ _) bool bool C.or at a b (good_or functions elements n t u f g)
  combined_good (Row.and u) t at a b f g = both_wanted (Good functions elements n _ _ _ _) bool bool C.and at a b (good_and functions elements n t u f g)
  combined_good (Row.strict o u v) t at a b f g = strict_wanted (Good functions elements n _ _ _ _) o at a b (good_strict functions elements n t u v o f g)

module _ (functions : List Function) (elements n : ℕ) (globals : List Global) (all_known : AllKnown (parameters_of functions) elements globals)
    (locals : List Local) (visible : Visible n locals) (tok : ℕ → Option Placed) (small : (i v : ℕ) → Has tok i (Token.number v) → v ≤ largest_number) where
  abbrev Yields : ℕ → ℕ → ℕ → ℕ → Typed → Type 0
  Yields = GoodTyped functions elements n

  truth_small : (b : Bool) → truth_of b ≤ largest_number
  truth_small true = omega arith
  truth_small false = omega arith

  element_good : {d i j k : ℕ} (at : Place) (x : Name) (e : Typed) → d < most_open → Good functions elements n expr_level (d + 1) (i + 2) j e.expr → k ≡ j + 1 → All (Yields unary_level d i k) (indexed globals at x e)
  unfolding indexed
  element_good at x e o g q =
      then (wanted (Good functions elements n _ _ _ _) int at e g) λ v h.
      then (array_known (parameters_of functions) all_known at x) λ a l.
      kept (good_element functions elements n o l h q)

  call_good : {d i j k : ℕ} (at : Place) (x : Name) (es : List Typed) → d < most_open → GoodArgs functions elements n (d + 1) (i + 2) j (args_of es) → k ≡ j + 1 → All (Yields unary_level d i k) (called globals at x es)
  unfolding called
  call_good at x es o g q =
      then (function_known (parameters_of functions) all_known at x) λ s c.
      then (fitted (λ xs. Good functions elements n _ _ _ _ (C.call s.number xs)) globals at es s.parameters (λ e. good_call functions elements n o (callable functions elements c e) (rw e c.few) g q)) λ xs h.
      then anything λ t _.
      kept h

  unary_good : {d i j : ℕ} (at : Place) (o : Unary) (e : Typed) → d < most_open → Yields unary_level (d + 1) (i + 1) j e → All (Yields unary_level d i j) (changed o at e)
  unfolding changed
  unary_good at negate e l g = then (wanted (Good functions elements n _ _ _ _) int at e g) λ v h. kept (good_unary functions elements n l negate h)
  unary_good at not e l g = then (wanted (Good functions elements n _ _ _ _) bool at e g) λ v h. kept (good_unary functions elements n l not h)

  mutual
    unfolding expr known args_of

    pub expr_good : {l d i j : ℕ} {e : T.Expr} → IsExpr tok l d i j e → d ≤ most_open → All (Yields l d i j) (expr globals locals e)
    expr_good (IsExpr.chain u a r) o = rest_good r o (so (λ v g. alone functions elements n g) (expr_good a o))
    expr_good (IsExpr.unary {p = at} {o = u} h r l a) o = then (expr_good a (omega (arith, l))) λ v g. unary_good at u v l g
    expr_good (IsExpr.number {i = i} {n = v} h e) o = kept (good_number functions elements n o (small i v h) e)
    expr_good (IsExpr.true h e) o = kept (good_number functions elements n o (truth_small true) e)
    expr_good (IsExpr.false h e) o = kept (good_number functions elements n o (truth_small false) e)
    expr_good (IsExpr.name {p = at} {x = x} h e) o = then (local_seen visible at x) λ l k. kept (good_local functions elements n o k e)
    expr_good (IsExpr.element {p = at} {x = x} h s l a t e) o = then (expr_good a (omega (arith, l))) λ v g. element_good at x v l g e
    expr_good (IsExpr.call {p = at} {x = x} h s l a t e) o = then (args_good a (omega (arith, l))) λ vs g. call_good at x vs l g e
    expr_good (IsExpr.parens s l a t e) o = so (λ v g. in_parens functions elements n e g) (expr_good a (omega (arith, l)))

    rest_good : {l d i j k : ℕ} {a e : T.Expr} → IsRest tok l d j k a e → d ≤ most_open → All (Yields l d i j) (expr globals locals a) → All (Yields l d i k) (expr globals locals e)
    rest_good IsRest.done o h = h
    rest_good (IsRest.again {p = at} c s r b m) o h =
        rest_good m o (then h λ v f. then (expr_good b o) λ w g. combined_good functions elements n (each_in rows r) o at v w f g)
    rest_good (IsRest.once {p = at} c s r b) o h = then h λ v f. then (expr_good b o) λ w g. combined_good functions elements n (each_in rows r) o at v w f g

    pub args_good : {d i j : ℕ} {es : T.Args} → IsArgs tok d i j es → d ≤ most_open → All (λ vs. GoodArgs functions elements n d i j (args_of vs)) (exprs globals locals es)
    args_good IsArgs.none o = kept (no_args functions elements n o)
    args_good (IsArgs.some xs) o = exprs_good xs o

    exprs_good : {d i j : ℕ} {es : T.Args} → IsExprs tok d i j es → d ≤ most_open → All (λ vs. GoodArgs functions elements n d i j (args_of vs)) (exprs globals locals es)
    exprs_good (IsExprs.last {d = d} {j = j} a) o = then (expr_good a o) λ v g. then (kept {P = λ vs. GoodArgs functions elements n d j j (args_of vs)} (no_args functions elements n o)) λ vs k. kept (more_args functions elements n o g k (omega arith))
    exprs_good (IsExprs.comma a s xs) o = then (expr_good a o) λ v g. then (exprs_good xs o) λ vs k. kept (more_args functions elements n o g k (omega arith))
