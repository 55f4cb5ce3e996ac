-- A function with a result type gives a value on every path: elaboration refuses `return;` in it, and its block ends in return as its tree does.
use mathlib.Core.Path.{◌≡◌, refl, ◌∙◌}
use mathlib.Core.Bool.{Bool, true, false}
use mathlib.Core.List.{List, [], ◌∷◌}
use mathlib.Core.Option.{Option, none, some}
use Prim.Native.Nat.{ℕ, zero, suc}
use lib.ListN.{get_or}
use Rattle.word.specs.Choice.{both}
use Rattle.language.specs.Tree.{Place, Ty, Param, Item, array, function}
use Rattle.language.specs.Tree as T
use Rattle.language.specs.Core.{Block, Stmt, Function}
use Rattle.language.specs.Core as C
use Rattle.language.specs.Rules.{Global, Scope, Typed, leaves, gives, stmt, block, is_return, function_from, functions_from}
use Rattle.language.specs.Rules as R
use Rattle.codegen.specs.Owed.{nothing}
use Rattle.elaboration.specs.Settled.{no_leave, no_leave_in, returns, ends_in_return, Gives}
use Rattle.elaboration.specs.Results.{results, Returns, Returning}
use Rattle.elaboration.proofs.All.{All, kept, broken, then, anything, needed, so}

-- what a statement and a block of the tree become where there is a result type
record Valued (t : T.Stmt) (c : Stmt) : Type 0 where
  valued : no_leave c ≡ true
  same : returns c ≡ is_return t

data AllValued : T.Block → Block → Type 0 where
  end : AllValued T.end C.end
  more : {t : T.Stmt} {c : Stmt} {b : T.Block} {r : Block} → Valued t c → AllValued b r → AllValued (T.then t b) (C.then c r)

both_true : {a b : Bool} → a ≡ true → b ≡ true → both a b ≡ true
both_true p q = rw (p, q) refl

both_false : (a : Bool) → both a false ≡ false
both_false true = refl
both_false false = refl

no_leave_lem : {b : T.Block} {r : Block} → AllValued b r → no_leave_in r ≡ true
unfolding no_leave_in
no_leave_lem AllValued.end = refl
no_leave_lem (AllValued.more v vs) = both_true v.valued (no_leave_lem vs)

same_end : {b : T.Block} {r : Block} → AllValued b r → ends_in_return r ≡ R.ends_in_return b
unfolding ends_in_return R.ends_in_return
same_end AllValued.end = refl
same_end (AllValued.more v AllValued.end) = v.same
same_end (AllValued.more v (AllValued.more w vs)) = same_end (AllValued.more w vs)

-- a statement that is no return
plain : {t : T.Stmt} {c : Stmt} → no_leave c ≡ true → returns c ≡ false → is_return t ≡ false → Valued t c
plain p q r = record { valued = p; same = rw (q, r) refl }

module _ (globals : List Global) (type : Ty) where
  given_back : (at : Place) (e : T.Expr) (v : Typed) → All (Valued (T.give at e)) (gives globals (some type) at v)
  unfolding gives no_leave returns is_return
  given_back at e v = then anything λ w _. kept (record { valued = refl; same = refl })

  left : (at : Place) → All (Valued (T.leave at)) (leaves globals (some type) at)
  unfolding leaves
  left at = broken

  mutual
    unfolding stmt no_leave returns is_return

    stmt_valued : (t : T.Stmt) (s : Scope globals) → All (λ c. Valued t c.0) (stmt globals (some type) t s)
    stmt_valued (T.declare at x t e) s = then anything λ y _. then anything λ v _. then anything λ _ _. then anything λ _ _. kept (plain refl refl refl)
    stmt_valued (T.assign at x e) s = then anything λ y _. then anything λ l _. then anything λ v _. kept (plain refl refl refl)
    stmt_valued (T.store at x i e) s = then anything λ j _. then anything λ y _. then anything λ k _. then anything λ v _. then anything λ a _. kept (plain refl refl refl)
    stmt_valued (T.when at e a) s =
        then anything λ y _.
        then anything λ c _.
        then (block_valued a s) λ p u.
        kept (plain (both_true (no_leave_lem u) refl) (both_false (ends_in_return p.0)) refl)
    stmt_valued (T.choose at e a b) s =
        then anything λ y _.
        then anything λ c _.
        then (block_valued a s) λ p u.
        then (block_valued b (record { visible = s.visible; count = p.1 })) λ q v.
        kept (record { valued = both_true (no_leave_lem u) (no_leave_lem v); same = rw (same_end u, same_end v) refl })
    stmt_valued (T.while at e a) s =
        then anything λ y _.
        then anything λ c _.
        then (block_valued a s) λ p u.
        kept (plain (no_leave_lem u) refl refl)
    stmt_valued (T.leave at) s = then (left at) λ c u. kept u
    stmt_valued (T.give at e) s = then anything λ y _. then (given_back at e y) λ c u. kept u
    stmt_valued (T.emit at e) s = then anything λ y _. then anything λ v _. kept (plain refl refl refl)
    stmt_valued (T.run at x xs) s = then anything λ es _. then anything λ f _. then anything λ vs _. kept (plain refl refl refl)

    block_valued : (b : T.Block) (s : Scope globals) → All (λ r. AllValued b r.0) (block globals (some type) b s)
    block_valued T.end s = kept AllValued.end
    block_valued (T.then t b) s = then (stmt_valued t s) λ c u. then (block_valued b c.1) λ r v. kept (AllValued.more u v)

module _ (globals : List Global) where
  pub result_gives : (at : Place) (ps : List Param) (t : Ty) (b : T.Block) → All (λ g. Gives g.body) (function_from globals at ps (some t) b)
  unfolding function_from
  result_gives at ps t b =
      then anything λ s _.
      then (block_valued globals t b s) λ c u.
      then (needed at) λ _ e.
      kept (record { valued = no_leave_lem u; ends = same_end u ∙ e })

  function_returns : (at : Place) (ps : List Param) (r : Option Ty) (b : T.Block) → All (λ g. Returns r g.body) (function_from globals at ps r b)
  function_returns at ps none b = anything
  function_returns at ps (some t) b = result_gives at ps t b

  pub all_return : (is : List Item) → All (Returning is) (functions_from globals is)
  unfolding functions_from results
  all_return [] = kept (record { each = λ f. tt })
  all_return (array at x n ∷ is) = so (λ fs k. record { each = k.each }) (all_return is)
  all_return (function at x ps r b ∷ is) =
      then (function_returns at ps r b) λ g h.
      then (all_return is) λ fs k.
      kept (record { each = at_each g fs h k })
    where
      at_each : (g : Function) (fs : List Function) → Returns r g.body → Returning is fs → (f : ℕ) → Returns (get_or (r ∷ results is) f none) (get_or (g ∷ fs) f nothing).body
      at_each g fs h k zero = h
      at_each g fs h k (suc f) = k.each f
