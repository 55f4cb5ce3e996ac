-- Statements: what a derivation's tree is elaborated to is good where the function has all the locals that were counted, a law for each line of the grammar.
use mathlib.Core.Path.{◌≡◌}
use mathlib.Core.List.{List, [], ◌∷◌}
use mathlib.Core.Option.{Option, none, some}
use Prim.Native.Nat.{ℕ, ◌+◌, ◌≤◌}
use native.Mathlib.Omega.{arith}
use lib.ListN.{length}
use borrow.Author.Tests.{ltb-true}
use Rattle.language.specs.Tree.{Place, Ty, int, bool, Param}
use Rattle.language.specs.Tree as T
use Rattle.language.specs.Tokens.{Token, Placed, largest_number}
use Rattle.language.specs.Grammar.{most_open, expr_level, Has, IsExpr, IsArgs, IsStmt, IsStmts, IsBlock}
use Rattle.language.specs.Core.{Function}
use Rattle.language.specs.Core as C
use Rattle.language.specs.Rules.{Global, Scope, Typed, leaves, gives, expr, exprs, stmt, block, parameters, most_locals}
use Rattle.elaboration.proofs.All.{All, kept, broken, then, anything, needed, so, given}
use Rattle.elaboration.proofs.Declarations.{AllKnown, array_known, function_known}
use Rattle.elaboration.proofs.Measures.{Good, GoodArgs}
use Rattle.elaboration.proofs.Wanted.{wanted}
use Rattle.elaboration.proofs.Calls.{parameters_of, args_of, fitted, callable}
use Rattle.elaboration.proofs.Slots.{Visible, local_seen, wider, newest}
use Rattle.elaboration.proofs.Expressions.{expr_good, args_good}
use Rattle.elaboration.proofs.Blocks.{GoodStmt, GoodBlock, good_end, good_then, in_braces, good_put, good_give, good_emit, good_store, good_choose, good_while, good_leave, good_run}

-- the locals that are visible are among those counted, and these are not too many
pub record Sound (globals : List Global) (s : Scope globals) : Type 0 where
  pub visible : Visible s.count s.visible
  pub few : s.count ≤ most_locals

module _ (functions : List Function) (elements n : ℕ) (globals : List Global) (all_known : AllKnown (parameters_of functions) elements globals)
    (tok : ℕ → Option Placed) (small : (i v : ℕ) → Has tok i (Token.number v) → v ≤ largest_number) (result : Option Ty) where
  pub record Step (s : Scope globals) (d i j : ℕ) (c : C.Stmt × Scope globals) : Type 0 where
    pub grows : s.count ≤ c.1.count
    pub sound : Sound globals c.1
    pub good : c.1.count ≤ n → GoodStmt functions elements n s.count c.1.count d i j c.0

  pub record Steps (s : Scope globals) (d i j : ℕ) (r : C.Block × ℕ) : Type 0 where
    pub grows : s.count ≤ r.1
    pub few : r.1 ≤ most_locals
    pub good : r.1 ≤ n → GoodBlock functions elements n s.count r.1 d i j r.0

  -- the value of an expression in a scope, if the function has all its locals
  abbrev Value : Scope globals → ℕ → ℕ → ℕ → C.Expr → Type 0
  Value s d i j e = s.count ≤ n → Good functions elements n expr_level d i j e

  value : {d i j : ℕ} {e : T.Expr} (s : Scope globals) → Sound globals s → d ≤ most_open → IsExpr tok expr_level d i j e → All (λ v. Value s d i j v.expr) (expr globals s.visible e)
  value s h o x = given (λ l. expr_good functions elements n globals all_known s.visible (wider l h.visible) tok small x o)

  values : {d i j : ℕ} {es : T.Args} (s : Scope globals) → Sound globals s → d ≤ most_open → IsArgs tok d i j es → All (λ vs. s.count ≤ n → GoodArgs functions elements n d i j (args_of vs)) (exprs globals s.visible es)
  values s h o x = given (λ l. args_good functions elements n globals all_known s.visible (wider l h.visible) tok small x o)

  -- a statement that declares nothing
  same : {s : Scope globals} {d i j : ℕ} {c : C.Stmt} → Sound globals s → (s.count ≤ n → GoodStmt functions elements n s.count s.count d i j c) → Step s d i j (c, s)
  same h g = record { grows = omega arith; sound = h; good = g }

  -- a statement whose blocks counted more
  counted : {s : Scope globals} {d i j m : ℕ} {c : C.Stmt} → Sound globals s → s.count ≤ m → m ≤ most_locals → (m ≤ n → GoodStmt functions elements n s.count m d i j c) → Step s d i j (c, record { visible = s.visible; count = m })
  counted h l f g = record { grows = l; sound = record { visible = wider l h.visible; few = f }; good = g }

  left : {d i j : ℕ} (at : Place) (r : Option Ty) {s : Scope globals} → Sound globals s → d ≤ most_open → j ≡ i + 2 → All (λ c. Step s d i j (c, s)) (leaves globals r at)
  unfolding leaves
  left at none h o q = kept (same h (λ l. good_leave functions elements n o q))
  left at (some t) h o q = broken

  given_back : {d i j k : ℕ} (at : Place) (r : Option Ty) {s : Scope globals} (e : Typed) → Sound globals s → d ≤ most_open → Value s d (i + 1) j e.expr → k ≡ j + 1 → All (λ c. Step s d i k (c, s)) (gives globals r at e)
  unfolding gives
  given_back at none e h o g q = broken
  given_back at (some t) {s} e h o g q =
      then (wanted (Value s _ _ _) t at e g) λ v f.
      kept (same h (λ l. good_give functions elements n o (f l) (omega arith) (omega (arith, q))))

  mutual
    unfolding stmt

    pub stmt_good : {d i j : ℕ} {t : T.Stmt} → IsStmt tok d i j t → (s : Scope globals) → Sound globals s → d ≤ most_open → All (Step s d i j) (stmt globals result t s)
    stmt_good (IsStmt.declare {p = at} {t = t} w x c y q e f g) s h o =
        then (value s h o e) λ y u.
        then (wanted (Value s _ _ _) t at y u) λ v u'.
        then anything λ _ _.
        then (needed at) λ _ b.
        kept (record {
          grows = omega arith;
          sound = record { visible = newest _ h.visible; few = ltb-true _ _ b };
          good = λ l. good_put functions elements n o (omega (arith, l)) (u' (omega (arith, l))) (omega arith) (omega (arith, g));
        })
    stmt_good (IsStmt.assign {p = at} {x = x} w q e f g) s h o =
        then (value s h o e) λ y u.
        then (local_seen h.visible at x) λ k b.
        then (wanted (Value s _ _ _) k.type at y u) λ v u'.
        kept (same h (λ l. good_put functions elements n o (omega (arith, b, l)) (u' l) (omega arith) (omega (arith, g))))
    stmt_good (IsStmt.store {p = at} {x = x} w b l e c q f k g) s h o =
        then (value s h (omega (arith, l)) e) λ j u.
        then (value s h o f) λ y v.
        then (wanted (Value s _ _ _) int at j u) λ j' u'.
        then (wanted (Value s _ _ _) int at y v) λ y' v'.
        then (array_known (parameters_of functions) all_known at x) λ a within.
        kept (same h (λ m. good_store functions elements n o within (u' m) (v' m) g))
    stmt_good (IsStmt.when {p = at} w e b) s h o =
        then (value s h o e) λ y u.
        then (wanted (Value s _ _ _) bool at y u) λ v u'.
        then (block_good b s h) λ p r.
        kept (counted h r.grows r.few (λ l. good_choose functions elements n (u' (omega (arith, l, r.grows))) (r.good l) (good_end functions elements n (omega (arith, o))) (omega arith)))
    stmt_good (IsStmt.choose {p = at} w e b c d) s h o =
        then (value s h o e) λ y u.
        then (wanted (Value s _ _ _) bool at y u) λ v u'.
        then (block_good b s h) λ p r.
        then (block_good d (record { visible = s.visible; count = p.1 }) (record { visible = wider r.grows h.visible; few = r.few })) λ q r'.
        kept (counted h (omega (arith, r.grows, r'.grows)) r'.few (λ l. good_choose functions elements n (u' (omega (arith, l, r.grows, r'.grows))) (r.good (omega (arith, l, r'.grows))) (r'.good l) (omega arith)))
    stmt_good (IsStmt.while {p = at} w e b) s h o =
        then (value s h o e) λ y u.
        then (wanted (Value s _ _ _) bool at y u) λ v u'.
        then (block_good b s h) λ p r.
        kept (counted h r.grows r.few (λ l. good_while functions elements n (u' (omega (arith, l, r.grows))) (r.good l)))
    stmt_good (IsStmt.leave {p = at} w f g) s h o = then (left at result h o g) λ c u. kept u
    stmt_good (IsStmt.give {p = at} w e f g) s h o = then (value s h o e) λ y u. then (given_back at result y h o u g) λ c v. kept v
    stmt_good (IsStmt.emit {p = at} w e f g) s h o =
        then (value s h o e) λ y u.
        then (wanted (Value s _ _ _) int at y u) λ v u'.
        kept (same h (λ l. good_emit functions elements n o (u' l) (omega arith) (omega (arith, g))))
    stmt_good (IsStmt.run {p = at} {x = x} w b l xs c f g) s h o =
        then (values s h (omega (arith, l)) xs) λ es u.
        then (function_known (parameters_of functions) all_known at x) λ f c.
        then (fitted (λ vs. s.count ≤ n → GoodStmt functions elements n s.count s.count _ _ _ (C.run f.number vs)) globals at es f.parameters (λ e m. good_run functions elements n l (callable functions elements c e) (rw e c.few) (u m) g)) λ vs k.
        kept (same h k)

    pub stmts_good : {d i j : ℕ} {b : T.Block} → IsStmts tok d i j b → (s : Scope globals) → Sound globals s → d ≤ most_open → All (Steps s d i j) (block globals result b s)
    stmts_good IsStmts.end s h o = kept (record { grows = omega arith; few = h.few; good = λ l. good_end functions elements n (omega (arith, o)) })
    stmts_good (IsStmts.then t b) s h o =
        then (stmt_good t s h o) λ c u.
        then (stmts_good b c.1 u.sound o) λ r v.
        kept (record { grows = omega (arith, u.grows, v.grows); few = v.few; good = λ l. good_then functions elements n (u.good (omega (arith, l, v.grows))) (v.good l) })

    pub block_good : {d i j : ℕ} {b : T.Block} → IsBlock tok d i j b → (s : Scope globals) → Sound globals s → All (Steps s (d + 1) i j) (block globals result b s)
    block_good (IsBlock.block l o b c e) s h =
        so (λ r u. record { grows = u.grows; few = u.few; good = λ m. in_braces functions elements n e (u.good m) }) (stmts_good b s h (omega (arith, o)))

-- The parameters come first.

pub record Params (globals : List Global) (m : ℕ) (s : Scope globals) : Type 0 where
  pub visible : Visible s.count s.visible
  pub all : s.count ≡ m

pub parameters_good : (globals : List Global) (ps : List Param) (s : Scope globals) → Visible s.count s.visible → All (Params globals (s.count + length ps)) (parameters globals ps s)
unfolding parameters
parameters_good globals [] s h = kept (record { visible = h; all = omega arith })
parameters_good globals (p ∷ ps) s h =
    then anything λ _ _.
    so (λ t k. record { visible = k.visible; all = omega (arith, k.all) }) (parameters_good globals ps _ (newest _ h))
