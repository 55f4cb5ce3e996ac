-- Expressions and statements read no local that is not written and no value that is not given: a law for each line of the tree, in a scope whose visible
-- locals are written. A block's locals end with it, so that what is visible behind it was written before it.
use mathlib.Core.Path.{◌≡◌, refl, sym, ◌∙◌}
use mathlib.Core.List.{List, ◌∷◌}
use mathlib.Core.Option.{Option, none, some}
use Prim.Native.Nat.{ℕ}
use lib.ListN.{length}
use Rattle.language.specs.Tree.{Place, Name, Ty, int, bool, Unary, negate, not, Binary}
use Rattle.language.specs.Tree as T
use Rattle.language.specs.Tokens.{In}
use Rattle.language.specs.Core.{Stmt, Block, Function}
use Rattle.language.specs.Core as C
use Rattle.language.specs.Rules.{Ruled, ◌>>=◌, found, Signature, Global, Local, Scope, Typed, function_of, want, changed, combined, indexed, called, known, expr, exprs, leaves, gives, stmt, block}
use Rattle.codegen.specs.Owed.{count}
use Rattle.elaboration.specs.Settled.{Gives, function_at, Reads, ReadsAll, after, SettledStmt, SettledBlock}
use Rattle.elaboration.specs.Results.{Returns}
use Rattle.elaboration.proofs.All.{All, kept, broken, then, anything, Each}
use Rattle.elaboration.proofs.Wanted.{wanted, both_wanted, strict_wanted}
use Rattle.elaboration.proofs.Calls.{args_of, fitted}
use Rattle.elaboration.proofs.Slots.{local_seen}

-- a function is as its signature says
pub record Answers (functions : List Function) (s : Signature) : Type 0 where
  pub arity : (function_at functions s.number).parameters ≡ length s.parameters
  pub returns : Returns s.result (function_at functions s.number).body

-- the locals that are visible are written
abbrev pub Written : List ℕ → List Local → Type 0
Written written ls = Each (λ l. In l.slot written) ls

still : {x : ℕ} {written : List ℕ} {ls : List Local} → Written written ls → Written (x ∷ written) ls
still Each.none = Each.none
still (Each.more {a = l} h hs) = Each.more {a = l} (In.there h) (still hs)

result_found : (r : Option Ty) {b : Block} → Returns r b → (at : Place) → All (λ t. Gives b) (found r at)
unfolding found
result_found none h at = broken
result_found (some t) h at = kept h

module _ (functions : List Function) (globals : List Global) (answers : (at : Place) (x : Name) → All (Answers functions) (function_of globals at x)) where
  module _ (written : List ℕ) (locals : List Local) (seen : Written written locals) where
    abbrev Settles : C.Expr → Type 0
    Settles e = Reads functions written e

    abbrev SettlesAll : ℕ → C.Args → Type 0
    SettlesAll f xs = (count xs ≡ (function_at functions f).parameters) × ReadsAll functions written xs

    element_reads : (at : Place) (x : Name) (e : Typed) → Settles e.expr → All (λ v. Settles v.expr) (indexed globals at x e)
    unfolding indexed Reads
    element_reads at x e h = then (wanted Settles int at e h) λ k h'. then anything λ a _. kept h'

    call_reads : (at : Place) (x : Name) (es : List Typed) → ReadsAll functions written (args_of es) → All (λ v. Settles v.expr) (called globals at x es)
    unfolding called Reads
    call_reads at x es h =
        then (answers at x) λ s a.
        then (fitted (SettlesAll s.number) globals at es s.parameters (λ e. (e ∙ sym a.arity, h))) λ xs k.
        then (result_found s.result a.returns at) λ t g.
        kept (g, k.0, k.1)

    unary_reads : (at : Place) (o : Unary) (e : Typed) → Settles e.expr → All (λ v. Settles v.expr) (changed o at e)
    unfolding changed Reads
    unary_reads at negate e h = then (wanted Settles int at e h) λ v h'. kept h'
    unary_reads at not e h = then (wanted Settles bool at e h) λ v h'. kept h'

    binary_reads : (at : Place) (o : Binary) (a b : Typed) → Settles a.expr → Settles b.expr → All (λ v. Settles v.expr) (combined o at a b)
    unfolding combined Reads
    binary_reads at Binary.or a b h k = both_wanted Settles bool bool C.or at a b (h, k)
    binary_reads at Binary.and a b h k = both_wanted Settles bool bool C.and at a b (h, k)
    binary_reads at (Binary.strict o) a b h k = strict_wanted Settles o at a b (h, k)

    mutual
      unfolding expr known args_of Reads

      pub expr_reads : (e : T.Expr) → All (λ v. Settles v.expr) (expr globals locals e)
      expr_reads (T.number n) = kept tt
      expr_reads (T.truth b) = kept tt
      expr_reads (T.name at x) = then (local_seen seen at x) λ l h. kept h
      expr_reads (T.element at x i) = then (expr_reads i) λ e h. element_reads at x e h
      expr_reads (T.call at x xs) = then (exprs_read xs) λ es h. call_reads at x es h
      expr_reads (T.unary at o a) = then (expr_reads a) λ e h. unary_reads at o e h
      expr_reads (T.binary at o a b) = then (expr_reads a) λ x h. then (expr_reads b) λ y k. binary_reads at o x y h k

      pub exprs_read : (xs : T.Args) → All (λ vs. ReadsAll functions written (args_of vs)) (exprs globals locals xs)
      exprs_read T.none = kept tt
      exprs_read (T.more e xs) = then (expr_reads e) λ v h. then (exprs_read xs) λ vs k. kept (h, k)

  module _ (result : Option Ty) where
    record Step (written : List ℕ) (c : Stmt × Scope globals) : Type 0 where
      settled : SettledStmt functions written c.0
      seen : Written (after functions written c.0) c.1.visible

    left : {written : List ℕ} (at : Place) (r : Option Ty) (s : Scope globals) → Written written s.visible → All (λ c. Step written (c, s)) (leaves globals r at)
    unfolding leaves SettledStmt after
    left at none s h = kept (record { settled = tt; seen = h })
    left at (some t) s h = broken

    given_back : {written : List ℕ} (at : Place) (r : Option Ty) (e : Typed) (s : Scope globals) → Written written s.visible → Reads functions written e.expr →
        All (λ c. Step written (c, s)) (gives globals r at e)
    unfolding gives SettledStmt after
    given_back at none e s h u = broken
    given_back {written} at (some t) e s h u = then (wanted (Reads functions written) t at e u) λ v u'. kept (record { settled = u'; seen = h })

    -- an expression of the type that is wanted, and what goes on with it
    value : {B : Type 0} {Q : B → Type 0} {f : C.Expr → Ruled B} {written : List ℕ} (t : Ty) (at : Place) (e : T.Expr) (s : Scope globals) → Written written s.visible →
        ((v : C.Expr) → Reads functions written v → All Q (f v)) → All Q (expr globals s.visible e >>= λ y. want t at y >>= f)
    value {written = written} t at e s h k = then (expr_reads written s.visible h e) λ y u. then (wanted (Reads functions written) t at y u) k

    mutual
      unfolding stmt SettledStmt after

      stmt_settled : (t : T.Stmt) (s : Scope globals) (written : List ℕ) → Written written s.visible → All (Step written) (stmt globals result t s)
      stmt_settled (T.declare at x t e) s written h =
          value t at e s h λ v u.
          then anything λ _ _.
          then anything λ _ _.
          kept (record { settled = u; seen = Each.more (In.here refl) (still h) })
      stmt_settled (T.assign at x e) s written h =
          then (expr_reads written s.visible h e) λ y u.
          then anything λ l _.
          then (wanted (Reads functions written) l.type at y u) λ v u'.
          kept (record { settled = u'; seen = still h })
      stmt_settled (T.store at x i e) s written h =
          then (expr_reads written s.visible h i) λ j u.
          then (expr_reads written s.visible h e) λ y v.
          then (wanted (Reads functions written) int at j u) λ j' u'.
          then (wanted (Reads functions written) int at y v) λ y' v'.
          then anything λ a _.
          kept (record { settled = (u', v'); seen = h })
      stmt_settled (T.when at e a) s written h =
          value bool at e s h λ c u.
          then (block_settled a s written h) λ p v.
          kept (record { settled = (u, v, tt); seen = h })
      stmt_settled (T.choose at e a b) s written h =
          value bool at e s h λ c u.
          then (block_settled a s written h) λ p v.
          then (block_settled b (record { visible = s.visible; count = p.1 }) written h) λ q w.
          kept (record { settled = (u, v, w); seen = h })
      stmt_settled (T.while at e a) s written h =
          value bool at e s h λ c u.
          then (block_settled a s written h) λ p v.
          kept (record { settled = (u, v); seen = h })
      stmt_settled (T.leave at) s written h = then (left at result s h) λ c k. kept k
      stmt_settled (T.give at e) s written h = then (expr_reads written s.visible h e) λ y u. then (given_back at result y s h u) λ c k. kept k
      stmt_settled (T.emit at e) s written h = value int at e s h λ v u. kept (record { settled = u; seen = h })
      stmt_settled (T.run at x xs) s written h =
          then (exprs_read written s.visible h xs) λ es u.
          then (answers at x) λ f a.
          then (fitted (SettlesAll written s.visible h f.number) globals at es f.parameters (λ e. (e ∙ sym a.arity, u))) λ vs k.
          kept (record { settled = (k.0, k.1); seen = h })

      pub block_settled : (b : T.Block) (s : Scope globals) (written : List ℕ) → Written written s.visible → All (λ r. SettledBlock functions written r.0) (block globals result b s)
      block_settled T.end s written h = kept tt
      block_settled (T.then t b) s written h =
          then (stmt_settled t s written h) λ c k.
          then (block_settled b c.1 (after functions written c.0) k.seen) λ r v.
          kept (k.settled, v)
