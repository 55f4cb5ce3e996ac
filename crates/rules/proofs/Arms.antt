-- A statement is of the kind that its header says: what is promised of that kind is promised of the statement.
use mathlib.Core.Path.{◌≡◌, refl, sym, ap, subst, ◌∙◌}
use mathlib.Core.Bool.{Bool, true, false}
use mathlib.Core.List.{List, [], ◌∷◌}
use mathlib.Core.Option.{Option}
use Prim.Native.Nat.{ℕ, zero, suc, ◌+◌, ◌<◌}
use native.Mathlib.Omega.{arith}
use lib.ListN.{length, drop}
use Rattle.language.specs.Tree.{Place, Ty, int, bool}
use Rattle.language.specs.Tree as T
use Rattle.language.specs.Rules.{Global, stmt}
use Rattle.grammar.specs.Flat as G
use Rattle.rules.specs.Tables.{word, part}
use Rattle.rules.specs.Named.{Stands, NamedExpr, NamedStmt}
use Rattle.std.specs.Prelude.{Result}
use Rattle.rules.specs.declared.Broken.{Broken}
use Rattle.rules.specs.declared.Scope as S
use Rattle.rules.specs.Post.{scope_of, StmtCase, States}
use Rattle.rules.specs.Statements.{Heads, declared_type, StatesTwo, Runs, Statement, holds_blocks}
use Rattle.rules.proofs.Heading.{further}
use Rattle.rules.proofs.Sorts.{kind_few}

abbrev pub Truth : Bool → Type 0
Truth true = Unit {0}
Truth false = ⊥

no_blocks : {k : ℕ} (i : ℕ) → holds_blocks i ≡ true → k ≡ i → holds_blocks k ≡ false → ⊥
no_blocks i t e h = subst Truth (sym t ∙ (ap holds_blocks (sym e) ∙ h)) tt

module _ (text : List ℕ) (gs : List Global) (locals : List ℕ) (l count : ℕ) (result : Option Ty) (tree : List ℕ) (p q : ℕ) (core : List ℕ) (r : Result S.Scope Broken) (locals' core' : List ℕ) {k at size n m s t rest : ℕ} (hd : Heads (drop p tree) k at size n m s t rest) where
  abbrev Said : T.Stmt → Type 0
  Said st = StmtCase gs text (stmt gs result st (scope_of gs text locals l count)) q core r locals' core'

  abbrev One : (T.Expr → T.Stmt) → Type 0
  One build = States text gs locals l count result build n rest (drop (p + 8) tree) q core r locals' core'

  abbrev Declares : ℕ → Type 0
  Declares i = One (λ e. T.declare at (part text at size) (declared_type i) e)

  -- what is promised of each kind with no block
  abbrev Arm : ℕ → Type 0
  Arm zero = One (λ e. T.assign at (part text at size) e)
  Arm (suc zero) = StatesTwo text gs locals l count result (λ i e. T.store at (part text at size) i e) n m rest (drop (p + 8) tree) q core r locals' core'
  Arm (suc (suc zero)) = Unit {0}
  Arm (suc (suc (suc zero))) = Unit {0}
  Arm (suc (suc (suc (suc zero)))) = Said (T.leave at)
  Arm (suc (suc (suc (suc (suc zero))))) = One (λ e. T.give at e)
  Arm (suc (suc (suc (suc (suc (suc zero)))))) = One (λ e. T.emit at e)
  Arm (suc (suc (suc (suc (suc (suc (suc zero))))))) = Runs text gs locals l count result at (part text at size) n rest (drop (p + 8) tree) q core r locals' core'
  Arm (suc (suc (suc (suc (suc (suc (suc (suc zero)))))))) = Unit {0}
  Arm (suc (suc (suc (suc (suc (suc (suc (suc (suc zero))))))))) = Declares k
  Arm (suc (suc (suc (suc (suc (suc (suc (suc (suc (suc zero)))))))))) = Declares k
  Arm (suc (suc (suc (suc (suc (suc (suc (suc (suc (suc (suc i))))))))))) = Unit {0}

  -- the words that the header is
  is_kind : {us : List ℕ} → drop p tree ≡ us → k ≡ word us 0
  is_kind e = hd.is_kind ∙ ap (λ (w : List ℕ). word w 0) e

  is_at : {us : List ℕ} → drop p tree ≡ us → at ≡ word us 1
  is_at e = hd.is_at ∙ ap (λ (w : List ℕ). word w 1) e

  is_size : {us : List ℕ} → drop p tree ≡ us → size ≡ word us 2
  is_size e = hd.is_size ∙ ap (λ (w : List ℕ). word w 2) e

  named : {A : Type 0} (f : Place → T.Name → A) {at' : Place} {x : T.Name} → at ≡ at' → size ≡ length x → Stands text at' x → f at (part text at size) ≡ f at' x
  named f {at'} {x} e g h = ap (λ (u : ℕ). f u (part text u size)) e ∙ (ap (λ (u : ℕ). f at' (part text at' u)) g ∙ ap (f at') h)

  one : (build : T.Expr → T.Stmt) → One build → (e : T.Expr) (more : List ℕ) (k' at' sz : ℕ) → drop p tree ≡ (k' ∷ at' ∷ sz ∷ G.size e ∷ 0 ∷ 0 ∷ 0 ∷ G.expr_length e ∷ G.expr_words e more) → NamedExpr text e → Said (build e)
  one build x e more k' at' sz ew ne = x.by e more (further tree p 8 ew refl) (hd.is_items ∙ ap (λ (w : List ℕ). word w 3) ew) (hd.is_rest ∙ ap (λ (w : List ℕ). word w 7) ew) ne

  arm : holds_blocks k ≡ false → Arm k → (st : T.Stmt) (more : List ℕ) → drop p tree ≡ G.stmt_words st more → NamedStmt text st → Said st
  unfolding G.stmt_words NamedStmt holds_blocks G.declare_kind declared_type
  arm b x (T.declare at' y Ty.int e) more ew nm = subst Said (named (λ u v. T.declare u v int e) (is_at ew) (is_size ew) nm.0) (one (λ e. T.declare at (part text at size) int e) (subst Declares (is_kind ew) (subst Arm (is_kind ew) x)) e more 9 at' (length y) ew nm.1)
  arm b x (T.declare at' y Ty.bool e) more ew nm = subst Said (named (λ u v. T.declare u v bool e) (is_at ew) (is_size ew) nm.0) (one (λ e. T.declare at (part text at size) bool e) (subst Declares (is_kind ew) (subst Arm (is_kind ew) x)) e more 10 at' (length y) ew nm.1)
  arm b x (T.assign at' y e) more ew nm = subst Said (named (λ u v. T.assign u v e) (is_at ew) (is_size ew) nm.0) (one (λ e. T.assign at (part text at size) e) (subst Arm (is_kind ew) x) e more 0 at' (length y) ew nm.1)
  arm b x (T.store at' y i e) more ew nm = subst Said (named (λ u v. T.store u v i e) (is_at ew) (is_size ew) nm.0)
      ((subst Arm (is_kind ew) x).by i e more (further tree p 8 ew refl) (hd.is_items ∙ ap (λ (w : List ℕ). word w 3) ew) (hd.is_more_items ∙ ap (λ (w : List ℕ). word w 4) ew) (hd.is_rest ∙ ap (λ (w : List ℕ). word w 7) ew) nm.1 nm.2)
  arm b x (T.when at' e a) more ew nm = absurd (no_blocks 8 refl (is_kind ew) b)
  arm b x (T.choose at' e a c) more ew nm = absurd (no_blocks 2 refl (is_kind ew) b)
  arm b x (T.while at' e a) more ew nm = absurd (no_blocks 3 refl (is_kind ew) b)
  arm b x (T.leave at') more ew nm = subst Said (ap T.leave (is_at ew)) (subst Arm (is_kind ew) x)
  arm b x (T.give at' e) more ew nm = subst Said (ap (λ (u : ℕ). T.give u e) (is_at ew)) (one (λ e. T.give at e) (subst Arm (is_kind ew) x) e more 5 at' 0 ew nm)
  arm b x (T.emit at' e) more ew nm = subst Said (ap (λ (u : ℕ). T.emit u e) (is_at ew)) (one (λ e. T.emit at e) (subst Arm (is_kind ew) x) e more 6 at' 0 ew nm)
  arm b x (T.run at' y xs) more ew nm = subst Said (named (λ u v. T.run u v xs) (is_at ew) (is_size ew) nm.0)
      ((subst Arm (is_kind ew) x).by xs more (further tree p 8 ew refl ∙ sym (named (λ u v. G.run_words u v xs more) (is_at ew) (is_size ew) nm.0)) (hd.is_items ∙ ap (λ (w : List ℕ). word w 3) ew)
      (hd.is_rest ∙ (ap (λ (w : List ℕ). word w 7) ew ∙ sym (named (λ u v. length (G.run_words u v xs [])) (is_at ew) (is_size ew) nm.0))) nm.1)

  pub of_kind : (i : ℕ) → k ≡ i → Arm i → holds_blocks k ≡ false → Statement text gs locals l count result (drop p tree) q core r locals' core'
  of_kind i e x b = record { by = arm b (subst Arm (sym e) x) }

  -- what is no statement says nothing
  pub of_none : 10 < k → Statement text gs locals l count result (drop p tree) q core r locals' core'
  of_none h = record { by = λ st more ew nm. absurd (omega (arith, h, is_kind ew, kind_few st more)) }

  pub of_blocks : holds_blocks k ≡ true → holds_blocks k ≡ false → Statement text gs locals l count result (drop p tree) q core r locals' core'
  of_blocks t f = absurd (subst Truth (sym t ∙ f) tt)
