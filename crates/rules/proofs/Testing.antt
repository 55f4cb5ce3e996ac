-- A condition: what its expression gives, if that is a bool.
use mathlib.Core.Path.{◌≡◌, refl, subst, ◌∙◌}
use mathlib.Core.Bool.{true, false}
use mathlib.Core.List.{List, [], ◌∷◌}
use Prim.Native.Nat.{ℕ}
use lib.Seq.{sets}
use borrow.Author.Tests.{ne_eqb}
use Rattle.language.specs.Tree.{Place, Ty, bool}
use Rattle.language.specs.Tree as T
use Rattle.language.specs.Rules.{breaks, ◌>>=◌, same_ty, Global, Local, want, expr}
use Rattle.std.specs.Prelude.{Result, Ok, Err}
use Rattle.rules.specs.declared.Broken.{Broken}
use Rattle.grammar.specs.declared.tree.ValueType.{ValueType}
use Rattle.rules.specs.Values.{meant, broken_at}
use Rattle.rules.specs.Post.{TypedAs, ExprCase, Elaborates}
use Rattle.rules.specs.Statements.{Tested, Conditions, nest_words}
use Rattle.rules.proofs.Stating.{went, stopped, want_fine, want_wrong}
use Rattle.rules.proofs.Storing.{items_many}

module _ {text : List ℕ} {gs : List Global} {ls : List Local} (at : Place) {n : ℕ} {ws : List ℕ} {q : ℕ} {core : List ℕ} {r : Result ValueType Broken} {core' : List ℕ} (x : Elaborates text gs ls n ws q core r core') where
  pub cond_fault : {b : Broken} {core'' : List ℕ} → r ≡ Err b → Conditions text gs ls at n ws q core (Err b) core''
  cond_fault d = record { by = λ e more ew en nm. stopped _ (subst (λ (o : Result ValueType Broken). ExprCase (expr gs ls e) q core o core') d (x.by e more ew en nm)) }

  module _ {ty : ValueType} (d : r ≡ Ok ty) where
    fine_at : (e : T.Expr) → TypedAs (expr gs ls e) q core ty core' → same_ty bool (meant ty) ≡ true → Tested e (expr gs ls e >>= want bool at) q core core'
    fine_at e t f = record { value = t.value.expr; is = went _ t.is (want_fine bool at t.value t.type refl f); there = t.there; many = items_many gs ls e t }

    pub cond_fine : same_ty bool (meant ty) ≡ true → Conditions text gs ls at n ws q core (Ok tt) core'
    cond_fine f = record { by = λ e more ew en nm. fine_at e (subst (λ (o : Result ValueType Broken). ExprCase (expr gs ls e) q core o core') d (x.by e more ew en nm)) f }

    wrong_at : (e : T.Expr) → TypedAs (expr gs ls e) q core ty core' → same_ty bool (meant ty) ≡ false → expr gs ls e >>= want bool at ≡ breaks at
    wrong_at e t f = went _ t.is (want_wrong bool at t.value t.type refl f)

    pub cond_wrong : {core'' : List ℕ} → same_ty bool (meant ty) ≡ false → Conditions text gs ls at n ws q core (Err (broken_at at)) core''
    cond_wrong f = record { by = λ e more ew en nm. wrong_at e (subst (λ (o : Result ValueType Broken). ExprCase (expr gs ls e) q core o core') d (x.by e more ew en nm)) f }

-- The header of a statement with blocks

module _ (core core' : List ℕ) (q k size n s t rest : ℕ) where
  pub loop_header : k ≡ 3 → core' ≡ sets core q (3 ∷ 0 ∷ 0 ∷ n ∷ 0 ∷ s ∷ t ∷ rest ∷ []) → core' ≡ sets core q (nest_words k size n s t rest)
  unfolding nest_words
  loop_header e h = h ∙ rw e refl

  pub choice_header : (k ≡ 3 → ⊥) → core' ≡ sets core q (2 ∷ size ∷ 0 ∷ n ∷ 0 ∷ s ∷ t ∷ rest ∷ []) → core' ≡ sets core q (nest_words k size n s t rest)
  unfolding nest_words
  choice_header e h = h ∙ rw (ne_eqb k 3 e) refl
