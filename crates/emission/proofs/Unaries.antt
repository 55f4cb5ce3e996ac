-- The unary operators are their definitions', case by case.
use Prim.Native.Nat.{ℕ}
use native.Mathlib.Omega.{arith}
use mathlib.Core.Path.{◌≡◌, refl, sym, ap, ◌∙◌, subst⁻¹}
use mathlib.Core.Logic.{◌⊎◌, inl, inr}
use mathlib.Core.Bool.{Bool, true, false}
use mathlib.Core.List.{List, ◌∷◌, ◌++◌}
use borrow.Author.Tests.{eq-eqb, ne_eqb}
use lib.Dec.{eqb}
use Rattle.word.specs.Word.{neg_w, bit_of}
use Rattle.processor.specs.declared.Alu.TheVariants.{Sub, Sltu}
use Rattle.processor.specs.declared.Instr.TheVariants.{Op, OpImm}
use Rattle.language.specs.Tree.{Unary}
use Rattle.language.specs.Meaning.{apply}
use Rattle.flat.specs.declared.operator.Unary.{Unary as Operator}
use Rattle.flat.specs.declared.operator.Unary.TheVariants.{Negate, Not}
use Rattle.flat.specs.Numbers.{unary_of}
use Rattle.symbolic.specs.Symbolic.{number, x0, op, opi}
use Rattle.codegen.specs.Places as P
use Rattle.codegen.specs.Places.{source, fetch, target, keep}
use Rattle.codegen.specs.Operators.{alone, applying}
use Rattle.emission.specs.declared.Place.{Place}
use Rattle.emission.specs.declared.Place.TheVariants as At
use Rattle.emission.specs.Tape.{Emits}
use Rattle.emission.specs.Macros.{placed, EmitsOne}
use Rattle.emission.proofs.Laws.{none}

-- of a constant

pub apply_negate : (n : ℕ) {o : Operator} {r : ℕ} → o ≡ Negate → r ≡ neg_w n → r ≡ apply (unary_of o) n
unfolding apply
apply_negate n e f = f ∙ ap (λ (u : Operator). apply (unary_of u) n) (sym e)

apply_not : (n : ℕ) {o : Operator} {r : ℕ} {b : Bool} → o ≡ Not → eqb n 0 ≡ b → r ≡ bit_of b → r ≡ apply (unary_of o) n
unfolding apply
apply_not n e g f = f ∙ ap bit_of (sym g) ∙ ap (λ (u : Operator). apply (unary_of u) n) (sym e)

pub apply_zero : (n : ℕ) {o : Operator} → o ≡ Not → n ≡ 0 → 1 ≡ apply (unary_of o) n
unfolding bit_of
apply_zero n h e = apply_not n {b = true} h (eq-eqb n 0 e) refl

pub apply_some : (n : ℕ) {o : Operator} → o ≡ Not → (n ≡ 0 → ⊥) → 0 ≡ apply (unary_of o) n
unfolding bit_of
apply_some n h e = apply_not n {b = false} h (ne_eqb n 0 e) refl

-- its code

module _ (p : P.Place) (d : ℕ) {o : Operator} {t s at r : ℕ} {ws ws' : List ℕ} (to : t ≡ number (target d)) (from : s ≡ number (source p 0)) where
  pub alone_negate : o ≡ Negate → EmitsOne (λ x. fetch p 0 ++ (x ∷ keep d)) (Op Sub t 0 s) at ws ws' r →
      Emits (fetch p 0 ++ (alone (unary_of o) (target d) (source p 0) ∷ keep d)) at ws ws' r
  alone_negate e f =
      subst⁻¹ (λ (u : Unary). Emits (fetch p 0 ++ (alone u (target d) (source p 0) ∷ keep d)) at ws ws' r) (ap unary_of e)
      (f.each (op Sub (target d) x0 (source p 0)) (λ (k : ℕ). ap (λ (x : ℕ). Op Sub x 0 (number (source p 0))) (sym to) ∙ ap (λ (x : ℕ). Op Sub t 0 x) (sym from)))

  pub alone_not : o ≡ Not → EmitsOne (λ x. fetch p 0 ++ (x ∷ keep d)) (OpImm Sltu t s 1) at ws ws' r →
      Emits (fetch p 0 ++ (alone (unary_of o) (target d) (source p 0) ∷ keep d)) at ws ws' r
  alone_not e f =
      subst⁻¹ (λ (u : Unary). Emits (fetch p 0 ++ (alone u (target d) (source p 0) ∷ keep d)) at ws ws' r) (ap unary_of e)
      (f.each (opi Sltu (target d) (source p 0) 1) (λ (k : ℕ). ap (λ (x : ℕ). OpImm Sltu x (number (source p 0)) 1) (sym to) ∙ ap (λ (x : ℕ). OpImm Sltu t x 1) (sym from)))

pub applies_constant : (o : Unary) (d : ℕ) {p : Place} {at : ℕ} {ws : List ℕ} {n : ℕ} → p ≡ At.Constant n → Emits (applying o (placed p) d) at ws ws at
applies_constant o d {p} {at} {ws} e = subst⁻¹ (λ (q : Place). Emits (applying o (placed q) d) at ws ws at) e none

pub applies : (o : Unary) (d : ℕ) (p : Place) {at r : ℕ} {ws ws' : List ℕ} → ((y : ℕ) × (p ≡ At.Local y)) ⊎ ((j : ℕ) × (p ≡ At.Temporary j)) →
    Emits (fetch (placed p) 0 ++ (alone o (target d) (source (placed p) 0) ∷ keep d)) at ws ws' r → Emits (applying o (placed p) d) at ws ws' r
applies o d (At.Constant n) (inl (y, e)) f = let z : ◌≡◌ {A = ℕ} 0 1 = cc in absurd (omega arith)
applies o d (At.Constant n) (inr (j, e)) f = let z : ◌≡◌ {A = ℕ} 0 1 = cc in absurd (omega arith)
applies o d (At.Local y) m f = f
applies o d (At.Temporary j) m f = f
