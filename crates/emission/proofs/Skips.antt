-- Jumps, loops and conditions are their definitions', case by case.
use Prim.Native.Nat.{ℕ, zero, suc, ◌+◌, ◌-◌, ◌≤◌, ◌<◌}
use native.Mathlib.Omega.{arith}
use mathlib.Core.Path.{◌≡◌, refl, sym, ap, ◌∙◌, subst, subst⁻¹}
use mathlib.Core.Bool.{Bool, true, false, not, beq}
use borrow.Author.Tests.{clash, eqb-true, eq-eqb}
use lib.Dec.{eqb}
use mathlib.Core.List.{List, [], ◌∷◌, ◌++◌, append_assoc}
use lib.ListN.{length, length-append}
use Rattle.processor.specs.declared.Cond.{Cond}
use Rattle.processor.specs.declared.Cond.TheVariants.{Ne}
use Rattle.processor.specs.declared.Instr.TheVariants.{Branch, Jal}
use Rattle.symbolic.specs.Symbolic.{Reg, number, x0, answer, Instruction, jump, jump_back}
use Rattle.symbolic.specs.Real.{distance}
use Rattle.codegen.specs.Places as P
use Rattle.codegen.specs.Places.{source, fetch}
use Rattle.codegen.specs.Operators.{opposite, skip, sense, testing, comparing, always}
use Rattle.emission.specs.Tape.{Puts, Emits}
use Rattle.emission.specs.Macros.{EmitsFor}
use Rattle.emission.proofs.Laws.{put_at, none, one, last_if, after, after_if, filled}

ahead : (at to : ℕ) {b : ℕ} → at ≤ to → b ≡ distance (at - 1) to → 0 < at → distance (at - 1) (at - 1 + suc (to - at)) ≡ b
ahead at to l e h = ap (λ (m : ℕ). distance (at - 1) m) (omega arith) ∙ sym e

pub jumped : (to : ℕ) {b at r : ℕ} {ws ws' : List ℕ} → at ≤ to → b ≡ distance (at - 1) to → Puts (Jal 0 b) at ws ws' r → Emits (jump (suc (to - at)) ∷ []) at ws ws' r
jumped to {b} {at} l e h = last_if (λ (n : 0 < at). ap (λ (x : ℕ). Jal 0 x) (ahead at to l e n)) h

pub jumps_back : (start : ℕ) {b at r : ℕ} {ws ws' : List ℕ} → b ≡ distance (at - 1) start → Puts (Jal 0 b) at ws ws' r →
    Puts (Jal 0 (distance (at - 1) start)) at ws ws' (at - 1)
jumps_back start {b} {at} {r} {ws} {ws'} e h =
    subst (λ (x : ℕ). Puts (Jal 0 x) at ws ws' (at - 1)) e (subst (λ (k : ℕ). Puts (Jal 0 b) at ws ws' k) (put_at h) h)

-- a loop: what was emitted before its last word, and then the jump back to where that begins
pub looped : (a b : List Instruction) {at r : ℕ} {ws ws₁ ws₂ : List ℕ} → Emits (a ++ b) (at - 1) ws ws₁ r → Puts (Jal 0 (distance (at - 1) r)) at ws₁ ws₂ (at - 1) →
    Emits (a ++ (b ++ (jump_back (length a + length b) ∷ []))) at ws ws₂ r
looped a b {at} {r} {ws} {ws₁} {ws₂} e h =
    let back : at - 1 - (length a + length b) ≡ r = omega (arith, e.position, length-append a b) in
    subst (λ (c : List Instruction). Emits c at ws ws₂ r) (append_assoc a b (jump_back (length a + length b) ∷ []))
    (filled (a ++ b) (jump_back (length a + length b)) (Jal 0 (distance (at - 1) r)) e (ap (λ (x : ℕ). Jal 0 (distance (at - 1) x)) back) h)

-- code, and before it the jump over it
pub jumped_over : (c : List Instruction) {at r₁ r₂ : ℕ} {ws ws₁ ws₂ : List ℕ} → Emits c at ws ws₁ r₁ → r₂ ≤ r₁ → Emits (jump (suc (at - r₁)) ∷ []) r₁ ws₁ ws₂ r₂ →
    Emits (jump (suc (length c)) ∷ c) at ws ws₂ r₂
jumped_over c {at} {r₁} {r₂} {ws} {ws₁} {ws₂} e l f =
    after_if e l (λ (h : length c ≤ at).
    let over : at - r₁ ≡ length c = omega (arith, e.position) in
    subst (λ (k : ℕ). Emits (jump (suc k) ∷ []) r₁ ws₁ ws₂ r₂) over f)

pub registers : {c : Cond} {m n a b : ℕ} {x y : ℕ} → m ≡ a → n ≡ b → x ≡ y → Branch c m n x ≡ Branch c a b y
registers {c} {m} {n} {a} {b} {x} {y} f g h = ap (λ (z : ℕ). Branch c z n x) f ∙ ap (λ (z : ℕ). Branch c a z x) g ∙ ap (λ (z : ℕ). Branch c a b z) h

pub skip_near : (to : ℕ) {near : Bool} {c : Cond} {b m n at r : ℕ} {ws ws' : List ℕ} → near ≡ true → at ≤ to → b ≡ distance (at - 1) to →
    Puts (Branch c m n b) at ws ws' r → EmitsFor (λ p q. skip near c p q (to - at)) m n at ws ws' r
skip_near to {near} {c} {b} {m} {n} {at} {r} {ws} {ws'} e l d h = record {
  each = λ (p q : Reg) (f : number p ≡ m) (g : number q ≡ n).
      subst⁻¹ (λ (t : Bool). Emits (skip t c p q (to - at)) at ws ws' r) e (last_if (λ (z : 0 < at). registers f g (ahead at to l d z)) h);
}

pub skip_far : (k : ℕ) (c : Cond) {near : Bool} {o : Cond} {b m n at r₁ r₂ : ℕ} {ws ws₁ ws₂ : List ℕ} → near ≡ false → o ≡ opposite c →
    Emits (jump (suc k) ∷ []) at ws ws₁ r₁ → b ≡ distance (r₁ - 1) (r₁ - 1 + 2) → Puts (Branch o m n b) r₁ ws₁ ws₂ r₂ →
    EmitsFor (λ p q. skip near c p q k) m n at ws ws₂ r₂
skip_far k c {near} {o} {b} {m} {n} {at} {r₁} {r₂} {ws} {ws₁} {ws₂} e eo j d h = record {
  each = λ (p q : Reg) (f : number p ≡ m) (g : number q ≡ n).
      subst⁻¹ (λ (t : Bool). Emits (skip t c p q k) at ws ws₂ r₂) e
      (one j (registers f g (sym d) ∙ ap (λ (x : Cond). Branch x m n b) (sym eo)) h);
}

pub tests : (near t : Bool) (p : P.Place) (k : ℕ) {c : Cond} {s at r₁ r₂ : ℕ} {ws ws₁ ws₂ : List ℕ} → c ≡ sense t Ne → s ≡ number (source p 0) →
    EmitsFor (λ x y. skip near c x y k) s 0 at ws ws₁ r₁ → Emits (fetch p 0) r₁ ws₁ ws₂ r₂ → Emits (testing near t p k) at ws ws₂ r₂
tests near t p k {c} {s} {at} {r₁} {r₂} {ws} {ws₁} e es f g =
    after (subst (λ (x : Cond). Emits (skip near x (source p 0) x0 k) at ws ws₁ r₁) e (f.each (source p 0) x0 (sym es) refl)) g

pub tests_answer : (near t : Bool) (k : ℕ) {c : Cond} {at r : ℕ} {ws ws' : List ℕ} → c ≡ sense t Ne → EmitsFor (λ x y. skip near c x y k) 10 0 at ws ws' r →
    Emits (skip near (sense t Ne) answer x0 k) at ws ws' r
tests_answer near t k {c} {at} {r} {ws} {ws'} e f = subst (λ (x : Cond). Emits (skip near x answer x0 k) at ws ws' r) e (f.each answer x0 refl refl)

pub compares : (near t : Bool) (p q : P.Place) (k : ℕ) (c₀ : Cond) {c : Cond} {turned : Bool} {u v at r₁ r₂ r₃ : ℕ} {ws ws₁ ws₂ ws₃ : List ℕ} → turned ≡ false → c ≡ sense t c₀ →
    u ≡ number (source p 0) → v ≡ number (source q 1) → EmitsFor (λ x y. skip near c x y k) u v at ws ws₁ r₁ → Emits (fetch q 1) r₁ ws₁ ws₂ r₂ →
    Emits (fetch p 0) r₂ ws₂ ws₃ r₃ → Emits (comparing near t c₀ turned p q k) at ws ws₃ r₃
compares near t p q k c₀ {c} {turned} {u} {v} {at} {r₁} {r₂} {r₃} {ws} {ws₁} {ws₂} {ws₃} et e eu ev f g h =
    subst⁻¹ (λ (b : Bool). Emits (comparing near t c₀ b p q k) at ws ws₃ r₃) et
    (after (after (subst (λ (x : Cond). Emits (skip near x (source p 0) (source q 1) k) at ws ws₁ r₁) e (f.each (source p 0) (source q 1) (sym eu) (sym ev))) g) h)

pub compares_turned : (near t : Bool) (p q : P.Place) (k : ℕ) (c₀ : Cond) {c : Cond} {turned : Bool} {u v at r₁ r₂ r₃ : ℕ} {ws ws₁ ws₂ ws₃ : List ℕ} → turned ≡ true → c ≡ sense t c₀ →
    u ≡ number (source p 0) → v ≡ number (source q 1) → EmitsFor (λ x y. skip near c x y k) v u at ws ws₁ r₁ → Emits (fetch q 1) r₁ ws₁ ws₂ r₂ →
    Emits (fetch p 0) r₂ ws₂ ws₃ r₃ → Emits (comparing near t c₀ turned p q k) at ws ws₃ r₃
compares_turned near t p q k c₀ {c} {turned} {u} {v} {at} {r₁} {r₂} {r₃} {ws} {ws₁} {ws₂} {ws₃} et e eu ev f g h =
    subst⁻¹ (λ (b : Bool). Emits (comparing near t c₀ b p q k) at ws ws₃ r₃) et
    (after (after (subst (λ (x : Cond). Emits (skip near x (source q 1) (source p 0) k) at ws ws₁ r₁) e (f.each (source q 1) (source p 0) (sym ev) (sym eu))) g) h)

-- a constant's truth that is not the jump's

pub stays : (t : Bool) (n k : ℕ) {at : ℕ} {ws : List ℕ} → beq (not (eqb n 0)) t ≡ false → Emits (always t n k) at ws ws at
stays t n k {at} {ws} e = by t (eqb n 0) e refl
  where
    stays_at_zero : n ≡ 0 → Emits (always true n k) at ws ws at
    stays_at_zero z = subst⁻¹ (λ (m : ℕ). Emits (always true m k) at ws ws at) z none

    stays_if : (m : ℕ) → (m ≡ 0 → ⊥) → Emits (always false m k) at ws ws at
    stays_if zero h = absurd (h refl)
    stays_if (suc m) h = none

    by : (t b : Bool) → beq (not b) t ≡ false → eqb n 0 ≡ b → Emits (always t n k) at ws ws at
    by true true e f = stays_at_zero (eqb-true n 0 f)
    by true false e f = absurd (clash (sym e))
    by false true e f = absurd (clash (sym e))
    by false false e f = stays_if n (λ (z : n ≡ 0). clash (sym f ∙ eq-eqb n 0 z))
