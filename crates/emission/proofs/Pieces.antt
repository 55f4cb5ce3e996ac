-- Each piece of code about places is its definition's, case by case.
use Prim.Native.Nat.{ℕ, zero, suc, ◌+◌, ◌-◌, ◌*◌, ◌≤◌, ◌<◌}
use native.Mathlib.Omega.{arith}
use mathlib.Core.Path.{◌≡◌, refl, sym, ap, ◌∙◌, subst, subst⁻¹}
use mathlib.Core.Logic.{◌⊎◌, inl, inr}
use mathlib.Core.Bool.{Bool, true, false}
use mathlib.Core.List.{List, [], ◌∷◌, ◌++◌}
use borrow.Author.Tests.{lt-ltb, le-ltb}
use lib.Dec.{leb}
use Rattle.word.specs.Choice.{pick, either}
use Rattle.processor.specs.declared.Alu.TheVariants.{Add}
use Rattle.processor.specs.declared.Instr.{Instr}
use Rattle.processor.specs.declared.Instr.TheVariants.{OpImm, Lui}
use Rattle.symbolic.specs.Symbolic.{Reg, number, reg, Temporary, scratch, sp, answer, Instruction, lw, sw, mv}
use Rattle.symbolic.specs.Real.{real}
use Rattle.codegen.specs.Places as P
use Rattle.codegen.specs.Places.{short, upper_of, lower_of, constant_to, constant_by, source, fetch, target, keep, settle, move, bring}
use Rattle.emission.specs.declared.Place.{Place}
use Rattle.emission.specs.declared.Place.TheVariants as At
use Rattle.emission.specs.Tape.{Puts, Emits}
use Rattle.emission.specs.Macros.{placed, EmitsAt, EmitsOne}
use Rattle.emission.proofs.Laws.{none, one, last, after}

pub short_low : {n : ℕ} → n < 2048 → true ≡ short n
unfolding short
short_low {n} h = ap (λ (b : Bool). either b (leb 4294965248 n)) (sym (lt-ltb n 2048 h))

pub short_high : {n : ℕ} → 2048 ≤ n → leb 4294965248 n ≡ short n
unfolding short
short_high {n} h = ap (λ (b : Bool). either b (leb 4294965248 n)) (sym (le-ltb n 2048 h))

pub constant_short : {r n at k : ℕ} {ws ws' : List ℕ} → short n ≡ true → Puts (OpImm Add r 0 n) at ws ws' k → EmitsAt (λ p. constant_to p n) r at ws ws' k
constant_short {r} {n} {at} {k} {ws} {ws'} s h = record {
  each = λ (p : Reg) (e : number p ≡ r).
      subst (λ (b : Bool). Emits (constant_by b p n) at ws ws' k) (sym s) (last (ap (λ (x : ℕ). OpImm Add x 0 n) e) h);
}

pub constant_long : (n : ℕ) {r l u at k₁ k₂ : ℕ} {ws ws₁ ws₂ : List ℕ} → short n ≡ false → l ≡ lower_of n → u ≡ upper_of n → Puts (OpImm Add r r l) at ws ws₁ k₁ →
    Puts (Lui r u) k₁ ws₁ ws₂ k₂ → EmitsAt (λ p. constant_to p n) r at ws ws₂ k₂
constant_long n {r} {l} {u} {at} {k₁} {k₂} {ws} {ws₁} {ws₂} s el eu h₁ h₂ = record {
  each = λ (p : Reg) (e : number p ≡ r).
      subst (λ (b : Bool). Emits (constant_by b p n) at ws ws₂ k₂) (sym s)
      (one (last (ap (λ (x : ℕ). OpImm Add x x (lower_of n)) e ∙ ap (λ (x : ℕ). OpImm Add r r x) (sym el)) h₁)
      (ap (λ (x : ℕ). Lui x (upper_of n)) e ∙ ap (λ (x : ℕ). Lui r x) (sym eu)) h₂);
}

-- Operands

source_nonzero : (n w : ℕ) → (n ≡ 0 → ⊥) → 4 + w ≡ number (source (P.constant n) w)
source_nonzero zero w h = absurd (h refl)
source_nonzero (suc n) w h = refl

module _ {p : Place} (w : ℕ) where
  pub source_zero : {n : ℕ} → p ≡ At.Constant n → n ≡ 0 → 0 ≡ number (source (placed p) w)
  source_zero {n} e z = ap (λ (q : Place). number (source (placed q) w)) (sym (e ∙ ap At.Constant z))

  pub source_some : {n : ℕ} → p ≡ At.Constant n → (n ≡ 0 → ⊥) → 4 + w ≡ number (source (placed p) w)
  source_some {n} e h = source_nonzero n w h ∙ ap (λ (q : Place). number (source (placed q) w)) (sym e)

  pub source_local : {y : ℕ} → p ≡ At.Local y → 4 + w ≡ number (source (placed p) w)
  source_local e = ap (λ (q : Place). number (source (placed q) w)) (sym e)

  pub source_register : {d : ℕ} → p ≡ At.Temporary d → d < 7 → 25 + d ≡ number (source (placed p) w)
  source_register {d} e h =
      ap (λ (b : Bool). number (pick b (reg Temporary d) (scratch w))) (sym (lt-ltb d 7 h)) ∙ ap (λ (q : Place). number (source (placed q) w)) (sym e)

  pub source_frame : {d : ℕ} → p ≡ At.Temporary d → 7 ≤ d → 4 + w ≡ number (source (placed p) w)
  source_frame {d} e h =
      ap (λ (b : Bool). number (pick b (reg Temporary d) (scratch w))) (sym (le-ltb d 7 h)) ∙ ap (λ (q : Place). number (source (placed q) w)) (sym e)

pub target_register : {d : ℕ} → d < 7 → 25 + d ≡ number (target d)
target_register {d} h = ap (λ (b : Bool). number (pick b (reg Temporary d) (scratch 0))) (sym (lt-ltb d 7 h))

pub target_frame : {d : ℕ} → 7 ≤ d → 4 ≡ number (target d)
target_frame {d} h = ap (λ (b : Bool). number (pick b (reg Temporary d) (scratch 0))) (sym (le-ltb d 7 h))

module _ {at r : ℕ} {ws ws' : List ℕ} where
  fetch_nonzero : (n w : ℕ) → (n ≡ 0 → ⊥) → EmitsAt (λ p. constant_to p n) (4 + w) at ws ws' r → Emits (fetch (P.constant n) w) at ws ws' r
  fetch_nonzero zero w h e = absurd (h refl)
  fetch_nonzero (suc n) w h e = e.each (scratch w) refl

  pub fetch_some : (w : ℕ) {p : Place} {n : ℕ} → p ≡ At.Constant n → (n ≡ 0 → ⊥) → EmitsAt (λ p. constant_to p n) (4 + w) at ws ws' r →
      Emits (fetch (placed p) w) at ws ws' r
  fetch_some w {p} {n} e h f = subst⁻¹ (λ (q : Place). Emits (fetch (placed q) w) at ws ws' r) e (fetch_nonzero n w h f)

  pub fetch_local_lem : (w : ℕ) {p : Place} {y : ℕ} → p ≡ At.Local y → EmitsAt (λ p. lw p sp (4 * (y + 1)) ∷ []) (4 + w) at ws ws' r →
      Emits (fetch (placed p) w) at ws ws' r
  fetch_local_lem w {p} {y} e f = subst⁻¹ (λ (q : Place). Emits (fetch (placed q) w) at ws ws' r) e
      (subst (λ (m : ℕ). Emits (lw (scratch w) sp (4 * m) ∷ []) at ws ws' r) (omega arith) (f.each (scratch w) refl))

  pub fetch_frame : (w : ℕ) {p : Place} {d : ℕ} → p ≡ At.Temporary d → 7 ≤ d → EmitsAt (λ p. lw p sp (4 * (65 + d)) ∷ []) (4 + w) at ws ws' r →
      Emits (fetch (placed p) w) at ws ws' r
  fetch_frame w {p} {d} e h f = subst⁻¹ (λ (q : Place). Emits (fetch (placed q) w) at ws ws' r) e
      (subst⁻¹ (λ (b : Bool). Emits (pick b [] (lw (scratch w) sp (4 * (65 + d)) ∷ [])) at ws ws' r) (le-ltb d 7 h) (f.each (scratch w) refl))

  pub keep_frame : {d : ℕ} → 7 ≤ d → EmitsAt (λ p. sw p sp (4 * (65 + d)) ∷ []) 4 at ws ws' r → Emits (keep d) at ws ws' r
  keep_frame {d} h f = subst⁻¹ (λ (b : Bool). Emits (pick b [] (sw (scratch 0) sp (4 * (65 + d)) ∷ [])) at ws ws' r) (le-ltb d 7 h) (f.each (scratch 0) refl)

  pub settles : (v d : ℕ) {t r₁ : ℕ} {ws₁ : List ℕ} → t ≡ number (target d) → Emits (keep d) at ws ws₁ r₁ → Puts (OpImm Add t 0 v) r₁ ws₁ ws' r →
      Emits (settle v d) at ws ws' r
  settles v d e k h = one k (ap (λ (x : ℕ). OpImm Add x 0 v) (sym e)) h

  -- a value moved

  moves : (p : P.Place) (d : ℕ) {t s : ℕ} → t ≡ number (target d) → s ≡ number (source p 0) → EmitsOne (λ x. fetch p 0 ++ (x ∷ keep d)) (OpImm Add t s 0) at ws ws' r →
      Emits (fetch p 0 ++ (mv (target d) (source p 0) ∷ keep d)) at ws ws' r
  moves p d {t} {s} et es f = f.each (mv (target d) (source p 0)) (λ (k : ℕ).
      ap (λ (x : ℕ). OpImm Add x (number (source p 0)) 0) (sym et) ∙ ap (λ (x : ℕ). OpImm Add t x 0) (sym es))

  pub carries : (d : ℕ) (p : Place) {t s : ℕ} → ((n : ℕ) × (p ≡ At.Constant n)) ⊎ ((y : ℕ) × (p ≡ At.Local y)) → t ≡ number (target d) → s ≡ number (source (placed p) 0) →
      EmitsOne (λ x. fetch (placed p) 0 ++ (x ∷ keep d)) (OpImm Add t s 0) at ws ws' r → Emits (move (placed p) d) at ws ws' r
  carries d (At.Constant n) m et es f = moves (P.constant n) d et es f
  carries d (At.Local y) m et es f = moves (P.local y) d et es f
  carries d (At.Temporary j) (inl (n, e)) et es f = let z : ◌≡◌ {A = ℕ} 0 1 = cc in absurd (omega arith)
  carries d (At.Temporary j) (inr (y, e)) et es f = let z : ◌≡◌ {A = ℕ} 0 1 = cc in absurd (omega arith)

  -- a value brought

  pub bring_constant : {p : Place} {n : ℕ} → p ≡ At.Constant n → EmitsAt (λ p. constant_to p n) 10 at ws ws' r → Emits (bring (placed p)) at ws ws' r
  bring_constant e f = subst⁻¹ (λ (q : Place). Emits (bring (placed q)) at ws ws' r) e (f.each answer refl)

  pub bring_local : {p : Place} {y : ℕ} → p ≡ At.Local y → EmitsAt (λ p. lw p sp (4 * (y + 1)) ∷ []) 10 at ws ws' r → Emits (bring (placed p)) at ws ws' r
  bring_local {p} {y} e f = subst⁻¹ (λ (q : Place). Emits (bring (placed q)) at ws ws' r) e
      (subst (λ (m : ℕ). Emits (lw answer sp (4 * m) ∷ []) at ws ws' r) (omega arith) (f.each answer refl))

  pub bring_register : {p : Place} {d : ℕ} → p ≡ At.Temporary d → d < 7 → Puts (OpImm Add 10 (25 + d) 0) at ws ws' r → Emits (bring (placed p)) at ws ws' r
  bring_register {p} {d} e h f = subst⁻¹ (λ (q : Place). Emits (bring (placed q)) at ws ws' r) e
      (subst⁻¹ (λ (b : Bool). Emits (pick b (mv answer (reg Temporary d) ∷ []) (lw answer sp (4 * (65 + d)) ∷ [])) at ws ws' r) (lt-ltb d 7 h) (last refl f))

  pub bring_frame : {p : Place} {d : ℕ} → p ≡ At.Temporary d → 7 ≤ d → EmitsAt (λ p. lw p sp (4 * (65 + d)) ∷ []) 10 at ws ws' r → Emits (bring (placed p)) at ws ws' r
  bring_frame {p} {d} e h f = subst⁻¹ (λ (q : Place). Emits (bring (placed q)) at ws ws' r) e
      (subst⁻¹ (λ (b : Bool). Emits (pick b (mv answer (reg Temporary d) ∷ []) (lw answer sp (4 * (65 + d)) ∷ [])) at ws ws' r) (le-ltb d 7 h) (f.each answer refl))

-- nothing is to be done

module _ {at : ℕ} {ws : List ℕ} where
  pub fetch_zero : (w : ℕ) {p : Place} {n : ℕ} → p ≡ At.Constant n → n ≡ 0 → Emits (fetch (placed p) w) at ws ws at
  fetch_zero w {p} {n} e z = subst⁻¹ (λ (q : Place). Emits (fetch (placed q) w) at ws ws at) (e ∙ ap At.Constant z) none

  pub fetch_register : (w : ℕ) {p : Place} {d : ℕ} → p ≡ At.Temporary d → d < 7 → Emits (fetch (placed p) w) at ws ws at
  fetch_register w {p} {d} e h = subst⁻¹ (λ (q : Place). Emits (fetch (placed q) w) at ws ws at) e
      (subst⁻¹ (λ (b : Bool). Emits (pick b [] (lw (scratch w) sp (4 * (65 + d)) ∷ [])) at ws ws at) (lt-ltb d 7 h) none)

  pub keep_register : {d : ℕ} → d < 7 → Emits (keep d) at ws ws at
  keep_register {d} h = subst⁻¹ (λ (b : Bool). Emits (pick b [] (sw (scratch 0) sp (4 * (65 + d)) ∷ [])) at ws ws at) (lt-ltb d 7 h) none

  pub carry_temporary : (d : ℕ) {p : Place} {j : ℕ} → p ≡ At.Temporary j → Emits (move (placed p) d) at ws ws at
  carry_temporary d {p} {j} e = subst⁻¹ (λ (q : Place). Emits (move (placed q) d) at ws ws at) e none

-- an operand, one instruction, and its result kept
pub keeps : (p : P.Place) (d : ℕ) {at r₁ r₂ r₃ : ℕ} {i : Instr} {ws ws₁ ws₂ ws₃ : List ℕ} → Emits (keep d) at ws ws₁ r₁ → Puts i r₁ ws₁ ws₂ r₂ →
    Emits (fetch p 0) r₂ ws₂ ws₃ r₃ → EmitsOne (λ x. fetch p 0 ++ (x ∷ keep d)) i at ws ws₃ r₃
keeps p d {r₁ = r₁} {i = i} e h f = record { each = λ (x : Instruction) (s : (k : ℕ) → real k x ≡ i). after (one e (s (r₁ - 1)) h) f }
