-- Calls are their definitions', register by register and argument by argument.
use Prim.Native.Nat.{ℕ, suc, ◌+◌, ◌-◌, ◌*◌, ◌≤◌, ◌<◌}
use native.Mathlib.Omega.{arith}
use native.Mathlib.Decide.{dec_lt}
use mathlib.Core.Path.{◌≡◌, refl, sym, ap, ◌∙◌, subst, subst⁻¹}
use mathlib.Core.Bool.{Bool}
use mathlib.Core.List.{List, [], ◌∷◌, ◌++◌}
use borrow.Author.Tests.{lt-ltb, le-ltb}
use Rattle.word.specs.Choice.{pick}
use Rattle.processor.specs.declared.Alu.TheVariants.{Add}
use Rattle.processor.specs.declared.Instr.TheVariants.{Jal, OpImm}
use Rattle.symbolic.specs.Symbolic.{number, x0, reg, Temporary, sp, answer, Instruction, mv, lw, sw}
use Rattle.symbolic.specs.Real.{distance}
use Rattle.codegen.specs.Places as P
use Rattle.codegen.specs.Places.{frame_bytes, local_word, source, fetch, target, keep}
use Rattle.codegen.specs.Expressions.{passes, saves, loads, registers_of, returning, entering}
use Rattle.codegen.specs.Statements.{clears}
use Rattle.emission.specs.Tape.{Puts, Emits}
use Rattle.emission.specs.Macros.{EmitsAt}
use Rattle.emission.proofs.Laws.{none, one, after}

pub stores : (p : P.Place) (n : ℕ) {f at r₁ r₂ : ℕ} {ws ws₁ ws₂ : List ℕ} → f ≡ number (source p 0) → EmitsAt (λ q. sw q sp n ∷ []) f at ws ws₁ r₁ →
    Emits (fetch p 0) r₁ ws₁ ws₂ r₂ → Emits (fetch p 0 ++ (sw (source p 0) sp n ∷ [])) at ws ws₂ r₂
stores p n e h f = after (h.each (source p 0) (sym e)) f

pub stores_as : (p : P.Place) (n m : ℕ) {at r : ℕ} {ws ws' : List ℕ} → n ≡ m → Emits (fetch p 0 ++ (sw (source p 0) sp n ∷ [])) at ws ws' r →
    Emits (fetch p 0 ++ (sw (source p 0) sp m ∷ [])) at ws ws' r
stores_as p n m {at} {r} {ws} {ws'} e h = subst (λ (x : ℕ). Emits (fetch p 0 ++ (sw (source p 0) sp x ∷ [])) at ws ws' r) e h

appended : (i : Instruction) (a b : List Instruction) → (a ++ (i ∷ [])) ++ b ≡ a ++ (i ∷ b)
appended i [] b = refl
appended i (j ∷ a) b = ap (λ (l : List Instruction). j ∷ l) (appended i a b)

-- one argument more
pub passed : (p : P.Place) (ps : List P.Place) (i : ℕ) {at r₁ r₂ : ℕ} {ws ws₁ ws₂ : List ℕ} → Emits (passes ps (suc i)) at ws ws₁ r₁ →
    Emits (fetch p 0 ++ (sw (source p 0) sp (frame_bytes + 4 * local_word i) ∷ [])) r₁ ws₁ ws₂ r₂ → Emits (passes (p ∷ ps) i) at ws ws₂ r₂
unfolding passes
passed p ps i {at} {r₁} {r₂} {ws} {ws₁} {ws₂} e f =
    subst (λ (c : List Instruction). Emits c at ws ws₂ r₂) (appended (sw (source p 0) sp (frame_bytes + 4 * local_word i)) (fetch p 0) (passes ps (suc i))) (after e f)

-- registers, the last of them first

module _ {at : ℕ} {ws : List ℕ} where
  pub saves_none : {n : ℕ} → n ≡ 0 → Emits (saves n) at ws ws at
  unfolding saves
  saves_none e = subst⁻¹ (λ (m : ℕ). Emits (saves m) at ws ws at) e none

  pub loads_none : {n : ℕ} → n ≡ 0 → Emits (loads n) at ws ws at
  unfolding loads
  loads_none e = subst⁻¹ (λ (m : ℕ). Emits (loads m) at ws ws at) e none

  pub clears_none : (first : ℕ) {n : ℕ} → n ≡ 0 → Emits (clears first n) at ws ws at
  unfolding clears
  clears_none first e = subst⁻¹ (λ (m : ℕ). Emits (clears first m) at ws ws at) e none

module _ (k : ℕ) {n at r₁ r₂ : ℕ} {ws ws₁ ws₂ : List ℕ} (is : n ≡ suc k) where
  pub saves_more : EmitsAt (λ q. sw q sp (4 * (65 + k)) ∷ []) (25 + k) at ws ws₁ r₁ → Emits (saves k) r₁ ws₁ ws₂ r₂ → Emits (saves n) at ws ws₂ r₂
  unfolding saves
  saves_more h f = subst⁻¹ (λ (m : ℕ). Emits (saves m) at ws ws₂ r₂) is (after (h.each (reg Temporary k) refl) f)

  pub loads_more : EmitsAt (λ q. lw q sp (4 * (65 + k)) ∷ []) (25 + k) at ws ws₁ r₁ → Emits (loads k) r₁ ws₁ ws₂ r₂ → Emits (loads n) at ws ws₂ r₂
  unfolding loads
  loads_more h f = subst⁻¹ (λ (m : ℕ). Emits (loads m) at ws ws₂ r₂) is (after (h.each (reg Temporary k) refl) f)

  pub clears_more : (first : ℕ) → EmitsAt (λ q. sw q sp (4 * (first + k + 1)) ∷ []) 0 at ws ws₁ r₁ → Emits (clears first k) r₁ ws₁ ws₂ r₂ →
      Emits (clears first n) at ws ws₂ r₂
  unfolding clears
  clears_more first h f = subst⁻¹ (λ (m : ℕ). Emits (clears first m) at ws ws₂ r₂) is
      (after (subst (λ (x : ℕ). Emits (sw x0 sp (4 * x) ∷ []) at ws ws₁ r₁) (omega arith) (h.each x0 refl)) f)

-- so far: what the first k of n have, put before this, is what all have
pub record Before (code : ℕ → List Instruction) (n k at r₁ : ℕ) (ws ws₁ : List ℕ) : Type 0 where
  pub rest : {r : ℕ} {ws' : List ℕ} → Emits (code k) r₁ ws₁ ws' r → Emits (code n) at ws ws' r

module _ {code : ℕ → List Instruction} {n at : ℕ} {ws : List ℕ} where
  pub before_all : Before code n n at at ws ws
  before_all = record { rest = λ {r} {ws'} (f : Emits (code n) at ws ws' r). f }

  pub before_none : {k r₁ : ℕ} {ws₁ : List ℕ} → Before code n k at r₁ ws ws₁ → Emits (code k) r₁ ws₁ ws₁ r₁ → Emits (code n) at ws ws₁ r₁
  before_none b f = b.rest f

module _ {n k at r₁ r₂ : ℕ} {ws ws₁ ws₂ : List ℕ} (is : k ≡ suc (k - 1)) where
  pub before_saves : Before saves n k at r₁ ws ws₁ → EmitsAt (λ q. sw q sp (4 * (65 + (k - 1))) ∷ []) (25 + (k - 1)) r₁ ws₁ ws₂ r₂ →
      Before saves n (k - 1) at r₂ ws ws₂
  before_saves b h = record { rest = λ {r} {ws'} (f : Emits (saves (k - 1)) r₂ ws₂ ws' r). b.rest (saves_more (k - 1) is h f) }

  pub before_loads : Before loads n k at r₁ ws ws₁ → EmitsAt (λ q. lw q sp (4 * (65 + (k - 1))) ∷ []) (25 + (k - 1)) r₁ ws₁ ws₂ r₂ →
      Before loads n (k - 1) at r₂ ws ws₂
  before_loads b h = record { rest = λ {r} {ws'} (f : Emits (loads (k - 1)) r₂ ws₂ ws' r). b.rest (loads_more (k - 1) is h f) }

  pub before_clears : (first : ℕ) → Before (clears first) n k at r₁ ws ws₁ → EmitsAt (λ q. sw q sp (4 * (first + (k - 1) + 1)) ∷ []) 0 r₁ ws₁ ws₂ r₂ →
      Before (clears first) n (k - 1) at r₂ ws ws₂
  before_clears first b h = record { rest = λ {r} {ws'} (f : Emits (clears first (k - 1)) r₂ ws₂ ws' r). b.rest (clears_more (k - 1) is first h f) }

pub registers_are : (d : ℕ) {r : ℕ} → (d < 7 → r ≡ d) → (7 ≤ d → r ≡ 7) → r ≡ registers_of d
registers_are d {r} few all = by (dec_lt d 7)
  where
    by : Dec (d < 7) → r ≡ registers_of d
    by (yes h) = few h ∙ ap (λ (b : Bool). pick b d 7) (sym (lt-ltb d 7 h))
    by (no h) = all (omega arith) ∙ ap (λ (b : Bool). pick b d 7) (sym (le-ltb d 7 (omega arith)))

module _ (d : ℕ) {at r₁ r₂ : ℕ} {ws ws₁ ws₂ : List ℕ} where
  pub returns_by : {n : ℕ} → n ≡ registers_of d → Emits (loads n) at ws ws₁ r₁ → Puts (OpImm Add 2 2 4294965312) r₁ ws₁ ws₂ r₂ → Emits (returning d) at ws ws₂ r₂
  returns_by {n} e f h = one (subst (λ (m : ℕ). Emits (loads m) at ws ws₁ r₁) e f) refl h

  pub enters : (to : ℕ) {b r₃ : ℕ} {ws₃ : List ℕ} → Emits (returning d) at ws ws₁ r₁ → b ≡ distance (r₁ - 1) to → Puts (Jal 1 b) r₁ ws₁ ws₂ r₂ →
      Puts (OpImm Add 2 2 1984) r₂ ws₂ ws₃ r₃ → Emits (entering to d) at ws ws₃ r₃
  enters to e eb h₁ h₂ = one (one e (ap (λ (x : ℕ). Jal 1 x) (sym eb)) h₁) refl h₂

  pub calls : (to : ℕ) {n : ℕ} → n ≡ registers_of d → Emits (entering to d) at ws ws₁ r₁ → Emits (saves n) r₁ ws₁ ws₂ r₂ →
      Emits (saves (registers_of d) ++ entering to d) at ws ws₂ r₂
  calls to {n} e f h = after f (subst (λ (m : ℕ). Emits (saves m) r₁ ws₁ ws₂ r₂) e h)

  pub answers : {t : ℕ} → t ≡ number (target d) → Emits (keep d) at ws ws₁ r₁ → Puts (OpImm Add t 10 0) r₁ ws₁ ws₂ r₂ → Emits (mv (target d) answer ∷ keep d) at ws ws₂ r₂
  answers e f h = one f (ap (λ (x : ℕ). OpImm Add x 10 0) (sym e)) h
