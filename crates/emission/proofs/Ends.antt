-- What functions and the image begin and end with is their definitions'.
use Prim.Native.Nat.{ℕ, ◌+◌, ◌-◌}
use mathlib.Core.Path.{◌≡◌, refl, sym, ap}
use mathlib.Core.List.{List, [], ◌∷◌}
use Rattle.processor.specs.declared.Alu.TheVariants.{Add}
use Rattle.processor.specs.declared.Cond.TheVariants.{Ne}
use Rattle.processor.specs.declared.Instr.TheVariants.{Lui, Jal, Jalr, Branch, OpImm, Ecall}
use Rattle.language.specs.Meaning.{division_by_zero, index_outside, too_many_activations}
use denote.Enum.Declared.{tag_of}
use Rattle.flat.specs.contracts.trap.Trap as TrapProofs
use Rattle.flat.specs.declared.trap.Trap.{Trap}
use Rattle.flat.specs.declared.trap.Trap.TheVariants as R
use Rattle.flat.specs.Numbers.{trap_number}
use Rattle.symbolic.specs.Symbolic.{x0, ra, sp, answer, request, opi, lw, sw, branch, call, ecall}
use Rattle.symbolic.specs.Real.{distance}
use Rattle.codegen.specs.Operators.{stub, trapping}
use Rattle.codegen.specs.Statements.{limit, leaving}
use Rattle.codegen.specs.Image.{starting, traps}
use Rattle.emission.specs.Tape.{Puts, Emits}
use Rattle.emission.specs.contracts.image.Service as ServiceProofs
use Rattle.emission.specs.declared.image.Service.{Service}
use Rattle.emission.specs.declared.image.Service.TheVariants as SV
use Rattle.emission.specs.Macros.{EmitsAt, service_number}
use Rattle.emission.proofs.Laws.{one, last, after}

-- the numbers that the code passes are the trap's and the service's
tag_number : (t : Trap) → tag_of TrapProofs.the_type t ≡ trap_number t
tag_number R.Malformed = refl
tag_number R.DivisionByZero = refl
tag_number R.IndexOutside = refl
tag_number R.TooManyActivations = refl
tag_number R.LogFull = refl

service_tag : (s : Service) → tag_of ServiceProofs.the_type s ≡ service_number s
service_tag SV.Exit = refl
service_tag SV.Log = refl
service_tag SV.Trap = refl

module _ {at r₁ r₂ : ℕ} {ws ws₁ ws₂ : List ℕ} where
  pub leaves : Puts (Jalr 0 1 0) at ws ws₁ r₁ → EmitsAt (λ q. lw q sp 0 ∷ []) 1 r₁ ws₁ ws₂ r₂ → Emits leaving at ws ws₂ r₂
  leaves h f = after (last refl h) (f.each ra refl)

  pub leaves_zero : Emits leaving at ws ws₁ r₁ → Puts (OpImm Add 10 0 0) r₁ ws₁ ws₂ r₂ → Emits (opi Add answer x0 0 ∷ leaving) at ws ws₂ r₂
  leaves_zero e h = one e refl h

  pub requests : (s : Service) → Emits (ecall ∷ []) at ws ws₁ r₁ → Puts (OpImm Add 17 0 (tag_of ServiceProofs.the_type s)) r₁ ws₁ ws₂ r₂ →
      Emits (opi Add request x0 (service_number s) ∷ ecall ∷ []) at ws ws₂ r₂
  requests s e h = one e (ap (λ (n : ℕ). OpImm Add 17 0 n) (sym (service_tag s))) h

  -- a trap's stub, by any number, and by the trap
  pub traps_numbered : {n t : ℕ} → n ≡ t → Emits (opi Add request x0 2 ∷ ecall ∷ []) at ws ws₁ r₁ → Puts (OpImm Add 10 0 n) r₁ ws₁ ws₂ r₂ →
      Emits (trapping t) at ws ws₂ r₂
  traps_numbered f e h = one e (ap (λ (m : ℕ). OpImm Add 10 0 m) (sym f)) h

  pub traps_by : (t : Trap) → Emits (opi Add request x0 2 ∷ ecall ∷ []) at ws ws₁ r₁ → Puts (OpImm Add 10 0 (tag_of TrapProofs.the_type t)) r₁ ws₁ ws₂ r₂ →
      Emits (trapping (trap_number t)) at ws ws₂ r₂
  traps_by t = traps_numbered (tag_number t)

pub asks : {at r : ℕ} {ws ws' : List ℕ} → Puts Ecall at ws ws' r → Emits (ecall ∷ []) at ws ws' r
asks h = last refl h

module _ {at r₁ r₂ r₃ : ℕ} {ws ws₁ ws₂ ws₃ : List ℕ} where
  pub opens : {b c : ℕ} → EmitsAt (λ q. sw q sp 0 ∷ []) 1 at ws ws₁ r₁ → b ≡ distance (r₁ - 1) 12 → Puts (Jal 1 b) r₁ ws₁ ws₂ r₂ →
      c ≡ distance (r₂ - 1) (r₂ - 1 + 2) → Puts (Branch Ne 2 3 c) r₂ ws₂ ws₃ r₃ →
      Emits (branch Ne sp limit 2 ∷ call (stub 3) ∷ sw ra sp 0 ∷ []) at ws ws₃ r₃
  opens f eb h₁ ec h₂ = one (one (f.each ra refl) (ap (λ (x : ℕ). Jal 1 x) (sym eb)) h₁) (ap (λ (x : ℕ). Branch Ne 2 3 x) (sym ec)) h₂

  pub traps_all : Emits (trapping too_many_activations) at ws ws₁ r₁ → Emits (trapping index_outside) r₁ ws₁ ws₂ r₂ →
      Emits (trapping division_by_zero) r₂ ws₂ ws₃ r₃ → Emits traps at ws ws₃ r₃
  traps_all e f g = after (after e f) g

pub starts : (main : ℕ) {b at r₁ r₂ r₃ r₄ r₅ : ℕ} {ws ws₁ ws₂ ws₃ ws₄ ws₅ : List ℕ} → Emits (opi Add request x0 0 ∷ ecall ∷ []) at ws ws₁ r₁ →
    b ≡ distance (r₁ - 1) main → Puts (Jal 1 b) r₁ ws₁ ws₂ r₂ → Puts (OpImm Add 17 0 1) r₂ ws₂ ws₃ r₃ → Puts (Lui 3 0x12f000) r₃ ws₃ ws₄ r₄ →
    Puts (Lui 2 0x110000) r₄ ws₄ ws₅ r₅ → Emits (starting main) at ws ws₅ r₅
starts main e eb h₁ h₂ h₃ h₄ = one (one (one (one e (ap (λ (x : ℕ). Jal 1 x) (sym eb)) h₁) refl h₂) refl h₃) refl h₄
