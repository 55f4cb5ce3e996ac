-- What is said of a tape after one step, or after several, from what each of them ensures.
use Prim.Native.Nat.{ℕ}
use native.Mathlib.Omega.{arith}
use mathlib.Core.Path.{refl, ◌∙◌}
use mathlib.Core.List.{List}
use Rattle.emission.specs.declared.tape.Tape.{Tape}
use Rattle.emission.specs.OnTape.{OnTape}

-- nothing was written
pub untouched : {P : ℕ → List ℕ → List ℕ → ℕ → Type 0} {t : Tape} → P t.at t.words.now t.words.now t.at → OnTape P t t
untouched p = record { says = p; within = omega arith; long = refl; same = refl }

pub after_one : {P₁ Q : ℕ → List ℕ → List ℕ → ℕ → Type 0} {t₀ t₁ : Tape} → OnTape P₁ t₀ t₁ →
    Q t₀.at t₀.words.now t₁.words.now t₁.at → OnTape Q t₀ t₁
after_one a p = record { says = p; within = a.within; long = a.long; same = a.same }

pub after_two : {P₁ P₂ Q : ℕ → List ℕ → List ℕ → ℕ → Type 0} {t₀ t₁ t₂ : Tape} → OnTape P₁ t₀ t₁ → OnTape P₂ t₁ t₂ →
    Q t₀.at t₀.words.now t₂.words.now t₂.at → OnTape Q t₀ t₂
after_two a b p = record { says = p; within = omega (arith, a.within, b.within); long = b.long ∙ a.long; same = b.same ∙ a.same }

pub after_three : {P₁ P₂ P₃ Q : ℕ → List ℕ → List ℕ → ℕ → Type 0} {t₀ t₁ t₂ t₃ : Tape} → OnTape P₁ t₀ t₁ → OnTape P₂ t₁ t₂ → OnTape P₃ t₂ t₃ →
    Q t₀.at t₀.words.now t₃.words.now t₃.at → OnTape Q t₀ t₃
after_three a b d p = record { says = p; within = omega (arith, a.within, b.within, d.within); long = d.long ∙ b.long ∙ a.long; same = d.same ∙ b.same ∙ a.same }

pub after_four : {P₁ P₂ P₃ P₄ Q : ℕ → List ℕ → List ℕ → ℕ → Type 0} {t₀ t₁ t₂ t₃ t₄ : Tape} → OnTape P₁ t₀ t₁ → OnTape P₂ t₁ t₂ → OnTape P₃ t₂ t₃ → OnTape P₄ t₃ t₄ →
    Q t₀.at t₀.words.now t₄.words.now t₄.at → OnTape Q t₀ t₄
after_four a b d e p = record { says = p; within = omega (arith, a.within, b.within, d.within, e.within); long = e.long ∙ d.long ∙ b.long ∙ a.long; same = e.same ∙ d.same ∙ b.same ∙ a.same }

pub after_five : {P₁ P₂ P₃ P₄ P₅ Q : ℕ → List ℕ → List ℕ → ℕ → Type 0} {t₀ t₁ t₂ t₃ t₄ t₅ : Tape} → OnTape P₁ t₀ t₁ → OnTape P₂ t₁ t₂ → OnTape P₃ t₂ t₃ → OnTape P₄ t₃ t₄ → OnTape P₅ t₄ t₅ →
    Q t₀.at t₀.words.now t₅.words.now t₅.at → OnTape Q t₀ t₅
after_five a b d e f p = record { says = p; within = omega (arith, a.within, b.within, d.within, e.within, f.within); long = f.long ∙ e.long ∙ d.long ∙ b.long ∙ a.long; same = f.same ∙ e.same ∙ d.same ∙ b.same ∙ a.same }
