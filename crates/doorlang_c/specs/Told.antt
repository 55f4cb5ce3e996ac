-- What the entries tell a program in C: an answer, and figures, which stand where its pointers lead.
use Rattle.std.specs.Prelude.{ℕ, ◌≡◌, unwrap_or}
use Rattle.toolchain.specs.declared.refusals.Refusal.{Refusal}
use Rattle.toolchain.specs.Checking.{place_in}

pub record Told (F : Type 0) : Type 0 where
  pub answer : ℕ
  pub figures : F

abbrev pub told : {F : Type 0} → ℕ → F → Told F
told n f = record { answer = n; figures = f }

-- What is told is what the figures before and the outcome of the tool chain's entry make it, and that outcome is one that the entry's contract allows.
pub record Tells {O F : Type 0} (Answers : O → Type 0) (told_of : F → O → Told F) (was : F) (is : Told F) : Type 0 where
  pub outcome : O
  pub answers : Answers outcome
  pub tells : is ≡ told_of was outcome

-- where the text is refused (document 01 §1), the place at fault; else the place as it was
unfoldable pub place_of : Refusal → ℕ → ℕ
place_of r was = unwrap_or (place_in r) was
