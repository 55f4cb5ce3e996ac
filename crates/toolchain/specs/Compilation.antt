-- Claims 1 and 3 of `compile`: what it answers, and what it leaves in the image's buffer, whatever it is given.
use Rattle.std.specs.Prelude.{ℕ, ◌≤◌, ◌<◌, ◌⊎◌, ◌≡◌, List, ◌++◌, length, drop, Result, Ok, Err}
use Rattle.language.specs.Tree.{Place}
use Rattle.language.specs.Core.{Program}
use Rattle.language.specs.Text.{Accepted}
use Rattle.processor.specs.Image.{longest_code}
use Rattle.claims.specs.Keeps.{Keeps}
use Rattle.codegen.specs.Image.{image}
use Rattle.codegen.specs.Costs.{costs}
use Rattle.toolchain.specs.Checking.{Enough, Declined, number_of, place_of}
use Rattle.toolchain.specs.declared.work.Work.{Work}
use Rattle.toolchain.specs.declared.refusals.Refusal.{Refusal}

-- The refusals: working room too short is 6 at once; else 1 or 2 for the text, and 3 where the image is longer than document 03 §5 lets it be, or than its buffer.
pub data Refuses (text : List ℕ) (w : Work) (before : List ℕ) : ℕ → Place → Type 0 where
  no_work : (Enough w → ⊥) → Refuses text w before 6 0
  no_program : {n : ℕ} {at : Place} → Enough w → Declined text n at → Refuses text w before n at
  too_long : {p : Program} → Enough w → Accepted text p → (longest_code < length (image p)) ⊎ (length before < length (image p)) → Refuses text w before 3 0

-- An image of n bytes, at the buffer's start, keeps the meaning of the text's program.
pub record Makes (text : List ℕ) (w : Work) (before : List ℕ) (n : ℕ) (after : List ℕ) : Type 0 where
  pub program : Program
  pub worked : Enough w
  pub accepted : Accepted text program
  pub short : length (image program) ≤ longest_code
  pub for_image : length (image program) ≤ length before
  pub size : n ≡ length (image program)
  pub there : after ≡ image program ++ drop n before
  pub keeps : Keeps costs program (image program)

-- `compile`: a refusal, with the image's buffer as it was; or an image.
unfoldable pub Compiles : List ℕ → Work → List ℕ → Result ℕ Refusal → List ℕ → Type 0
Compiles text w before (Err r) after = Refuses text w before (number_of r) (place_of r) × (after ≡ before)
Compiles text w before (Ok n) after = Makes text w before n after
