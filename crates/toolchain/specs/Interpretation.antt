-- Claims 1 and 2 of `interpret`: what it answers, and what it leaves in the lent buffers, whatever it is given.
use Rattle.std.specs.Prelude.{ℕ, ◌*◌, ◌≤◌, ◌<◌, ◌⊎◌, ◌≡◌, List, ◌++◌, length, drop, Result, Ok, Err}
use Rattle.word.specs.Bytes.{words_of_bytes}
use Rattle.language.specs.Tree.{Place}
use Rattle.language.specs.Core.{Program}
use Rattle.language.specs.Text.{Accepted}
use Rattle.language.specs.Meaning.{Run, run_of}
use Rattle.interpreter.specs.declared.Ran as I
use Rattle.interpreter.specs.Post.{outcome_of}
use Rattle.toolchain.specs.Checking.{Enough, Declined, number_of, place_of}
use Rattle.toolchain.specs.declared.work.Work.{Work}
use Rattle.toolchain.specs.declared.refusals.Refusal.{Refusal}

-- What is lent to be changed, working room apart.
pub record Lent : Type 0 where
  pub arrays : List ℕ
  pub log : List ℕ

abbrev pub lent : List ℕ → List ℕ → Lent
lent a l = record { arrays = a; log = l }

-- the block has one word for each element
abbrev pub IsBlock : Program → List ℕ → Type 0
IsBlock p input = length input ≡ 4 * p.elements

-- The refusals: working room too short is 6 at once; else the smallest that applies, 1 or 2 for the text, 5 for the block, 6 for the buffers.
pub data Refuses (text input : List ℕ) (room : ℕ) (w : Work) (before : Lent) : ℕ → Place → Type 0 where
  no_work : (Enough w → ⊥) → Refuses text input room w before 6 0
  no_program : {n : ℕ} {at : Place} → Enough w → Declined text n at → Refuses text input room w before n at
  no_block : {p : Program} → Enough w → Accepted text p → (IsBlock p input → ⊥) → Refuses text input room w before 5 0
  no_room : {p : Program} → Enough w → Accepted text p → IsBlock p input → (length before.arrays < p.elements) ⊎ (length before.log < room) → Refuses text input room w before 6 0

-- A run of document 01 §5: its outcome, the fuel left, and the buffers, which hold exactly its arrays and its log, and beyond them what they held before.
pub record Holds (run : Run) (elements : ℕ) (before after : Lent) (r : I.Ran) : Type 0 where
  pub outcome : outcome_of r.outcome ≡ run.outcome
  pub fuel : r.fuel ≡ run.world.fuel
  pub logged : r.logged ≡ length run.world.log
  pub arrays : after.arrays ≡ run.world.arrays ++ drop elements before.arrays
  pub log : after.log ≡ run.world.log ++ drop (length run.world.log) before.log

pub record Runs (text input : List ℕ) (fuel room : ℕ) (w : Work) (before after : Lent) (r : I.Ran) : Type 0 where
  pub program : Program
  pub worked : Enough w
  pub accepted : Accepted text program
  pub block : IsBlock program input
  pub for_arrays : program.elements ≤ length before.arrays
  pub for_log : room ≤ length before.log
  pub holds : Holds (run_of program (words_of_bytes input) fuel room) program.elements before after r

-- `interpret`: a refusal, with every buffer but working room as it was; or the run of the program on the block's words.
unfoldable pub Interprets : List ℕ → List ℕ → ℕ → ℕ → Work → Lent → Lent → Result I.Ran Refusal → Type 0
Interprets text input fuel room w before after (Err r) = Refuses text input room w before (number_of r) (place_of r) × (after ≡ before)
Interprets text input fuel room w before after (Ok r) = Runs text input fuel room w before after r
