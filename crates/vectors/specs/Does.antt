-- What a text does: document 01 accepts it, runs it so, and the panel's processor of document 03 runs its image so.
use Rattle.std.specs.Prelude.{List, [], ◌≡◌, ℕ, ◌+◌, ◌-◌, ◌*◌, ◌≤◌}
use Rattle.word.specs.Bytes.{bytes_of_words}
use Rattle.language.specs.Core.{Program}
use Rattle.language.specs.Text.{Accepted}
use Rattle.language.specs.Meaning.{trapped, out_of_fuel, Outcome, finished, stopped, Run, run_of}
use Rattle.processor.specs.declared.Status.{Status}
use Rattle.processor.specs.declared.Status.TheVariants.{Exit, Trap, Limit}
use Rattle.processor.specs.Run as M
use Rattle.processor.specs.Image.{run_image, arrays_of}
use Rattle.claims.specs.Keeps.{Keeps}
use Rattle.codegen.specs.Image.{image}
use Rattle.codegen.specs.Costs.{K, K0, C, C0, costs}

-- A row of document 01 §6: "Fuel is what was used."
pub record Row : Type 0 where
  pub outcome : Outcome
  pub log : List ℕ
  pub arrays : List ℕ
  pub used : ℕ

-- the row of a run that had this fuel
abbrev pub row_of : ℕ → Run → Row
row_of fuel r = record { outcome = r.outcome; log = r.world.log; arrays = r.world.arrays; used = fuel - r.world.fuel }

-- the steps that so much fuel pays for
abbrev pub paid : ℕ → ℕ
paid fuel = K * fuel + K0

-- the program's image on the panel's processor, with these arrays in its input block, this room for the log and this step limit
abbrev pub panel : Program → List ℕ → ℕ → ℕ → M.Run
panel program input room limit = run_image (image program) (bytes_of_words input) room limit

module _ (program : Program) (input : List ℕ) (fuel room : ℕ) (row : Row) where
  -- under this step limit it stops so, with the row's log and arrays
  pub record Shows (stop : Status) (limit : ℕ) : Type 0 where
    pub stops : (panel program input room limit).machine.status ≡ stop
    pub log : (panel program input room limit).machine.log ≡ row.log
    pub arrays : arrays_of (4 * program.elements) (panel program input room limit).machine ≡ row.arrays

  -- it stops so in the steps that the fuel used pays for, under every limit that lets it
  abbrev pub Stops : Status → Type 0
  Stops stop = (limit : ℕ) → paid row.used ≤ limit → Shows stop limit × ((panel program input room limit).steps ≤ paid row.used)

  -- it is still running after some number of steps, which the fuel bounds both ways; up to 65,536 units of fuel, the lower bound allows 0 steps
  abbrev pub GoesOn : Type 0
  GoesOn = (limit : ℕ) × (fuel ≤ C * limit + C0) × (limit ≤ paid fuel) × Shows Limit limit

  -- exit where the run finishes, trap t where it traps with t
  abbrev pub Panel : Outcome → Type 0
  Panel finished = Stops Exit
  Panel (stopped (trapped t)) = Stops (Trap t)
  Panel (stopped out_of_fuel) = GoesOn

-- On these arrays, with this fuel and room for the log, the text does what the row says, by both documents.
pub record Does (arrays : List ℕ) (fuel room : ℕ) (row : Row) (text : List ℕ) : Type 0 where
  -- document 01 §1 to §4: the text is accepted, and is this program
  pub program : Program
  pub accepted : Accepted text program
  -- document 01 §5: its run, on these arrays, is the row's
  pub runs : row_of fuel (run_of program arrays fuel room) ≡ row
  -- document 03: its image keeps the meaning on all arrays, and on these it does as the row says
  pub keeps : Keeps costs program (image program)
  pub shows : Panel program arrays fuel room row row.outcome

-- The text, which has no arrays, never stops and logs nothing, by both documents: no fuel is enough for its run, and its image runs into every step limit.
pub record NeverStops (text : List ℕ) : Type 0 where
  pub program : Program
  pub accepted : Accepted text program
  pub runs : (fuel room : ℕ) → row_of fuel (run_of program [] fuel room) ≡ record { outcome = stopped out_of_fuel; log = []; arrays = []; used = fuel }
  pub stops : (room limit : ℕ) → (panel program [] room limit).machine.status ≡ Limit
  pub log : (room limit : ℕ) → (panel program [] room limit).machine.log ≡ []
  pub arrays : (room limit : ℕ) → arrays_of (4 * program.elements) (panel program [] room limit).machine ≡ []
  pub steps : (room limit : ℕ) → (panel program [] room limit).steps ≡ limit
