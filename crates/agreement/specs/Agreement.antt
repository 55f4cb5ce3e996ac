-- Claim 3 between one run of a text and one run of its image, as a relation of the two runs, and decided from what they left.
use Rattle.std.specs.Prelude.{ℕ, ◌+◌, ◌-◌, ◌*◌, ◌^◌, Bool, true, false, not, List, ◌≡◌, eqb, leb}
use Rattle.std.proofs.Math.Option.{some}
use Rattle.word.specs.Choice.{pick, both}
use Rattle.language.specs.Core.{Program}
use Rattle.language.specs.Tokens.{same, begins}
use Rattle.language.specs.Meaning.{Outcome, finished, stopped, trapped, out_of_fuel, Run}
use Rattle.processor.specs.declared.Status.{Status}
use Rattle.processor.specs.declared.Status.TheVariants.{Going, Exit, Trap, Fault, Limit}
use Rattle.processor.specs.Run as M
use Rattle.processor.specs.Image.{arrays_of}
use Rattle.claims.specs.Keeps.{Costs, stop_for, Begins, Alike}

-- The two runs agree: where the text's finishes, or traps with t, the image's exits, or traps with t, with the same log and arrays; where the text's is out of
-- fuel, the image's is no fault, and goes on from that log.
pub record Agrees (costs : Costs) (p : Program) (image : List ℕ) (r : Run) (m : M.Run) : Type 0 where
  pub ends : (stop : Status) → stop_for r.outcome ≡ some stop → Alike costs p image stop r m
  pub goes_on : r.outcome ≡ stopped out_of_fuel → ((n : ℕ) → m.machine.status ≡ Fault n → ⊥) × Begins r.world.log m.machine.log

-- The same as a test.

unfoldable pub exits : Status → Bool
exits Going = false
exits Exit = true
exits (Trap u) = false
exits (Fault n) = false
exits Limit = false

unfoldable pub traps_with : ℕ → Status → Bool
traps_with t Going = false
traps_with t Exit = false
traps_with t (Trap u) = eqb t u
traps_with t (Fault n) = false
traps_with t Limit = false

unfoldable pub faults : Status → Bool
faults Going = false
faults Exit = false
faults (Trap u) = false
faults (Fault n) = true
faults Limit = false

-- an outcome of the text's run with its log and arrays, then how the image's run stopped, with its log and arrays
unfoldable pub agrees_of : Outcome → List ℕ → List ℕ → Status → List ℕ → List ℕ → Bool
agrees_of finished log arrays s image_log image_arrays = both (exits s) (both (same image_log log) (same image_arrays arrays))
agrees_of (stopped (trapped t)) log arrays s image_log image_arrays = both (traps_with t s) (both (same image_log log) (same image_arrays arrays))
agrees_of (stopped out_of_fuel) log arrays s image_log image_arrays = both (not (faults s)) (begins log image_log)

abbrev pub agreed : Program → Run → M.Run → Bool
agreed p r m =
    agrees_of r.outcome r.world.log r.world.arrays m.machine.status m.machine.log (arrays_of (4 * p.elements) m.machine)

-- The limit under which the image of a run that used so much fuel has surely ended: steps are counted in 64 bits.
abbrev pub most_steps : ℕ
most_steps = 2 ^ 64 - 1

unfoldable pub limit_of : Costs → ℕ → ℕ
limit_of costs used = pick (leb (costs.K * used + costs.K0) most_steps) (costs.K * used + costs.K0) most_steps
