-- Claim 3 over the entries: what `interpret` says of a text and an input block, and what `emulate` says of the image that `compile` made of that text.
-- A call of either is anything that its contract allows, with whatever buffers were lent.
use Rattle.std.specs.Prelude.{ℕ, ◌+◌, ◌-◌, ◌*◌, ◌≤◌, ◌⊎◌, ◌≡◌, List, length, take, drop, Ok}
use Rattle.std.proofs.Math.Option.{some}
use Rattle.word.specs.Bytes.{words_of_bytes}
use Rattle.processor.specs.declared.Status.{Status}
use Rattle.processor.specs.declared.Status.TheVariants.{Exit, Trap, Fault, Limit}
use Rattle.processor.specs.Machine.{data_start}
use Rattle.emulator.specs.declared.run.Ended.{Ended}
use Rattle.interpreter.specs.declared.Ran as I
use Rattle.interpreter.specs.declared.Outcome.TheVariants.{OutOfFuel}
use Rattle.interpreter.specs.Post.{outcome_of}
use Rattle.claims.specs.Keeps.{stop_for, Begins}
use Rattle.codegen.specs.Costs.{costs}
use Rattle.toolchain.specs.Emulation.{Buffers, Emulates}
use Rattle.toolchain.specs.declared.work.Work.{Work}
use Rattle.toolchain.specs.Compilation.{Compiles}
use Rattle.toolchain.specs.Interpretation.{Lent, Interprets}

-- a call of `compile` that made an image of the text, and that image
pub record Compiling (text : List ℕ) : Type 0 where
  pub work : Work
  pub before : List ℕ
  pub after : List ℕ
  pub size : ℕ
  pub says : Compiles text work before (Ok size) after

abbrev pub made : {text : List ℕ} → Compiling text → List ℕ
made c = take c.size c.after

-- a call of `interpret` that ran the text
pub record Interpreting (text input : List ℕ) (room fuel : ℕ) : Type 0 where
  pub work : Work
  pub before : Lent
  pub after : Lent
  pub ran : I.Ran
  pub says : Interprets text input fuel room work before after (Ok ran)

-- a call of `emulate` that ran the image
pub record Emulating (image input : List ℕ) (room limit : ℕ) : Type 0 where
  pub before : Buffers
  pub after : Buffers
  pub ended : Ended
  pub says : Emulates image input room limit before after (Ok ended)

-- what they left: the log, and the words of the arrays; and the fuel that was used

module _ {text input : List ℕ} {room fuel : ℕ} where
  abbrev pub source_log : Interpreting text input room fuel → List ℕ
  source_log i = take i.ran.logged i.after.log

  abbrev pub source_arrays : Interpreting text input room fuel → List ℕ
  source_arrays i = take (length (words_of_bytes input)) i.after.arrays

  abbrev pub fuel_used : Interpreting text input room fuel → ℕ
  fuel_used i = fuel - i.ran.fuel

  -- how the source's run ended, as the machine's does: finished as exit, trap t as trap t
  abbrev pub EndedAs : Interpreting text input room fuel → Status → Type 0
  EndedAs i stop = stop_for (outcome_of i.ran.outcome) ≡ some stop

module _ {image input : List ℕ} {room limit : ℕ} where
  abbrev pub machine_log : Emulating image input room limit → List ℕ
  machine_log m = take m.ended.logged m.after.log

  abbrev pub machine_arrays : Emulating image input room limit → List ℕ
  machine_arrays m = words_of_bytes (take (length input) (drop data_start m.after.memory))

pub record Alike {text image input : List ℕ} {room fuel limit : ℕ} (stop : Status) (i : Interpreting text input room fuel) (m : Emulating image input room limit) : Type 0 where
  pub stops : m.ended.status ≡ stop
  pub log : machine_log m ≡ source_log i
  pub arrays : machine_arrays m ≡ source_arrays i

-- The claim, for a text, an image of it and an input block, with any room for the log.
pub record EndToEnd (text image input : List ℕ) (room : ℕ) : Type 0 where
  -- where `interpret` finishes or traps with t, `emulate` exits or traps with t, under every limit that is large enough, in at most so many steps
  pub ends : (fuel limit : ℕ) (i : Interpreting text input room fuel) (m : Emulating image input room limit) (stop : Status) → EndedAs i stop →
      costs.K * fuel_used i + costs.K0 ≤ limit → Alike stop i m × (m.ended.steps ≤ costs.K * fuel_used i + costs.K0)
  -- where `interpret` is out of fuel, `emulate` is at its limit with the same log and arrays, under a limit that the fuel bounds both ways
  pub goes_on : (fuel : ℕ) (i : Interpreting text input room fuel) → i.ran.outcome ≡ OutOfFuel →
      (limit : ℕ) × (fuel ≤ costs.C * limit + costs.C0) × (limit ≤ costs.K * fuel + costs.K0) ×
      ((m : Emulating image input room limit) → Alike Limit i m)
  -- where `emulate` exits or traps with t, `interpret` finishes or traps with t, with some fuel that the limit bounds
  pub ends_back : (limit : ℕ) (m : Emulating image input room limit) (stop : Status) → (stop ≡ Exit) ⊎ ((t : ℕ) × (stop ≡ Trap t)) → m.ended.status ≡ stop →
      (fuel : ℕ) × (fuel ≤ costs.C * limit + costs.C0) × ((i : Interpreting text input room fuel) → EndedAs i stop × Alike stop i m)
  -- `emulate` never says fault
  pub never_faults : (limit : ℕ) (m : Emulating image input room limit) (n : ℕ) → m.ended.status ≡ Fault n → ⊥
  -- each one's log is the beginning of the other's, with a fuel or under a limit that the other bounds
  pub same_forever :
      ((fuel : ℕ) (i : Interpreting text input room fuel) →
      (limit : ℕ) × (limit ≤ costs.K * fuel + costs.K0) × ((m : Emulating image input room limit) → Begins (source_log i) (machine_log m))) ×
      ((limit : ℕ) (m : Emulating image input room limit) →
      (fuel : ℕ) × (fuel ≤ costs.C * limit + costs.C0) × ((i : Interpreting text input room fuel) → Begins (machine_log m) (source_log i)))
