-- How the lent slices hold a machine, and what a step over them says of it.
use Rattle.std.specs.Prelude.{ℕ, ◌≤◌, ◌≡◌, List, take, drop, Result, Ok, Err}
use Rattle.processor.specs.declared.Instr.{Instr}
use Rattle.processor.specs.declared.Status.{Status}
use Rattle.processor.specs.declared.Status.TheVariants.{Going, Exit, Trap, Fault}
use Rattle.emulator.specs.declared.stop.Stop.{Stop}
use Rattle.emulator.specs.declared.stop.Stop.TheVariants as stop
use Rattle.processor.specs.Machine.{Machine, state}
use Rattle.processor.specs.Execute.{exec_of}

-- the machine of these registers, pc and memory, whose log is the first words of a lent one
abbrev pub stands : List ℕ → ℕ → List ℕ → List ℕ → ℕ → Status → Machine
stands registers pc memory log logged status = state registers pc memory (take logged log) status

-- how a machine stands that an instruction stopped
abbrev pub status_of : Stop → Status
status_of stop.Exit = Exit
status_of (stop.Trap number) = Trap number
status_of (stop.Fault number) = Fault number

-- What an instruction gives is the pc of the next, or how it stopped the run: where the machine then is, and how it stands. A stop leaves pc.
abbrev pub pc_after : ℕ → Result ℕ Stop → ℕ
pc_after pc (Ok next) = next
pc_after pc (Err stop) = pc

abbrev pub status_after : Result ℕ Stop → Status
status_after (Ok next) = Going
status_after (Err stop) = status_of stop

-- An instruction that touches no log was carried out: whatever the log and its room are, the machine is the one that the definition gives.
pub record Carries (i : Instr) (registers : List ℕ) (pc : ℕ) (memory : List ℕ) (registers' : List ℕ) (pc' : ℕ) (memory' : List ℕ) (status' : Status) : Type 0 where
  pub does : (room : ℕ) (log : List ℕ) → state registers' pc' memory' log status' ≡ exec_of room i (state registers pc memory log Going)

-- A lent log took words up to its room, and is what it was beyond them.
pub record Grows (room : ℕ) (log : List ℕ) (logged : ℕ) (log' : List ℕ) (logged' : ℕ) : Type 0 where
  pub more : logged ≤ logged'
  pub fits : logged' ≤ room
  pub rest : drop logged' log' ≡ drop logged' log
