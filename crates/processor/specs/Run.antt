-- Document 03 §4: how a run stops.
use Rattle.std.specs.Prelude.{ℕ, zero, suc, ◌+◌, ◌%◌, Bool, true, false, leb, ltb, eqb}
use Rattle.word.specs.Choice.{pick, both}
use Rattle.processor.specs.declared.Status.{Status}
use Rattle.processor.specs.declared.Status.TheVariants.{Going, Exit, Trap, Fault, Limit}
use Rattle.processor.specs.Instructions.{decode_of}
use Rattle.processor.specs.Machine.{Machine, code_start, word_at}
use Rattle.processor.specs.Execute.{goto, halt, exec_of}

-- else it is fault 1, "pc isn't a multiple of 4, or isn't within the code", which is this many bytes
unfoldable pub in_code : ℕ → ℕ → Bool
in_code size pc = both (eqb (pc % 4) 0) (both (leb code_start pc) (ltb pc (code_start + size)))

-- One step of a machine that goes on, with code of this size and room for this many words in the log.
unfoldable pub step_of : ℕ → ℕ → Machine → Machine
step_of size room m = pick (in_code size m.pc) (exec_of room (decode_of (word_at m.memory m.pc)) m) (halt m (Fault 1))

abbrev pub is_going : Status → Bool
is_going Going = true
is_going Exit = false
is_going (Trap t) = false
is_going (Fault n) = false
is_going Limit = false

-- "Each instruction that starts counts one step, also one that stops the run (fault 1 comes before an instruction and isn't counted)."
abbrev pub counted : Status → ℕ
counted Going = 1
counted Exit = 1
counted (Trap t) = 1
counted (Fault n) = pick (eqb n 1) 0 1
counted Limit = 0

pub record Run : Type 0 where
  pub machine : Machine
  pub steps : ℕ

-- The run of a machine that goes on, with a limit of so many steps more, after k of them. The limit is looked at first.
unfoldable pub run_of : ℕ → ℕ → ℕ → Machine → ℕ → Run
run_of size room zero m k = record { machine = halt m Limit; steps = k }
run_of size room (suc limit) m k =
    pick (is_going (step_of size room m).status) (run_of size room limit (step_of size room m) (k + 1))
    (record { machine = step_of size room m; steps = k + counted (step_of size room m).status })

-- A run gone on with for b steps more: from where it is, if the limit stopped it.
abbrev pub resumed : ℕ → ℕ → ℕ → Run → Status → Run
resumed size room b r Going = r
resumed size room b r Exit = r
resumed size room b r (Trap t) = r
resumed size room b r (Fault n) = r
resumed size room b r Limit = run_of size room b (goto r.machine r.machine.pc) r.steps

abbrev pub onward : ℕ → ℕ → ℕ → Run → Run
onward size room b r = resumed size room b r r.machine.status
