-- Claims 1 and 2 of the emulator: what `emulate` and `resume` answer, and what they leave in the lent buffers, whatever they are given.
use Rattle.std.specs.Prelude.{ℕ, ◌-◌, ◌^◌, ◌≡◌, List, ◌++◌, leb, eqb, length, take, drop, Result, Ok, Err}
use Rattle.word.specs.Choice.{pick}
use Rattle.processor.specs.Machine.{state, register_count, memory_bytes}
use Rattle.processor.specs.Run.{Run, onward}
use Rattle.processor.specs.Image.{Lent, accepted, answer_of, run_image}
use Rattle.emulator.specs.declared.run.Ended.{Ended}
use Rattle.toolchain.specs.declared.refusals.Refusal.{Refusal}
use Rattle.toolchain.specs.Checking.{number_of}

-- What is lent to be changed.
pub record Buffers : Type 0 where
  pub memory : List ℕ
  pub registers : List ℕ
  pub log : List ℕ

abbrev pub buffers : List ℕ → List ℕ → List ℕ → Buffers
buffers m r l = record { memory = m; registers = r; log = l }

-- its sizes, with those of code and input block and the log's stated room
abbrev pub sizes : ℕ → ℕ → Buffers → ℕ → Lent
sizes code input b room = record {
  code = code;
  input = input;
  memory = length b.memory;
  registers = length b.registers;
  log = length b.log;
  room = room;
}

-- A run is where it ended and what the buffers hold: exactly its machine, and beyond it what they held before.
pub record Holds (run : Run) (before after : Buffers) (e : Ended) : Type 0 where
  pub pc : e.pc ≡ run.machine.pc
  pub status : e.status ≡ run.machine.status
  pub steps : e.steps ≡ run.steps
  pub logged : e.logged ≡ length run.machine.log
  pub registers : after.registers ≡ run.machine.registers ++ drop register_count before.registers
  pub memory : after.memory ≡ run.machine.memory ++ drop memory_bytes before.memory
  pub log : after.log ≡ run.machine.log ++ drop (length run.machine.log) before.log

-- What a call answers and leaves: the refusal that document 03 §5 gives, with every buffer as it was; or the run.
abbrev pub Answers : ℕ → Run → Buffers → Buffers → Result Ended Refusal → Type 0
Answers answer run before after (Err r) = (answer ≡ number_of r) × (number_of r ≡ accepted → ⊥) × (after ≡ before)
Answers answer run before after (Ok e) = (answer ≡ accepted) × Holds run before after e

-- `emulate`: the run of an image, from the start.
unfoldable pub Emulates : List ℕ → List ℕ → ℕ → ℕ → Buffers → Buffers → Result Ended Refusal → Type 0
Emulates code input room limit before after o =
    Answers (answer_of (sizes (length code) (length input) before room)) (run_image code input room limit) before after o

-- `resume`: a run gone on with. It is where it ended, with its machine in the buffers.
abbrev pub stood : Ended → Buffers → Run
stood e b = record {
  machine = state (take register_count b.registers) e.pc (take memory_bytes b.memory) (take e.logged b.log) e.status;
  steps = e.steps;
}

-- The answer is that of `emulate`, with no input block, and 6 too where the room stated is less than what was logged.
unfoldable pub resume_answer : Lent → ℕ → ℕ
resume_answer l logged = pick (eqb (answer_of l) accepted) (pick (leb logged l.room) accepted 6) (answer_of l)

-- Steps are counted in 64 bits: a run is gone on with for so many steps more, or up to the last that can be counted.
abbrev pub most_steps : ℕ
most_steps = 2 ^ 64 - 1

unfoldable pub steps_more : ℕ → ℕ → ℕ
steps_more limit steps = pick (leb limit (most_steps - steps)) limit (most_steps - steps)

-- "A run with limit a, gone on with for b more, is the run with limit a + b" (§4): `onward` goes on where the limit stopped it, and only there.
unfoldable pub Resumes : ℕ → Ended → ℕ → ℕ → Buffers → Buffers → Result Ended Refusal → Type 0
Resumes size e room limit before after o =
    Answers (resume_answer (sizes size 0 before room) e.logged) (onward size room (steps_more limit e.steps) (stood e before)) before after o
