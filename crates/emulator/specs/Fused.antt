-- The parts of an instruction that is carried out straight from its word.
use Rattle.std.specs.Prelude.{ℕ, ltb, length}
use Rattle.word.specs.Choice.{pick}
use Rattle.processor.specs.declared.Status.TheVariants.{Trap}
use Rattle.processor.specs.Machine.{Machine}
use Rattle.processor.specs.Execute.{logged, halt, next}

-- x is appended to the log and the run goes on, or trap 4 where the log is full
abbrev pub emitted : ℕ → ℕ → Machine → Machine
emitted room x m = pick (ltb (length m.log) room) (logged m x (next m)) (halt m (Trap 4))
