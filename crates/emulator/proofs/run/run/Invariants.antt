-- The rest of the run, from the machine as it is now, is the whole run.
use Rattle.emulator.specs.Stands.{stands, Grows}
use Rattle.processor.specs.declared.Status.TheVariants.{Going}
use Rattle.processor.specs.Run.{run_of}
use lib.ListN.{length}
use Prim.Native.Nat.{◌+◌, ◌-◌}
use mathlib.Core.Path.{◌≡◌}
use Rattle.emulator.proofs.run.run.Given as goal

abbrev pub invariant-loop-n : goal.invariant-loop-n
invariant-loop-n l = record {
  log_length : length l.log ≡ length l.initial.log;
  grows : Grows l.room l.initial.log l.logged0 l.log l.logged;
  rest : run_of l.size l.room (l.limit - l.n) (stands l.registers l.pc l.memory l.log l.logged Going) (l.before + l.n)
      ≡ run_of l.size l.room l.limit (stands l.initial.registers l.pc0 l.initial.memory l.initial.log l.logged0 Going) l.before;
}
