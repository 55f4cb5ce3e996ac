-- The last function first.
use mathlib.Core.Path.{◌≡◌}
use lib.ListN.{length}
use Rattle.emission.specs.OnTape.{OnTape}
use Rattle.compiler.proofs.Layouts.{Going}
use Rattle.compiler.proofs.programs.bodies.Given as goal

abbrev pub invariant-loop-f : goal.invariant-loop-f
invariant-loop-f l = OnTape (λ end us us' r. Going l.words l.entries l.n end us l.f r us') l.initial.tape l.tape × (length l.scratch ≡ length l.initial.scratch)
