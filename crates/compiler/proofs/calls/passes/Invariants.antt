-- The last argument first.
use Prim.Native.Nat.{◌≤◌}
use Rattle.emission.specs.OnTape.{OnTape}
use Rattle.compiler.proofs.Calling.{PassesLeft}
use Rattle.compiler.proofs.calls.passes.Given as goal

abbrev pub invariant-loop-i : goal.invariant-loop-i
invariant-loop-i l = OnTape (λ at us us' r. PassesLeft l.words l.end l.n l.d at us l.e l.i r us') l.initial.tape l.tape × (l.e ≤ l.end)
