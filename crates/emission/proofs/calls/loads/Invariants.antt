-- The last of them first.
use Rattle.codegen.specs.Expressions.{loads}
use Rattle.emission.specs.OnTape.{OnTape}
use Rattle.emission.proofs.Calling.{Before}
use Rattle.emission.proofs.calls.loads.Given as goal

abbrev pub invariant-loop-k : goal.invariant-loop-k
invariant-loop-k l = OnTape (λ at ws ws₁ r. Before loads l.n l.k at r ws ws₁) l.initial.tape l.tape
