-- After i statements the rest stands where the next one does.
use Prim.Native.Nat.{◌≤◌}
use Rattle.compiler.specs.Blocks.{Skips}
use Rattle.compiler.proofs.statements.skip.Given as goal

abbrev pub invariant-loop : goal.invariant-loop
invariant-loop l = Skips l.words l.p l.counter l.q × (l.p ≤ l.q)
