-- The types passed are the same.
use Rattle.rules.proofs.Looking as L
use Rattle.rules.proofs.types.same_types.Given as goal

abbrev pub invariant-loop-k : goal.invariant-loop-k
invariant-loop-k l = L.Matching l.ts l.i l.tree l.j l.n l.k
