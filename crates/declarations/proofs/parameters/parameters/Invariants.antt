-- What is left of the parameters enters the rest.
use mathlib.Core.Path.{◌≡◌}
use lib.ListN.{length}
use Rattle.rules.specs.Values.{globals_of}
use Rattle.declarations.proofs.Taking as L
use Rattle.declarations.proofs.parameters.parameters.Given as goal

abbrev pub invariant-loop-k : goal.invariant-loop-k
invariant-loop-k l = L.Taking l.program.text.now l.program.tree.now (globals_of l.program) l.p l.n l.k l.locals × (length l.locals ≡ length l.initial.locals)
