-- What was written so far, and what is left says the rest.
use Rattle.rules.specs.Tables.{locals_in}
use Rattle.rules.specs.Values.{globals_of}
use Rattle.rules.proofs.Scanning as L
use Rattle.rules.proofs.scan.scan.Given as goal

abbrev pub invariant-loop-i : goal.invariant-loop-i
invariant-loop-i g l = L.Scanning l.program.text.now (globals_of l.program) (locals_in l.program.text.now l.locals l.spot.scope.visible) l.n l.program.tree.now l.spot.tree l.spot.core l.initial.types l.initial.starts l.initial.core l.i l.h l.types l.starts l.core
