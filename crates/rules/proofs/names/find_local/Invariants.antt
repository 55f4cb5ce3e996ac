-- No entry above i has the name.
use Rattle.rules.proofs.Looking as L
use Rattle.rules.specs.Tables.{part}
use Rattle.rules.proofs.names.find_local.Given as goal

abbrev pub invariant-loop-i : goal.invariant-loop-i
invariant-loop-i l = L.Finding l.text l.locals l.count (part l.text l.name.place l.name.length) l.i
