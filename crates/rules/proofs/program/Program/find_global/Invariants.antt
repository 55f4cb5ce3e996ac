-- No entry above i has the name.
use Rattle.rules.specs.Tables.{part}
use Rattle.rules.proofs.Looking as L
use Rattle.rules.proofs.program.Program.find_global.Given as goal

abbrev pub invariant-loop-i : goal.invariant-loop-i
invariant-loop-i l = L.Seeking l.self (part l.self.text.now l.name.place l.name.length) l.i
