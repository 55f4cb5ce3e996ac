-- No entry above i has the name.
use Rattle.rules.proofs.Looking as L
use Rattle.rules.proofs.program.Program.find.Given as goal

abbrev pub invariant-loop-i : goal.invariant-loop-i
invariant-loop-i g l = L.SeekingBy (goal.F-post g l.is_wanted) l.self l.i
