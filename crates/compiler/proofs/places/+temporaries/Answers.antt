-- The last argument's, and those of the arguments before it; the measure is how many there are.
use native.Mathlib.Omega.{arith}
use Rattle.compiler.proofs.Calling.{weighs_none, weighs_more}
use Rattle.compiler.proofs.places.+temporaries.Goals as goal

pub returns-then-n-eq0 : goal.returns-then-n-eq0
returns-then-n-eq0 t c = record { weighs = weighs_none c.if-n-eq0.true; within = omega arith }

pub returns : goal.returns
returns t c = record { weighs = weighs_more c.if-n-eq0.false (omega (arith, c.ranges.n)) c.start_of-start.ensures.starts c.temporaries-before.ensures.weighs c.temporaries-before.ensures.within c.place_of-p.ensures c.above.ensures.value; within = omega (arith, c.temporaries-before.ensures.within, c.above.ensures.within, c.if-n-eq0.false) }
