-- Case by case.
use Rattle.emission.proofs.jumps.sense.Goals as goal

pub returns-then-t : goal.returns-then-t
returns-then-t c = rw c.if-t.true

pub returns-else-t : goal.returns-else-t
returns-else-t c = rw c.if-t.false c.opposite.ensures
