-- The right side's start is the left side's end.
use Rattle.compiler.proofs.Placing.{sides_at}
use Rattle.compiler.proofs.places.sides.Goals as goal

pub returns : goal.returns
returns c = record { sides_at = sides_at c.start_of-middle.ensures.starts c.place_of-p.ensures c.above-next.ensures.value; within = c.start_of-middle.ensures.within }
