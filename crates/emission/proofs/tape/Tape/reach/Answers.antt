-- The code is the definition.
use Rattle.symbolic.specs.Real.{distance}
use Rattle.emission.proofs.tape.Tape.reach.Goals as goal

pub returns : goal.returns
unfolding distance
returns c = rw c.saturating_sub-k.ensures
