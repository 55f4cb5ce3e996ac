-- By its length with near branches.
use Rattle.compiler.proofs.Functioning.{nearness}
use Rattle.compiler.proofs.functions.is_near.Goals as goal

pub returns : goal.returns
returns c = nearness c.measure.ensures.measures
