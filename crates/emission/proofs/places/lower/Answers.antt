-- The code is the definition.
use Rattle.codegen.specs.Places.{lower_of}
use Rattle.emission.proofs.places.lower.Goals as goal

pub returns : goal.returns
unfolding lower_of
returns c = c.sign_extend.ensures
