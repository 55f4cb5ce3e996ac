-- The code is the definition.
use mathlib.Core.Path.{refl}
use Rattle.codegen.specs.Places.{upper_of}
use Rattle.emission.proofs.places.upper.Goals as goal

pub returns : goal.returns
unfolding upper_of
returns c = refl
