-- The format takes 12 bits of the offset.
use Rattle.emission.proofs.Tapes.{after_one}
use Rattle.emission.proofs.Low.{loads_low}
use Rattle.emission.proofs.places.load.Goals as goal

pub returns : goal.returns
returns c = after_one c.put.ensures (loads_low c.put.ensures.says)
