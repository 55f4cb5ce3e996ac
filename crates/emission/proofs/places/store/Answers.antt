-- The format takes 12 bits of the offset.
use Rattle.emission.proofs.Tapes.{after_one}
use Rattle.emission.proofs.Low.{stores_low}
use Rattle.emission.proofs.places.store.Goals as goal

pub returns : goal.returns
returns c = after_one c.put.ensures (stores_low c.put.ensures.says)
