-- What is laid piece by piece.
use Rattle.emission.proofs.Tapes.{after_two}
use Rattle.emission.proofs.Ends.{traps_numbered}
use Rattle.emission.proofs.image.trapping.Goals as goal

pub returns : goal.returns
returns g c = after_two c.asking.ensures c.put.ensures (traps_numbered c.number-number.ensures c.asking.ensures.says c.put.ensures.says)
