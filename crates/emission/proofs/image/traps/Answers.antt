-- What is laid piece by piece.
use Rattle.emission.proofs.Tapes.{after_three}
use Rattle.emission.proofs.Ends.{traps_all}
use Rattle.emission.proofs.image.traps.Goals as goal

pub returns : goal.returns
returns c = after_three c.trapping.ensures c.trapping-2.ensures c.trapping-3.ensures (traps_all c.trapping.ensures.says c.trapping-2.ensures.says c.trapping-3.ensures.says)
