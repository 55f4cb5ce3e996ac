-- The distance is the definition's.
use Rattle.emission.proofs.Tapes.{after_one}
use Rattle.emission.proofs.Skips.{jumped}
use Rattle.emission.proofs.jumps.jump.Goals as goal

pub returns : goal.returns
returns c = after_one c.put.ensures (jumped c.args.to c.requires.0 c.reach-by.ensures c.put.ensures.says)
