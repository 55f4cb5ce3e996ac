-- What is laid piece by piece.
use Rattle.emission.proofs.Tapes.{after_five}
use Rattle.emission.proofs.Ends.{starts}
use Rattle.emission.proofs.image.starting.Goals as goal

pub returns : goal.returns
returns c = after_five c.asking.ensures c.put.ensures c.put-2.ensures c.put-3.ensures c.put-4.ensures (starts c.args.main c.asking.ensures.says c.reach-by.ensures c.put.ensures.says c.put-2.ensures.says c.put-3.ensures.says c.put-4.ensures.says)
