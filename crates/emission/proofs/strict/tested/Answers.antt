-- What is laid piece by piece.
use Rattle.emission.proofs.Tapes.{after_five}
use Rattle.emission.proofs.Strictly.{tested_laid}
use Rattle.emission.proofs.strict.tested.Goals as goal

pub returns : goal.returns
returns c = after_five c.keep.ensures c.put.ensures c.put-2.ensures c.put-3.ensures c.put-4.ensures (tested_laid c.args.d c.target_of-to.ensures c.keep.ensures.says c.put.ensures.says c.onward-by.ensures c.put-2.ensures.says c.put-3.ensures.says c.onward-around.ensures c.put-4.ensures.says)
