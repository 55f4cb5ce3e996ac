-- What is laid piece by piece.
use Rattle.emission.proofs.Tapes.{after_three}
use Rattle.emission.proofs.Strictly.{divided_laid}
use Rattle.emission.proofs.strict.divided.Goals as goal

pub returns : goal.returns
returns c = after_three c.plain.ensures c.put.ensures c.put-2.ensures (divided_laid c.args.d c.plain.ensures.says c.reach-to_stub.ensures c.put.ensures.says c.onward-around.ensures c.put-2.ensures.says)
