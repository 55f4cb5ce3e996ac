-- What is laid piece by piece.
use Rattle.emission.proofs.Tapes.{after_three}
use Rattle.emission.proofs.Calling.{enters}
use Rattle.emission.proofs.calls.entering.Goals as goal

pub returns : goal.returns
returns c = after_three c.returning.ensures c.put.ensures c.put-2.ensures (enters c.args.d c.args.to c.returning.ensures.says c.reach-by.ensures c.put.ensures.says c.put-2.ensures.says)
