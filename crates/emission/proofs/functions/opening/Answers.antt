-- What is laid piece by piece.
use Rattle.emission.proofs.Tapes.{after_three}
use Rattle.emission.proofs.Ends.{opens}
use Rattle.emission.proofs.functions.opening.Goals as goal

pub returns : goal.returns
returns c = after_three c.store.ensures c.put.ensures c.put-2.ensures (opens c.store.ensures.says c.reach-to_stub.ensures c.put.ensures.says c.onward-around.ensures c.put-2.ensures.says)
