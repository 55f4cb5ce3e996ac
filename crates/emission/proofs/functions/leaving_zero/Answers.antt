-- What is laid piece by piece.
use Rattle.emission.proofs.Tapes.{after_two}
use Rattle.emission.proofs.Ends.{leaves_zero}
use Rattle.emission.proofs.functions.leaving_zero.Goals as goal

pub returns : goal.returns
returns c = after_two c.leaving.ensures c.put.ensures (leaves_zero c.leaving.ensures.says c.put.ensures.says)
