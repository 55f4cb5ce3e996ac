-- What is laid piece by piece.
use Rattle.emission.proofs.Tapes.{after_two}
use Rattle.emission.proofs.Ends.{leaves}
use Rattle.emission.proofs.functions.leaving.Goals as goal

pub returns : goal.returns
returns c = after_two c.put.ensures c.load.ensures (leaves c.put.ensures.says c.load.ensures.says)
