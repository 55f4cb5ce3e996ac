-- What is laid piece by piece.
use Rattle.emission.proofs.Tapes.{after_two}
use Rattle.emission.proofs.Pieces.{settles}
use Rattle.emission.proofs.places.settle.Goals as goal

pub returns : goal.returns
returns c = after_two c.keep.ensures c.put.ensures (settles c.args.v c.args.d c.target_of-to.ensures c.keep.ensures.says c.put.ensures.says)
