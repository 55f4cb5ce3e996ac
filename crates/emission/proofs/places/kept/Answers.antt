-- What is laid piece by piece.
use Rattle.emission.specs.Macros.{placed}
use Rattle.emission.proofs.Tapes.{after_three}
use Rattle.emission.proofs.Pieces.{keeps}
use Rattle.emission.proofs.places.kept.Goals as goal

pub returns : goal.returns
returns c = after_three c.keep.ensures c.put.ensures c.fetch.ensures (keeps (placed c.args.p) c.args.d c.keep.ensures.says c.put.ensures.says c.fetch.ensures.says)
