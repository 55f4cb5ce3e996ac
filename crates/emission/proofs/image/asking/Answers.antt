-- What is laid piece by piece.
use Rattle.emission.proofs.Tapes.{after_two}
use Rattle.emission.proofs.Ends.{requests}
use Rattle.emission.proofs.image.asking.Goals as goal

pub returns : goal.returns
returns c = after_two c.ecall.ensures c.put.ensures (requests c.args.service c.ecall.ensures.says c.put.ensures.says)
