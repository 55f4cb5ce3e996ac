-- What is laid piece by piece.
use Rattle.emission.proofs.Tapes.{after_two}
use Rattle.emission.proofs.Strictly.{plain_laid}
use Rattle.emission.proofs.strict.plain.Goals as goal

pub returns : goal.returns
returns c = after_two c.keep.ensures c.put.ensures (plain_laid c.args.d c.target_of-to.ensures c.keep.ensures.says c.put.ensures.says)
