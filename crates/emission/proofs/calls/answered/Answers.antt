-- What is laid piece by piece.
use Rattle.emission.proofs.Tapes.{after_two}
use Rattle.emission.proofs.Calling.{answers}
use Rattle.emission.proofs.calls.answered.Goals as goal

pub returns : goal.returns
returns c = after_two c.keep.ensures c.put.ensures (answers c.args.d c.target_of-to.ensures c.keep.ensures.says c.put.ensures.says)
