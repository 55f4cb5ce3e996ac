-- What is laid piece by piece.
use Rattle.emission.proofs.Tapes.{after_two}
use Rattle.emission.proofs.Calling.{returns_by}
use Rattle.emission.proofs.calls.returning.Goals as goal

pub returns : goal.returns
returns c = after_two c.loads.ensures c.put.ensures (returns_by c.args.d c.registers-n.ensures.value c.loads.ensures.says c.put.ensures.says)
