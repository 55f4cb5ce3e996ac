-- What is laid piece by piece.
use Rattle.emission.proofs.Tapes.{after_two}
use Rattle.emission.proofs.Calling.{calls}
use Rattle.emission.proofs.calls.calling.Goals as goal

pub returns : goal.returns
returns c = after_two c.entering.ensures c.saves.ensures (calls c.args.d c.args.to c.registers-n.ensures.value c.entering.ensures.says c.saves.ensures.says)
