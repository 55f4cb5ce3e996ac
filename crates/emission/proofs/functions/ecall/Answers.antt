-- One instruction.
use Rattle.emission.proofs.Tapes.{after_one}
use Rattle.emission.proofs.Ends.{asks}
use Rattle.emission.proofs.functions.ecall.Goals as goal

pub returns : goal.returns
returns c = after_one c.put.ensures (asks c.put.ensures.says)
