-- Case by case.
use Rattle.emission.proofs.Tapes.{after_one, untouched}
use Rattle.emission.proofs.Pieces.{carries, carry_temporary}
use Rattle.emission.proofs.places.carry.Goals as goal

pub returns-in-Constant : goal.returns-in-Constant
returns-in-Constant c = after_one c.kept.ensures (carries c.args.d c.args.p c.in-Constant.is c.target_of-to.ensures c.source-from.ensures c.kept.ensures.says)

pub returns-in-Temporary : goal.returns-in-Temporary
returns-in-Temporary c = untouched (carry_temporary c.args.d c.in-Temporary.is)
