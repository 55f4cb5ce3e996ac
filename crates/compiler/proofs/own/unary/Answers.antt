-- The operator is the item's.
use Rattle.emission.proofs.Tapes.{after_one}
use Rattle.compiler.proofs.Placing.{applies}
use Rattle.compiler.proofs.own.unary.Goals as goal

pub returns : goal.returns
returns c = after_one c.applying.ensures (applies c.unary_operator-o.ensures c.place_of-p.ensures c.applying.ensures.says)
