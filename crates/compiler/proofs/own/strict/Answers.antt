-- The operator is the item's.
use Rattle.emission.proofs.Tapes.{after_one}
use Rattle.compiler.proofs.Placing.{operates}
use Rattle.compiler.proofs.own.strict.Goals as goal

pub returns : goal.returns
returns c = after_one c.operating.ensures (operates c.places-both.ensures.left c.places-both.ensures.right c.strict_operator-o.ensures c.operating.ensures.says)
