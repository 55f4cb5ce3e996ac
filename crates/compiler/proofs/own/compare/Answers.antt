-- The sides' places, and a branch on them.
use Rattle.emission.proofs.Tapes.{after_one}
use Rattle.compiler.proofs.Placing.{compares}
use Rattle.compiler.proofs.own.compare.Goals as goal

pub returns : goal.returns
returns c = after_one c.comparing.ensures (compares c.places-both.ensures.left c.places-both.ensures.right _ _ _ _ _ c.comparing.ensures.says)
