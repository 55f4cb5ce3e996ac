-- By the operator.
use mathlib.Core.Path.{sym, ◌∙◌}
use Rattle.emission.specs.Macros.{placed}
use Rattle.emission.proofs.Tapes.{after_one}
use Rattle.emission.proofs.Unaries.{alone_negate, alone_not}
use Rattle.emission.proofs.unary.alone.Goals as goal

pub returns-in-Negate : goal.returns-in-Negate
returns-in-Negate g c = after_one c.kept.ensures (alone_negate (placed c.args.p) c.args.d c.target_of-to.ensures c.source-from.ensures (sym c.operator.ensures ∙ c.in-Negate.is) c.kept.ensures.says)

pub returns-in-Not : goal.returns-in-Not
returns-in-Not g c = after_one c.kept-in-Not.ensures (alone_not (placed c.args.p) c.args.d c.target_of-to.ensures c.source-from.ensures (sym c.operator.ensures ∙ c.in-Not.is) c.kept-in-Not.ensures.says)
