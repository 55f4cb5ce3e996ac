-- By the operator, and by whether the constant is 0.
use mathlib.Core.Path.{sym, ◌∙◌}
use Rattle.emission.proofs.Unaries.{apply_negate, apply_zero, apply_some}
use Rattle.emission.proofs.unary.apply.Goals as goal

pub returns-in-Negate : goal.returns-in-Negate
returns-in-Negate g c = apply_negate c.args.n (sym c.operator.ensures ∙ c.in-Negate.is) c.neg.ensures

pub returns-then-n-eq0 : goal.returns-then-n-eq0
returns-then-n-eq0 g c = apply_zero c.args.n (sym c.operator.ensures ∙ c.in-Not.is) c.if-n-eq0.true

pub returns-else-n-eq0 : goal.returns-else-n-eq0
returns-else-n-eq0 g c = apply_some c.args.n (sym c.operator.ensures ∙ c.in-Not.is) c.if-n-eq0.false
