-- By the operand's type.
use Rattle.rules.specs.Values.{held}
use Rattle.rules.proofs.Valued as V
use Rattle.rules.proofs.Making as L
use Rattle.rules.proofs.nodes.unary.Goals as goal

pub returns-then-ne : goal.returns-then-ne
returns-then-ne g c = L.unary_wrong _ (held g.T.Typed.type_named c.args.operand) c.unary_type-ty.ensures (V.unlike_named _ _ c.value_type.ensures c.ne.ensures c.if-ne.true)

pub returns : goal.returns
returns g c = L.unary_right _ (held g.T.Typed.type_named c.args.operand) c.unary_type-ty.ensures (V.alike_named _ _ c.value_type.ensures c.ne.ensures c.if-ne.false)
