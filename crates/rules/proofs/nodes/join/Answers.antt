-- By the operands' types.
use Rattle.rules.specs.Values.{held}
use Rattle.grammar.specs.declared.tree.ValueType.TheVariants as K
use Rattle.rules.proofs.Valued as V
use Rattle.rules.proofs.Making as L
use Rattle.rules.proofs.nodes.join.Goals as goal

pub returns-then-ne : goal.returns-then-ne
returns-then-ne g c = λ j. L.join_left (held g.L.Typed.type_named c.args.left) (record { type = g.R.Typed.type_named c.args.right.ty; start = j }) (V.unlike_named _ K.Bool c.value_type.ensures c.ne.ensures c.if-ne.true)

pub returns-then-ne-2 : goal.returns-then-ne-2
returns-then-ne-2 g c = λ j. L.join_right (held g.L.Typed.type_named c.args.left) (record { type = g.R.Typed.type_named c.args.right.ty; start = j }) (V.alike_named _ K.Bool c.value_type.ensures c.ne.ensures c.if-ne.false) (V.unlike_named _ K.Bool c.value_type-2.ensures c.ne-2.ensures c.if-ne-2.true)

pub returns : goal.returns
returns g c = λ j. L.join_fine (held g.L.Typed.type_named c.args.left) (record { type = g.R.Typed.type_named c.args.right.ty; start = j }) (V.alike_named _ K.Bool c.value_type.ensures c.ne.ensures c.if-ne.false) (V.alike_named _ K.Bool c.value_type-2.ensures c.ne-2.ensures c.if-ne-2.false)
