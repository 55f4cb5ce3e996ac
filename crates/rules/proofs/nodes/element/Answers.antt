-- By the array that is found, and by the index's type.
use mathlib.Core.Path.{ap, ◌∙◌}
use Rattle.rules.specs.Values.{made, held}
use Rattle.grammar.specs.declared.tree.ValueType.TheVariants as K
use Rattle.rules.proofs.Valued as V
use Rattle.rules.proofs.Making as L
use Rattle.rules.proofs.nodes.element.Goals as goal

pub returns-in_err-array : goal.returns-in_err-array
returns-in_err-array g c = ap made c.from_residual.ensures ∙ L.no_thing _ c.args.name (held g.T.Typed.type_named c.args.index) c.in_err-array.ensures

pub returns-then-not-is_array : goal.returns-then-not-is_array
returns-then-not-is_array g c = L.no_array _ c.args.name (held g.T.Typed.type_named c.args.index) c.in_ok-array.ensures c.is_array.ensures c.if-not-is_array.true

pub returns-then-ne : goal.returns-then-ne
returns-then-ne g c = L.no_index _ c.args.name (held g.T.Typed.type_named c.args.index) c.in_ok-array.ensures c.is_array.ensures c.if-not-is_array.false (V.unlike_named _ K.Int c.value_type.ensures c.ne.ensures c.if-ne.true)

pub returns : goal.returns
returns g c = L.array_some _ c.args.name (held g.T.Typed.type_named c.args.index) c.in_ok-array.ensures c.is_array.ensures c.if-not-is_array.false (V.alike_named _ K.Int c.value_type.ensures c.ne.ensures c.if-ne.false) c.word-size.ensures
