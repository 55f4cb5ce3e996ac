-- By whether the index is known to be inside.
use Rattle.emission.specs.Macros.{placed}
use Rattle.emission.proofs.Arrays.{offset_inside, offset_tested}
use Rattle.emission.proofs.elements.offset_of.Goals as goal

pub returns-then-inside : goal.returns-then-inside
returns-then-inside c = offset_inside c.args.a.offset c.args.a.size (placed c.args.p) (c.inside.ensures c.args.a.offset) c.if-inside.true c.index.ensures c.address-known.ensures.value c.lower.ensures

pub returns : goal.returns
returns c = offset_tested c.args.a.offset c.args.a.size (placed c.args.p) (c.inside.ensures c.args.a.offset) c.if-inside.false c.address-base.ensures.value c.lower-2.ensures
