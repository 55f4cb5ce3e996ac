-- By whether the index is known to be inside.
use Rattle.emission.specs.Macros.{placed}
use Rattle.emission.proofs.Tapes.{after_one, after_three}
use Rattle.emission.proofs.Arrays.{locates_inside, locates}
use Rattle.emission.proofs.elements.locate.Goals as goal

pub returns-then-inside : goal.returns-then-inside
returns-then-inside c = after_one c.put.ensures (locates_inside c.args.a.offset c.args.a.size (placed c.args.p) (c.inside.ensures c.args.a.offset) c.if-inside.true c.index.ensures c.address-known.ensures.value c.upper-high.ensures c.put.ensures.says)

pub returns-else-inside : goal.returns-else-inside
returns-else-inside c = after_three c.indexed.ensures c.constant_to.ensures c.fetch.ensures (locates c.args.a.offset c.args.a.size (placed c.args.p) (c.inside.ensures c.args.a.offset) c.if-inside.false c.indexed.ensures.says c.constant_to.ensures.says c.fetch.ensures.says)
