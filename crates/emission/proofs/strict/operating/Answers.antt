-- By an immediate or not.
use Rattle.flat.specs.Numbers.{strict_of}
use Rattle.emission.specs.Macros.{placed}
use Rattle.emission.proofs.Tapes.{after_one, after_three}
use Rattle.emission.proofs.Strictly.{operates_with, operates}
use Rattle.emission.proofs.strict.operating.Goals as goal

pub returns-in-Some : goal.returns-in-Some
returns-in-Some g c = after_one c.kept.ensures (operates_with (strict_of (g.O.Names.named c.args.o)) (placed c.args.sides.left) (placed c.args.sides.right) c.args.d _ _ c.in-Some.ensures c.target_of-to.ensures c.source-from.ensures c.kept.ensures.says)

pub returns-in-None : goal.returns-in-None
returns-in-None g c = after_three c.working.ensures c.fetch.ensures c.fetch-in-None.ensures (operates (strict_of (g.O.Names.named c.args.o)) (placed c.args.sides.left) (placed c.args.sides.right) c.args.d c.in-None.ensures c.source-from.ensures c.source-other.ensures c.working.ensures.says c.fetch.ensures.says c.fetch-in-None.ensures.says)
