-- What is laid piece by piece.
use Prim.Native.Nat.{◌-◌}
use Rattle.emission.specs.Macros.{placed}
use Rattle.emission.proofs.Skips.{compares, compares_turned}
use Rattle.emission.proofs.Tapes.{after_three}
use Rattle.emission.proofs.jumps.comparing.Goals as goal

pub returns-then-turned : goal.returns-then-turned
returns-then-turned c = after_three c.skip.ensures c.fetch.ensures c.fetch-then-turned.ensures (compares_turned c.args.way.near c.args.way.when (placed c.args.sides.left) (placed c.args.sides.right) (c.args.way.to - c.args.tape.now.at) c.args.comparison.0 c.if-turned.true c.sense-cond.ensures c.source-from.ensures c.source-other.ensures c.skip.ensures.says c.fetch.ensures.says c.fetch-then-turned.ensures.says)

pub returns-else-turned : goal.returns-else-turned
returns-else-turned c = after_three c.skip-else-turned.ensures c.fetch-else-turned.ensures c.fetch-else-turned-2.ensures (compares c.args.way.near c.args.way.when (placed c.args.sides.left) (placed c.args.sides.right) (c.args.way.to - c.args.tape.now.at) c.args.comparison.0 c.if-turned.false c.sense-cond.ensures c.source-from.ensures c.source-other.ensures c.skip-else-turned.ensures.says c.fetch-else-turned.ensures.says c.fetch-else-turned-2.ensures.says)
