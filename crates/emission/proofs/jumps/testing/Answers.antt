-- What is laid piece by piece.
use Prim.Native.Nat.{◌-◌}
use Rattle.emission.specs.Macros.{placed}
use Rattle.emission.proofs.Tapes.{after_two}
use Rattle.emission.proofs.Skips.{tests}
use Rattle.emission.proofs.jumps.testing.Goals as goal

pub returns : goal.returns
returns c = after_two c.skip.ensures c.fetch.ensures (tests c.args.way.near c.args.way.when (placed c.args.p) (c.args.way.to - c.args.tape.now.at) c.sense-c.ensures c.source-from.ensures c.skip.ensures.says c.fetch.ensures.says)
