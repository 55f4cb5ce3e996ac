-- The register of results against 0.
use Prim.Native.Nat.{◌-◌}
use Rattle.emission.proofs.Tapes.{after_one}
use Rattle.emission.proofs.Skips.{tests_answer}
use Rattle.emission.proofs.jumps.testing_answer.Goals as goal

pub returns : goal.returns
returns c = after_one c.skip.ensures (tests_answer c.args.way.near c.args.way.when (c.args.way.to - c.args.tape.now.at) c.sense-c.ensures c.skip.ensures.says)
