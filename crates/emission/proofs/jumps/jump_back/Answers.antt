-- The distance is the definition's.
use mathlib.Core.Path.{refl}
use native.Mathlib.Omega.{arith}
use Rattle.emission.proofs.Skips.{jumps_back}
use Rattle.emission.proofs.jumps.jump_back.Goals as goal

pub returns : goal.returns
returns c = record {
  says = record { puts = jumps_back c.args.tape.now.at c.reach-by.ensures c.put.ensures.says; stays = refl };
  within = omega arith;
  long = c.put.ensures.long;
  same = c.put.ensures.same;
}
