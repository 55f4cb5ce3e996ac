-- Near or far.
use Prim.Native.Nat.{◌-◌}
use Rattle.emission.proofs.Tapes.{after_one, after_two}
use Rattle.emission.proofs.Skips.{skip_near, skip_far}
use Rattle.emission.proofs.jumps.skip.Goals as goal

pub returns-then-way : goal.returns-then-way
returns-then-way c = after_one c.put.ensures (skip_near c.args.way.to c.if-way.true c.requires c.reach-by.ensures c.put.ensures.says)

pub returns-else-way : goal.returns-else-way
returns-else-way c = after_two c.jump.ensures c.put-else-way.ensures (skip_far (c.args.way.to - c.args.tape.now.at) c.args.c c.if-way.false c.opposite-other.ensures c.jump.ensures.says c.onward-around.ensures c.put-else-way.ensures.says)
