-- Nothing is put where the truth is not the jump's.
use Prim.Native.Nat.{◌-◌}
use Rattle.emission.proofs.Skips.{stays}
use Rattle.emission.proofs.Tapes.{untouched}
use Rattle.emission.proofs.jumps.always.Goals as goal

pub returns-else-truth-way : goal.returns-else-truth-way
returns-else-truth-way c = untouched (stays c.args.way.when c.args.n (c.args.way.to - c.args.tape.now.at) c.if-truth-way.false)
