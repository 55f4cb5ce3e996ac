-- By one branch or not.
use Prim.Native.Nat.{◌-◌}
use Rattle.flat.specs.Numbers.{strict_of}
use Rattle.emission.specs.Macros.{placed}
use Rattle.emission.proofs.Tapes.{after_one, after_two}
use Rattle.emission.proofs.Strictly.{decides_one, decides}
use Rattle.emission.proofs.strict.deciding.Goals as goal

pub returns-in-Some : goal.returns-in-Some
returns-in-Some g c = after_one c.comparing.ensures (decides_one c.args.way.near c.args.way.when (strict_of (g.O.Names.named c.args.o)) (placed c.args.sides.left) (placed c.args.sides.right) c.args.d (c.args.way.to - c.args.tape.now.at) _ c.in-Some.ensures c.comparing.ensures.says)

pub returns-in-None : goal.returns-in-None
returns-in-None g c = after_two c.testing.ensures c.operating.ensures (decides c.args.way.near c.args.way.when (strict_of (g.O.Names.named c.args.o)) (placed c.args.sides.left) (placed c.args.sides.right) c.args.d (c.args.way.to - c.args.tape.now.at) c.in-None.ensures c.testing.ensures.says c.operating.ensures.says)
