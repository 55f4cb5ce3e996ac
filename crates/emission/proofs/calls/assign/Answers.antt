-- A local of this frame.
use Prim.Native.Nat.{◌+◌, ◌*◌}
use native.Mathlib.Omega.{arith}
use Rattle.codegen.specs.Places.{local_word}
use Rattle.emission.specs.Macros.{placed}
use Rattle.emission.proofs.Tapes.{after_one}
use Rattle.emission.proofs.Calling.{stores_as}
use Rattle.emission.proofs.calls.assign.Goals as goal

pub returns : goal.returns
returns c = after_one c.stored.ensures (stores_as (placed c.args.p) (4 * (c.args.x + 1)) (4 * local_word c.args.x) (omega arith) c.stored.ensures.says)
