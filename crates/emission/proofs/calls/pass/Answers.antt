-- A local of the frame behind this one.
use Prim.Native.Nat.{◌+◌, ◌*◌}
use native.Mathlib.Omega.{arith}
use Rattle.codegen.specs.Places.{frame_bytes, local_word}
use Rattle.emission.specs.Macros.{placed}
use Rattle.emission.proofs.Tapes.{after_one}
use Rattle.emission.proofs.Calling.{stores_as}
use Rattle.emission.proofs.calls.pass.Goals as goal

pub returns : goal.returns
returns c = after_one c.stored.ensures (stores_as (placed c.args.p) (1984 + 4 * (c.args.i + 1)) (frame_bytes + 4 * local_word c.args.i) (omega arith) c.stored.ensures.says)
