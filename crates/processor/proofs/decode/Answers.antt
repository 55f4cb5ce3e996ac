-- The definition is met row by row (`by_opcode`); the rest are the two round trips.
use Prim.Native.Nat.{◌<◌, ◌^◌}
use native.Mathlib.Omega.{arith}
use Rattle.processor.proofs.Round.{says, only}
use Rattle.processor.proofs.decode.Goals as goal

pub returns : goal.returns
returns c =
    let fits : c.args.w < 2 ^ 32 = omega arith in
    record { is = c.by_opcode.ensures; word = λ k. (says _ fits _ c.by_opcode.ensures k).word; fine = λ k. (says _ fits _ c.by_opcode.ensures k).fine; only = only _ _ c.by_opcode.ensures }
