-- The upper half that the library gives is that of the definition, which leaves nothing of the product off.
use Prim.Native.Nat.{◌^◌, ◌<◌}
use Rattle.word.proofs.Halves.{upper_of_unsigned}
use native.Mathlib.Omega.{arith}
use borrow.Author.Rules.{rules}
use Rattle.word.proofs.product.upper_unsigned.Goals as goal

pub returns : goal.returns
returns c =
    let low : c.carrying_mul.result.0 < 2 ^ 32 = search rules in
    omega (arith, low, upper_of_unsigned c.args.a c.args.b (search rules) (search rules))
