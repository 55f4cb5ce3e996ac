-- `digit_value` meets its contract: a digit is at least 48 and at most 57.
use mathlib.Core.Path.{refl}
use native.Mathlib.Omega.{arith}
use Rattle.tokens.proofs.Tables.{digit_range}
use Rattle.console.proofs.numbers.digit_value.Goals as goal

pub overflow_sub-result : goal.overflow_sub-result
overflow_sub-result c = omega (arith, digit_range c.args.b c.requires)

pub returns : goal.returns
returns c = (refl, omega (arith, digit_range c.args.b c.requires))
