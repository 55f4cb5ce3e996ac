-- `all_digits` meets its contract: what is left decides, from where the loop is.
use mathlib.Core.Path.{refl, sym, ◌∙◌}
use native.Mathlib.Omega.{arith}
use Rattle.language.specs.Tokens.{is_digit}
use Rattle.console.proofs.Folds.{all_on, all_off, all_out}
use Rattle.console.proofs.numbers.all_digits.Goals as goal

pub loop-b-init : goal.loop-b-init
loop-b-init c = (refl, omega arith)

pub loop-b-preserved : goal.loop-b-preserved
loop-b-preserved c = (all_on is_digit _ _ c.loop-b.invariant.0 c.loop-b-test.true (sym c.is_digit.ensures ∙ c.if-not-is_digit.false), omega arith)

pub returns-then-not-is_digit : goal.returns-then-not-is_digit
returns-then-not-is_digit c = all_off is_digit _ _ c.loop-b.invariant.0 c.loop-b-test.true (sym c.is_digit.ensures ∙ c.if-not-is_digit.true)

pub returns : goal.returns
returns c = all_out is_digit _ _ c.loop-b.invariant.0 c.loop-b-test.false
