-- `sign_after` meets its contract: each test is one of the definition's.
use mathlib.Core.Path.{sym, ◌∙◌}
use borrow.Author.Tests.{ne_eqb}
use Rattle.console.specs.Numbers.{sign_after}
use Rattle.console.proofs.numbers.sign_after.Goals as goal

pub returns-then-b-eq45 : goal.returns-then-b-eq45
unfolding sign_after
returns-then-b-eq45 c = rw c.if-b-eq45.true c.dash_after.ensures

pub digit_value-requires : goal.digit_value-requires
digit_value-requires c = sym c.is_digit.ensures ∙ c.if-is_digit.true

pub returns-then-is_digit : goal.returns-then-is_digit
unfolding sign_after
returns-then-is_digit c = rw (ne_eqb c.args.b 45 c.if-b-eq45.false, sym c.is_digit.ensures ∙ c.if-is_digit.true, sym c.digit_value.ensures.0) c.digit_after.ensures

pub returns : goal.returns
unfolding sign_after
returns c = rw (ne_eqb c.args.b 45 c.if-b-eq45.false, sym c.is_digit.ensures ∙ c.if-is_digit.false) c.at.ensures
