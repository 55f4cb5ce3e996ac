-- `digit_after` meets its contract: each arm is the definition's clause.
use mathlib.Core.Path.{◌∙◌}
use Rattle.console.specs.Numbers.{digit_after}
use Rattle.console.proofs.Phases.{digit_other, digit_negative}
use Rattle.console.proofs.numbers.digit_after.Goals as goal

pub returns-in-Dash : goal.returns-in-Dash
unfolding digit_after
returns-in-Dash c = c.more.ensures ∙ digit_negative _ _ _ c.in-Dash.is

pub returns-in_default : goal.returns-in_default
unfolding digit_after
returns-in_default c = rw (digit_other c.args.r.phase c.args.d c.args.r c.in_default.not-Dash c.in_default.not-Negative) c.more-in_default.ensures
