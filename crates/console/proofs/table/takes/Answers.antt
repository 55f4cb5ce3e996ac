-- `takes` meets its contract: at an option's place, at one past those, and at none's.
use mathlib.Core.Path.{sym, ap, ◌∙◌}
use Rattle.std.specs.Prelude.{is_some}
use Rattle.console.specs.Table.{takes_of}
use Rattle.console.proofs.Tied.{takes_option, takes_past, takes_unknown}
use Rattle.console.proofs.table.takes.Goals as goal

pub returns-in_default : goal.returns-in_default
unfolding takes_of
returns-in_default c = rw c.in_default.is

pub returns-in-Some-option_at : goal.returns-in-Some-option_at
returns-in-Some-option_at c = c.takes.ensures ∙ takes_option _ _ _ _ c.in-Some.is c.in-Some-option_at.ensures.some

pub returns-then-place-ne-UNKNOWN : goal.returns-then-place-ne-UNKNOWN
returns-then-place-ne-UNKNOWN c = c.takes-then-place-ne-UNKNOWN.ensures ∙ takes_past _ _ _ c.in-Some.is (ap is_some (sym c.in-None.is) ∙ c.option_at.ensures.test) c.if-place-ne-UNKNOWN.true

pub returns-else-place-ne-UNKNOWN : goal.returns-else-place-ne-UNKNOWN
returns-else-place-ne-UNKNOWN c = takes_unknown _ _ _ c.in-Some.is c.if-place-ne-UNKNOWN.false
