-- `dash_after` meets its contract: each arm is the definition's clause.
use Rattle.console.specs.Numbers.{dash_after, dash_in}
use Rattle.console.proofs.Phases.{dash_other}
use Rattle.console.proofs.numbers.dash_after.Goals as goal

pub returns-in-Between : goal.returns-in-Between
unfolding dash_after dash_in
returns-in-Between c = rw c.in-Between.is c.at.ensures

pub returns-in_default : goal.returns-in_default
unfolding dash_after
returns-in_default c = rw (dash_other c.args.r.phase c.args.r c.in_default.not-Between) c.at-in_default.ensures
