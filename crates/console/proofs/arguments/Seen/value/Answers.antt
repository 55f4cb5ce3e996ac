-- `value` meets its contract: each arm is the definition's clause.
use Rattle.console.specs.Arguments.{valued}
use Rattle.console.proofs.Arms.{valued_other}
use Rattle.console.proofs.arguments.Seen.value.Goals as goal

pub returns-in-Name : goal.returns-in-Name
unfolding valued
returns-in-Name c = rw c.in-Name.is

pub returns-in-Unknown : goal.returns-in-Unknown
returns-in-Unknown c = valued_other _ _ _ c.args.self _ c.in-Unknown.is c.with.ensures
