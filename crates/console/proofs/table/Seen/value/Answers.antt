-- `value` meets its contract.
use Rattle.console.specs.Table.{valued}
use Rattle.console.proofs.table.Seen.value.Goals as goal

pub returns : goal.returns
unfolding valued
returns c = rw c.give.ensures
