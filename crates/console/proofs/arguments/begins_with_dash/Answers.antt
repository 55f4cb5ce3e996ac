-- `begins_with_dash` meets its contract: of no byte, and of the first.
use mathlib.Core.Path.{sym}
use borrow.Author.Tests.{eqb-true}
use Rattle.console.proofs.Compared.{dash_first, dash_none}
use Rattle.console.proofs.arguments.begins_with_dash.Goals as goal

pub returns-then-not-is_empty : goal.returns-then-not-is_empty
returns-then-not-is_empty c = dash_first _

pub returns-else-not-is_empty : goal.returns-else-not-is_empty
returns-else-not-is_empty c = rw c.if-not-is_empty.false (dash_none _ (eqb-true _ 0 (sym c.if-not-is_empty.ensures)))
