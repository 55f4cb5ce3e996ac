-- By what the number reads back as.
use Rattle.rules.proofs.Sorts as L
use Rattle.rules.proofs.head.U32StatementKind.statement.Goals as goal

pub returns : goal.returns
returns c = rw c.ok.ensures.value (L.kind_read _ c.try_from.result c.try_from.ensures)
