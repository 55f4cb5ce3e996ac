-- An item's words are its fields.
use Rattle.interpreter.proofs.Running as L
use Rattle.interpreter.proofs.parts.Code.item_at.Goals as goal

pub returns : goal.returns
returns c = L.item_is _ c.field-kind.ensures c.field-charge.ensures c.field-a.ensures c.field-b.ensures
