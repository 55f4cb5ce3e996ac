-- By the item's kind.
use Rattle.declarations.proofs.Standing as L
use Rattle.declarations.proofs.globals.next.Goals as goal

pub returns-then-is_array : goal.returns-then-is_array
returns-then-is_array c = L.after_array _ _ c.is_array.ensures c.if-is_array.true

pub returns : goal.returns
returns c = L.after_function _ _ c.is_array.ensures c.if-is_array.false c.word-n.ensures c.word-body.ensures
