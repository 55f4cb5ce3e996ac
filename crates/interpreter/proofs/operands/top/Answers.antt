-- The uppermost operand is the word below the operands' end.
use Rattle.interpreter.proofs.Moving as L
use Rattle.interpreter.proofs.operands.top.Goals as goal

pub returns-then-h-eq0 : goal.returns-then-h-eq0
returns-then-h-eq0 c = L.top_none _ _ _ c.if-h-eq0.true

pub returns-else-h-eq0 : goal.returns-else-h-eq0
returns-else-h-eq0 c = L.top_some _ _ _ c.if-h-eq0.false c.word.ensures
