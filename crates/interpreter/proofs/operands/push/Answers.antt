-- A push sets one word above the operands, and those below stay.
use Rattle.interpreter.proofs.Moving as L
use Rattle.interpreter.proofs.operands.push.Goals as goal

pub returns-then-h-lt-MOST_OPERANDS : goal.returns-then-h-lt-MOST_OPERANDS
returns-then-h-lt-MOST_OPERANDS c = L.push_there _ c.requires c.if-h-lt-MOST_OPERANDS.true

pub returns : goal.returns
returns c = L.push_full _ c.requires c.if-h-lt-MOST_OPERANDS.false
