-- By the number of the arguments, and by their types.
use Rattle.rules.proofs.Making as L
use Rattle.rules.proofs.calls.arguments.Goals as goal

pub returns-then-h-n : goal.returns-then-h-n
returns-then-h-n g c = L.few_operands _ _ _ _ _ _ _ _ _ _ c.if-h-n.true

pub returns-then-m-n : goal.returns-then-m-n
returns-then-m-n g c = L.other_count _ _ _ _ _ _ _ _ _ _ c.if-h-n.false c.word-m.ensures c.if-m-n.true

pub returns-then-not-same_types : goal.returns-then-not-same_types
returns-then-not-same_types g c = L.other_types _ _ _ _ _ _ _ _ _ _ c.if-h-n.false c.word-m.ensures c.if-m-n.false c.same_types.ensures c.if-not-same_types.true

pub returns : goal.returns
returns g c = rw (← c.value_type.ensures) (L.call_fine _ _ _ _ _ _ _ _ _ _ c.if-h-n.false c.word-m.ensures c.if-m-n.false c.same_types.ensures c.first_start-start.ensures c.if-not-same_types.false)
