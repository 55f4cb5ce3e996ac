-- The operand that stands so far below, or none.
use Rattle.rules.proofs.Valued as V
use Rattle.rules.proofs.Stacks as L
use Rattle.rules.proofs.operands.top.Goals as goal

pub returns-then-h-j : goal.returns-then-h-j
returns-then-h-j c = L.top_none _ _ _ _ c.if-h-j.true

pub returns : goal.returns
returns c = L.top_some _ _ _ _ c.if-h-j.false (V.through c.value_type-ty.ensures c.word.ensures) c.word-start.ensures
