-- The charge stands among the words that were written, or there is none.
use native.Mathlib.Omega.{arith}
use Rattle.rules.proofs.Stacks as L
use Rattle.rules.proofs.operands.charge.Goals as goal

pub returns-then-start-size-2 : goal.returns-then-start-size-2
returns-then-start-size-2 c = L.charged_inside _ _ _ _ c.requires c.if-start-size-2.true c.word-c.ensures c.add.ensures

pub returns-else-start-size-2 : goal.returns-else-start-size-2
returns-else-start-size-2 c = L.charged_outside _ _ _ _ c.if-start-size-2.false

pub returns-else-start-size : goal.returns-else-start-size
returns-else-start-size c = L.charged_outside _ _ _ _ (omega (arith, c.if-start-size.false))
