-- One comparison, or as many as there are.
use Rattle.grammar.specs.Parse.{most}
use borrow.Author.Tests.{ne_eqb}
use native.Mathlib.Omega.{arith}
use Rattle.grammar.proofs.operators.most_of.Goals as goal

pub returns-then-l-eq-COMP_LEVEL : goal.returns-then-l-eq-COMP_LEVEL
unfolding most
returns-then-l-eq-COMP_LEVEL c = (rw c.if-l-eq-COMP_LEVEL.true, omega arith)

pub returns-else-l-eq-COMP_LEVEL : goal.returns-else-l-eq-COMP_LEVEL
unfolding most
returns-else-l-eq-COMP_LEVEL c = (rw (ne_eqb _ _ c.if-l-eq-COMP_LEVEL.false), omega arith)
