-- By the expression, and by its type.
use Rattle.grammar.specs.declared.tree.ValueType.TheVariants as K
use Rattle.rules.proofs.Valued as V
use Rattle.rules.proofs.Testing as L
use Rattle.rules.proofs.blocks.condition.Goals as goal

pub first_expression-requires : goal.first_expression-requires
first_expression-requires c = c.requires

pub returns-in_err-ty : goal.returns-in_err-ty
returns-in_err-ty c = rw (V.passed _ c.from_residual.ensures.1) (L.cond_fault _ c.first_expression.ensures c.in_err-ty.was)

pub returns-then-ne : goal.returns-then-ne
returns-then-ne c = L.cond_wrong _ c.first_expression.ensures c.in_ok-ty.was (V.unlike _ K.Bool c.ne.ensures c.if-ne.true)

pub returns : goal.returns
returns c = L.cond_fine _ c.first_expression.ensures c.in_ok-ty.was (V.alike _ K.Bool c.ne.ensures c.if-ne.false)
