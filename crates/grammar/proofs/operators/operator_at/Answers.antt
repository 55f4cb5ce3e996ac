-- What is no kind of token is no operator.
use native.Mathlib.Omega.{arith}
use mathlib.Core.Path.{refl}
use Rattle.grammar.proofs.Tables.{level_none}
use Rattle.grammar.proofs.operators.operator_at.Goals as goal

pub returns-in_err-kind : goal.returns-in_err-kind
returns-in_err-kind c = rw c.from_residual.ensures (λ e. omega (arith, level_none _ (c.in_err-kind.ensures.none refl), e, c.requires))
