-- An expression and its end.
use mathlib.Core.Path.{refl}
use native.Mathlib.Omega.{arith}
use Rattle.grammar.proofs.Steps.{exits}
use Rattle.grammar.proofs.StmtLaws.{ended_bad, ended_open, ended_done}
use Rattle.grammar.proofs.expressions.ended.Goals as goal

pub level-requires : goal.level-requires
level-requires c = (c.requires, omega arith)

pub returns-in_err-whole : goal.returns-in_err-whole
returns-in_err-whole c = exits c.from_residual.ensures.1 refl (ended_bad _ _ c.in_err-whole.ensures.by)

pub returns-in_err-expect : goal.returns-in_err-expect
returns-in_err-expect c = exits c.from_residual-in_err-expect.ensures.1 c.in_err-expect.ensures.0 (ended_open _ _ c.in_ok-whole.ensures.by refl c.in_err-expect.ensures.1)

pub returns : goal.returns
returns c = ended_done _ _ c.in_ok-whole.ensures.by refl c.in_ok-expect.ensures.0 c.in_ok-expect.ensures.1
