-- The header is written when the expression is done.
use mathlib.Core.Path.{refl}
use native.Mathlib.Omega.{arith}
use Rattle.grammar.proofs.Steps.{exits, room_at}
use Rattle.grammar.proofs.StmtLaws.{single_done, single_bad}
use Rattle.grammar.proofs.statements.single.Goals as goal

pub ended-requires : goal.ended-requires
ended-requires c = room_at _ _ c.requires.0 (omega (arith, c.requires.1)) (omega arith)

pub put-requires : goal.put-requires
put-requires c = omega (arith, c.requires.0.free, c.requires.1, c.ended.auto.out)

pub returns-in_err-whole : goal.returns-in_err-whole
returns-in_err-whole c = exits c.from_residual.ensures.1 refl (single_bad _ _ _ _ _ c.in_err-whole.ensures.by)

pub returns : goal.returns
returns c = single_done _ _ _ _ _ refl c.in_ok-whole.ensures.by refl (rw c.from.ensures at c.put.ensures.written)
