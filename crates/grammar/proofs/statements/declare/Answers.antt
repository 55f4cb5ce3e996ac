-- A typed name, and its value.
use mathlib.Core.Path.{refl}
use native.Mathlib.Omega.{arith}
use Rattle.grammar.proofs.Steps.{exits, room_at}
use Rattle.grammar.proofs.StmtLaws.{declare_bad, declare_unset, declare_done}
use Rattle.grammar.proofs.statements.declare.Goals as goal

pub returns-in_err-t : goal.returns-in_err-t
returns-in_err-t c = exits c.from_residual.ensures.1 refl (declare_bad _ _ c.in_err-t.ensures.by)

pub returns-in_err-expect : goal.returns-in_err-expect
returns-in_err-expect c = exits c.from_residual-in_err-expect.ensures.1 c.in_err-expect.ensures.0 (declare_unset _ _ c.in_ok-t.ensures.by refl c.in_err-expect.ensures.1)

pub single-requires : goal.single-requires
single-requires c = (room_at _ _ c.requires.0 c.in_ok-t.ensures.by.within (omega (arith, c.in_ok-t.ensures.by.small)), c.in_ok-expect.ensures.1)

pub returns : goal.returns
returns c = declare_done _ _ c.in_ok-t.ensures.by refl c.in_ok-expect.ensures.0 (omega (arith, c.in_ok-t.ensures.by.small)) c.declare_kind.ensures c.place-p.ensures c.value-x.ensures c.single.ensures
