-- A call, with its item after its arguments.
use mathlib.Core.Path.{refl}
use native.Mathlib.Omega.{arith}
use Rattle.grammar.proofs.Steps.{exits, room_at}
use Rattle.grammar.proofs.StmtLaws.{run_bad, run_open, run_done}
use Rattle.grammar.proofs.statements.run.Goals as goal

pub arguments-requires : goal.arguments-requires
arguments-requires c = (room_at _ _ c.requires.0 (omega (arith, c.requires.1)) (omega arith), c.requires.1)

pub returns-in_err-all : goal.returns-in_err-all
returns-in_err-all c = exits c.from_residual.ensures.1 refl (run_bad _ _ c.in_err-all.ensures.by)

pub returns-in_err-expect : goal.returns-in_err-expect
returns-in_err-expect c = exits c.from_residual-in_err-expect.ensures.1 c.in_err-expect.ensures.0 (run_open _ _ c.in_ok-all.ensures.by refl c.in_err-expect.ensures.1)

pub put-end-requires : goal.put-end-requires
put-end-requires c = omega (arith, c.requires.0.free, c.in_ok-all.ensures.by.small, c.in_ok-expect.ensures.1, c.arguments.auto.out)

pub put-requires : goal.put-requires
put-requires c = omega (arith, c.requires.0.free, c.requires.1, c.arguments.auto.out, c.put-end.auto.out)

pub returns : goal.returns
returns c = run_done _ _ c.in_ok-all.ensures.by refl c.in_ok-expect.ensures.0 c.in_ok-expect.ensures.1 refl c.requires.2 c.place-p.ensures c.value-x.ensures c.put-end.ensures.written c.put-end.ensures.end refl c.put.ensures.written
