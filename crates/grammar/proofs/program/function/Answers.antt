-- A name, parameters, a result, a body; the header is written last.
use mathlib.Core.Path.{refl}
use native.Mathlib.Omega.{arith}
use Rattle.grammar.proofs.Steps.{exits, room_at}
use Rattle.grammar.proofs.ItemLaws.{room_gap3, function_unnamed, function_unopened, function_params_bad, function_unclosed, function_result_bad, function_body_bad, function_done}
use Rattle.grammar.proofs.program.function.Goals as goal

pub returns-in_err-expect : goal.returns-in_err-expect
returns-in_err-expect c = exits c.from_residual.ensures.1 c.in_err-expect.ensures.0 (function_unnamed _ refl c.in_err-expect.ensures.1)

pub returns-in_err-expect-2 : goal.returns-in_err-expect-2
returns-in_err-expect-2 c = exits c.from_residual-in_err-expect-2.ensures.1 c.in_err-expect-2.ensures.0 (function_unopened _ refl c.in_ok-expect.ensures.0 refl c.in_err-expect-2.ensures.1)

pub parameters-requires : goal.parameters-requires
parameters-requires c = room_at _ _ c.requires.0 (omega (arith, c.in_ok-expect-2.ensures.1)) (omega arith)

pub returns-in_err-all : goal.returns-in_err-all
returns-in_err-all c = exits c.from_residual-in_err-all.ensures.1 refl (function_params_bad _ refl c.in_ok-expect.ensures.0 refl c.in_ok-expect-2.ensures.0 c.in_err-all.ensures.by)

pub returns-in_err-expect-3 : goal.returns-in_err-expect-3
returns-in_err-expect-3 c = exits c.from_residual-in_err-expect-3.ensures.1 c.in_err-expect-3.ensures.0 (function_unclosed _ refl c.in_ok-expect.ensures.0 refl c.in_ok-expect-2.ensures.0 c.in_ok-all.ensures.by refl c.in_err-expect-3.ensures.1)

pub returns-in_err-given : goal.returns-in_err-given
returns-in_err-given c = exits c.from_residual-in_err-given.ensures.1 refl (function_result_bad _ refl c.in_ok-expect.ensures.0 refl c.in_ok-expect-2.ensures.0 c.in_ok-all.ensures.by refl c.in_ok-expect-3.ensures.0 c.in_err-given.ensures.by)

pub block-requires : goal.block-requires
block-requires c = room_gap3 c.requires.0 refl c.in_ok-all.ensures.by c.parameters.auto.out _ (omega (arith, c.in_ok-given.ensures.by.small)) c.in_ok-given.ensures.by.within

pub returns-in_err-body : goal.returns-in_err-body
returns-in_err-body c = exits c.from_residual-in_err-body.ensures.1 refl (function_body_bad _ refl c.in_ok-expect.ensures.0 refl c.in_ok-expect-2.ensures.0 c.in_ok-all.ensures.by refl c.in_ok-expect-3.ensures.0 c.in_ok-given.ensures.by c.in_err-body.ensures.by)

pub returns : goal.returns
returns c = function_done _ refl c.in_ok-expect.ensures.0 refl c.in_ok-expect-2.ensures.0 c.in_ok-all.ensures.by refl c.in_ok-expect-3.ensures.0 c.in_ok-given.ensures.by refl c.in_ok-body.ensures.by c.place-p.ensures c.value-x.ensures refl refl (rw c.result_number-t.ensures at c.put.ensures.written)
