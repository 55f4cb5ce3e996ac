-- By the expression, and by its type.
use native.Mathlib.Omega.{arith}
use Rattle.rules.proofs.Valued as V
use Rattle.rules.proofs.Stating as L
use Rattle.rules.proofs.Moving as M
use Rattle.rules.proofs.single.assign.Goals as goal

pub first_expression-requires : goal.first_expression-requires
first_expression-requires g c = c.requires.after

pub returns-in_err-ty : goal.returns-in_err-ty
returns-in_err-ty g c = rw (V.passed _ c.from_residual.ensures.1) (record { states = L.assign_fault _ _ _ _ _ _ _ _ _ c.first_expression.ensures _ c.in_err-ty.was; moves = M.stuck _ _ _ _ })

pub find_local-requires : goal.find_local-requires
find_local-requires g c = c.requires.after.locals

pub returns-in_default : goal.returns-in_default
returns-in_default g c = record { states = L.assign_unknown _ _ _ _ _ _ _ _ _ c.first_expression.ensures _ c.in_ok-ty.was c.in_default.ensures; moves = M.stuck _ _ _ _ }

pub returns-then-ne : goal.returns-then-ne
returns-then-ne g c = record { states = L.assign_wrong _ _ _ _ _ _ _ _ _ c.first_expression.ensures _ c.in_ok-ty.was _ c.in-Some.ensures (V.unlike _ _ c.ne.ensures c.if-ne.true); moves = M.stuck _ _ _ _ }

pub header_of_one-requires : goal.header_of_one-requires
header_of_one-requires g c = omega (arith, c.requires.header, c.first_expression.auto.core)

pub returns : goal.returns
returns g c = record { states = L.assign_next _ _ _ _ _ _ _ _ _ c.first_expression.ensures _ c.in_ok-ty.was _ c.in-Some.ensures (V.alike _ _ c.ne.ensures c.if-ne.false) c.header_of_one.ensures; moves = M.stays _ _ _ }
