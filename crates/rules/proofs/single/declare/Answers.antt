-- By the expression, its type, the name, and how many there are.
use native.Mathlib.Omega.{arith}
use Rattle.rules.proofs.Valued as V
use Rattle.rules.proofs.Stating as L
use Rattle.rules.proofs.Moving as M
use Rattle.rules.proofs.single.declare.Goals as goal

pub first_expression-requires : goal.first_expression-requires
first_expression-requires g c = c.requires.0.after

pub returns-in_err-ty : goal.returns-in_err-ty
returns-in_err-ty g c = rw (V.passed _ c.from_residual.ensures.1) (record { states = L.declare_fault _ _ _ _ _ _ _ _ _ _ _ c.first_expression.ensures c.in_err-ty.was; moves = M.stuck _ _ _ _ })

pub returns-then-ne : goal.returns-then-ne
returns-then-ne g c = record { states = L.declare_wrong _ _ _ _ _ _ _ _ _ _ _ c.first_expression.ensures _ c.in_ok-ty.was c.declared_type.ensures (V.unlike _ _ c.ne.ensures c.if-ne.true); moves = M.stuck _ _ _ _ }

pub fresh-requires : goal.fresh-requires
fresh-requires g c = c.requires.0.after.locals

pub returns-then-not-fresh : goal.returns-then-not-fresh
returns-then-not-fresh g c = record { states = L.declare_again _ _ _ _ _ _ _ _ _ _ _ c.first_expression.ensures _ c.in_ok-ty.was c.declared_type.ensures (V.alike _ _ c.ne.ensures c.if-ne.false) c.fresh.ensures c.if-not-fresh.true; moves = M.stuck _ _ _ _ }

pub returns-then-local-ge-MOST_LOCALS : goal.returns-then-local-ge-MOST_LOCALS
returns-then-local-ge-MOST_LOCALS g c = record { states = L.declare_many _ _ _ _ _ _ _ _ _ _ _ c.first_expression.ensures _ c.in_ok-ty.was c.declared_type.ensures (V.alike _ _ c.ne.ensures c.if-ne.false) c.fresh.ensures c.if-not-fresh.false c.if-local-ge-MOST_LOCALS.true; moves = M.stuck _ _ _ _ }

pub enter-requires : goal.enter-requires
enter-requires g c = (c.requires.0.after.locals, c.requires.1)

pub header_of_one-requires : goal.header_of_one-requires
header_of_one-requires g c = omega (arith, c.requires.0.header, c.first_expression.auto.core)

pub overflow_add-result : goal.overflow_add-result
overflow_add-result g c = omega (arith, c.requires.0.after.locals)

pub returns : goal.returns
returns g c = record { states = L.declare_next _ _ _ _ _ _ _ _ _ _ _ c.first_expression.ensures _ c.in_ok-ty.was c.declared_type.ensures (V.alike _ _ c.ne.ensures c.if-ne.false) c.fresh.ensures c.if-not-fresh.false c.if-local-ge-MOST_LOCALS.false c.enter.ensures c.header_of_one.ensures; moves = M.one_more _ _ c.if-local-ge-MOST_LOCALS.false c.enter.ensures }
