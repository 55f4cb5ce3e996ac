-- The operator's value takes the operand's place, or it stops.
use Rattle.interpreter.proofs.Moving as L
use Rattle.interpreter.proofs.items.one_side.Goals as goal

pub returns-in_err-v : goal.returns-in_err-v
returns-in_err-v c = λ arrays. L.move_err c.requires _ c.from_residual.ensures.1 (L.unary_stops c.requires c.top.ensures c.in_err-v.ensures)

pub returns-in_err-h : goal.returns-in_err-h
returns-in_err-h c = λ arrays. L.move_err c.requires _ c.from_residual-in_err-h.ensures.1 (L.move_unary c.requires _ c.top.ensures c.in_ok-v.ensures c.saturating_sub.ensures c.in_err-h.ensures)

pub returns : goal.returns
returns c = λ arrays. L.move_unary c.requires _ c.top.ensures c.in_ok-v.ensures c.saturating_sub.ensures c.in_ok-h.ensures
