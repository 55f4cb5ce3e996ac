-- A left side of 0 decides.
use Rattle.interpreter.proofs.Moving as L
use Rattle.interpreter.proofs.items.and.Goals as goal

pub returns-in_err-h : goal.returns-in_err-h
returns-in_err-h c = λ arrays. L.move_err c.requires _ c.from_residual.ensures.1 (L.and_decided c.requires _ _ c.top.ensures c.if-top-eq0.true c.saturating_sub-m.ensures c.in_err-h.ensures)

pub returns-then-top-eq0 : goal.returns-then-top-eq0
returns-then-top-eq0 c = λ arrays. L.and_decided c.requires _ _ c.top.ensures c.if-top-eq0.true c.saturating_sub-m.ensures c.in_ok-h.ensures

pub returns : goal.returns
returns c = λ arrays. L.and_open c.requires _ _ c.top.ensures c.if-top-eq0.false c.saturating_sub-m.ensures
