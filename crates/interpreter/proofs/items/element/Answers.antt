-- The index is tested, and then the element is pushed in its place.
use Rattle.interpreter.proofs.Moving as L
use Rattle.interpreter.proofs.items.element.Goals as goal

pub returns-in_err-h : goal.returns-in_err-h
returns-in_err-h c = L.move_err c.requires _ c.from_residual.ensures.1 (L.move_element c.requires _ _ c.top-i.ensures c.if-i-size.true c.word-v.ensures c.saturating_sub.ensures c.in_err-h.ensures)

pub returns-then-i-size : goal.returns-then-i-size
returns-then-i-size c = L.move_element c.requires _ _ c.top-i.ensures c.if-i-size.true c.word-v.ensures c.saturating_sub.ensures c.in_ok-h.ensures

pub returns : goal.returns
returns c = L.element_outside c.requires _ c.top-i.ensures c.if-i-size.false
