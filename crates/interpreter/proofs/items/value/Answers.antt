-- The value is pushed, and nothing is skipped.
use Rattle.interpreter.proofs.Moving as L
use Rattle.interpreter.proofs.items.value.Goals as goal

pub returns-in_err-h : goal.returns-in_err-h
returns-in_err-h c = λ arrays. L.move_err c.requires _ c.from_residual.ensures.1 (L.move_number c.requires _ c.in_err-h.ensures)

pub returns : goal.returns
returns c = λ arrays. L.move_number c.requires _ c.in_ok-h.ensures
