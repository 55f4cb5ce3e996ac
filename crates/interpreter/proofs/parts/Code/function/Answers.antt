-- The function's words are those of its entry.
use mathlib.Core.Path.{refl}
use Rattle.interpreter.proofs.Changing as L
use Rattle.interpreter.proofs.parts.Code.function.Goals as goal

pub returns-then-field-f : goal.returns-then-field-f
returns-then-field-f c = L.head_none _ _ c.field.ensures c.if-field-f.true

pub returns : goal.returns
returns c = L.head_there c.args.self.words.now c.args.f _ c.field.ensures c.if-field-f.false refl c.field-place.ensures c.field-n.ensures c.field-lets.ensures
