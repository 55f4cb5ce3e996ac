-- One of the two words.
use Rattle.grammar.proofs.Steps.{exits_typed, yes, no}
use Rattle.grammar.proofs.StmtLaws.{type_int, type_bool, type_none}
use mathlib.Core.Path.{refl}
use Rattle.grammar.proofs.types.type_at.Goals as goal

pub returns-then-is : goal.returns-then-is
returns-then-is c = type_int _ refl (yes c.if-is.ensures.same) (c.if-is.ensures.there refl)

pub returns-in_err-expect : goal.returns-in_err-expect
returns-in_err-expect c = exits_typed _ c.from_residual.ensures.1 c.in_err-expect.ensures.0 (type_none _ refl (no c.if-is.ensures.same) c.in_err-expect.ensures.1)

pub returns : goal.returns
returns c = type_bool _ refl c.in_ok-expect.ensures.0 c.in_ok-expect.ensures.1
