-- The first word says which.
use mathlib.Core.Path.{refl}
use Rattle.grammar.proofs.Steps.{exits, yes, no}
use Rattle.grammar.proofs.ItemLaws.{item_array, item_function, item_none}
use Rattle.grammar.proofs.program.item_at.Goals as goal

pub returns-then-is : goal.returns-then-is
returns-then-is c = item_array _ refl (yes c.if-is.ensures.same) c.array.ensures

pub returns-in_err-expect : goal.returns-in_err-expect
returns-in_err-expect c = exits c.from_residual.ensures.1 c.in_err-expect.ensures.0 (item_none _ refl (no c.if-is.ensures.same) c.in_err-expect.ensures.1)

pub returns : goal.returns
returns c = item_function _ refl c.in_ok-expect.ensures.0 c.function.ensures
