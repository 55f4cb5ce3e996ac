-- None, or a type.
use Rattle.grammar.proofs.Steps.{exits_given, yes, no}
use Rattle.grammar.proofs.ItemLaws.{result_none, result_some}
use mathlib.Core.Path.{refl}
use Rattle.grammar.proofs.types.result.Goals as goal

pub returns-then-not-is : goal.returns-then-not-is
returns-then-not-is c = result_none _ refl (no c.if-not-is.ensures.same) c.requires

pub returns-in_err-typed : goal.returns-in_err-typed
returns-in_err-typed c = exits_given _ c.from_residual.ensures.1 refl (result_some _ refl (yes c.if-not-is.ensures.same) c.in_err-typed.ensures)

pub returns : goal.returns
returns c = result_some _ refl (yes c.if-not-is.ensures.same) c.in_ok-typed.ensures
