-- None, or a list.
use mathlib.Core.Path.{refl}
use Rattle.grammar.proofs.Steps.{yes, no}
use Rattle.grammar.proofs.ItemLaws.{parameters_none, parameters_some}
use Rattle.grammar.proofs.program.parameters.Goals as goal

pub returns-then-is : goal.returns-then-is
returns-then-is c = parameters_none _ refl (yes c.if-is.ensures.same) c.requires.begins

pub returns : goal.returns
returns c = parameters_some _ refl (no c.if-is.ensures.same) c.params.ensures
