-- By the number that is read.
use mathlib.Core.Path.{ap, ◌∙◌}
use Rattle.rules.specs.Values.{meant}
use Rattle.rules.proofs.Valued as L
use Rattle.rules.proofs.types.value_type.Goals as goal

pub returns : goal.returns
returns c = ap meant c.unwrap_or.ensures ∙ L.type_read c.args.number c.try_from.result c.try_from.ensures
