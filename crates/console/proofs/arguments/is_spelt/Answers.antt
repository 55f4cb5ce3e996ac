-- `is_spelt` meets its contract: the library's comparison is the definition's.
use mathlib.Core.Path.{◌∙◌}
use Rattle.console.proofs.Compared.{pointwise_same}
use Rattle.console.proofs.arguments.is_spelt.Goals as goal

pub returns : goal.returns
returns c = c.eq.ensures ∙ pointwise_same _ _
