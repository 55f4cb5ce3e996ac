-- The table's operator, or its last.
use mathlib.Core.Path.{ap, ◌∙◌}
use Rattle.flat.specs.Numbers.{strict_of}
use Rattle.compiler.specs.Post.{strict_of_number}
use Rattle.compiler.proofs.Numbered.{strict_or_last}
use Rattle.compiler.proofs.items.strict_operator.Goals as goal

pub returns : goal.returns
returns c = ap strict_of c.unwrap_or.ensures ∙ strict_or_last c.try_from.result _ c.try_from.ensures ∙ ap strict_of_number c.word-number.ensures
