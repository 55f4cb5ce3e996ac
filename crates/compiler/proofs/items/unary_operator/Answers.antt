-- The table's operator, or its last.
use mathlib.Core.Path.{ap, ◌∙◌}
use Rattle.flat.specs.Numbers.{unary_of}
use Rattle.compiler.specs.Post.{unary_of_number}
use Rattle.compiler.proofs.Numbered.{unary_or_last}
use Rattle.compiler.proofs.items.unary_operator.Goals as goal

pub returns : goal.returns
returns c = ap unary_of c.unwrap_or.ensures ∙ unary_or_last c.try_from.result _ c.try_from.ensures ∙ ap unary_of_number c.word-number.ensures
