-- `is_blank` meets its contract: the library's test is the definition's.
use mathlib.Core.Path.{◌∙◌}
use Rattle.console.proofs.Compared.{any_blank}
use Rattle.console.proofs.numbers.is_blank.Goals as goal

pub returns : goal.returns
returns c = c.contains.ensures.value ∙ any_blank _
