-- `is_digit` meets its contract: the library's test is the definition's.
use mathlib.Core.Path.{◌∙◌}
use Rattle.console.proofs.Compared.{in_digits}
use Rattle.console.proofs.numbers.is_digit.Goals as goal

pub returns : goal.returns
returns c = c.is_ascii_digit.ensures.value ∙ in_digits _
