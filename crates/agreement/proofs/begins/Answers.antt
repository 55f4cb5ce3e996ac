-- `begins` meets its contract: the library's test is the definition's.
use mathlib.Core.Path.{◌∙◌}
use Rattle.agreement.proofs.Comparing.{starts_begins}
use Rattle.agreement.proofs.begins.Goals as goal

pub returns : goal.returns
returns c = c.starts_with.ensures.value ∙ starts_begins _ _
