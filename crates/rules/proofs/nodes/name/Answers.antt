-- By the local that is found.
use mathlib.Core.Path.{ap, ◌∙◌}
use mathlib.Core.Option.{some}
use Rattle.rules.specs.Scan.{Node}
use Rattle.rules.specs.Values.{made}
use Rattle.rules.proofs.Making as L
use Rattle.rules.proofs.nodes.name.Goals as goal

pub returns-in_err-local : goal.returns-in_err-local
returns-in_err-local c = ap made c.from_residual.ensures ∙ L.no_name _ _ _ c.in_err-local.ensures

pub returns : goal.returns
returns c = ap (λ (n : Node). some n) c.leaf.ensures ∙ L.name_some _ _ _ c.in_ok-local.ensures
