-- By the function that is found.
use mathlib.Core.Path.{ap, ◌∙◌}
use Rattle.rules.specs.Values.{made}
use Rattle.rules.proofs.Running as L
use Rattle.rules.proofs.calls.dropped.Goals as goal

pub returns-in_err-f : goal.returns-in_err-f
returns-in_err-f g c = ap made c.from_residual.ensures ∙ L.no_function _ _ _ _ _ _ c.in_err-f.ensures.is

pub returns : goal.returns
returns g c = L.drops _ _ _ _ _ _ c.in_ok-f.ensures.is c.arguments.ensures
