-- By the function that is found, and by its result type.
use mathlib.Core.Path.{ap, ◌∙◌}
use Rattle.rules.specs.Values.{made}
use Rattle.rules.proofs.Making as L
use Rattle.rules.proofs.calls.call.Goals as goal

pub returns-in_err-f : goal.returns-in_err-f
returns-in_err-f c = ap made c.from_residual.ensures ∙ L.no_callee _ _ _ _ _ _ _ c.in_err-f.ensures.is

pub returns-in_err-ty : goal.returns-in_err-ty
returns-in_err-ty c = ap made c.from_residual-in_err-ty.ensures ∙ L.no_result _ _ _ _ _ _ _ _ _ _ c.in_ok-f.ensures.is c.word.ensures c.in_err-ty.ensures

pub returns : goal.returns
returns c = L.with_result _ _ _ _ _ _ _ _ _ _ c.in_ok-f.ensures.is c.word.ensures c.in_ok-ty.ensures c.arguments.ensures
