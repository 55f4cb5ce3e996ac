-- `check` meets its contract: 6 where working room is short, else what `accept` says.
use Rattle.toolchain.proofs.Answering.{accepted_with}
use Rattle.toolchain.specs.Checking.{Enough, declined}
use Rattle.std.proofs.lemmas.Result.{err_from_is_err_and}
use mathlib.Core.Path.{subst}
use Rattle.toolchain.proofs.check.check.Goals as goal

pub returns-in_err-accept : goal.returns-in_err-accept
returns-in_err-accept c =
    let p = err_from_is_err_and c.from_residual-in_err-accept.result c.from_residual-in_err-accept.ensures.1 in
    rw (p.1, p.2) (record { answers = λ e. declined c.in_err-accept.ensures.by; short = λ h. absurd (h (subst Enough c.of.ensures c.in_ok-suffices.ensures)) })

pub returns : goal.returns
returns c = record { answers = λ e. accepted_with c.in_ok-accept.ensures.by c.elements.ensures; short = λ h. absurd (h (subst Enough c.of.ensures c.in_ok-suffices.ensures)) }
