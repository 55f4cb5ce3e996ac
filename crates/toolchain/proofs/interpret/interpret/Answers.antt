-- `interpret` meets its contract: 6 where working room is short, else what `accept` says, and the run of the program's words.
use Rattle.toolchain.specs.Interpretation.{Interprets, no_work, no_program}
use Rattle.toolchain.specs.Checking.{Enough}
use Rattle.std.proofs.lemmas.Result.{err_from_is_err_and}
use mathlib.Core.Path.{refl, sym, subst}
use Rattle.toolchain.proofs.interpret.interpret.Goals as goal

pub returns-in_err-suffices : goal.returns-in_err-suffices
unfolding Interprets
returns-in_err-suffices c =
    let p = err_from_is_err_and c.from_residual.result c.from_residual.ensures.1 in
    rw (p.1, p.2, c.in_err-suffices.ensures.0) (no_work (λ (e : Enough _). c.in_err-suffices.ensures.1 (subst Enough (sym c.of.ensures) e)), refl)

pub returns-in_err-accept : goal.returns-in_err-accept
unfolding Interprets
returns-in_err-accept c =
    let p = err_from_is_err_and c.from_residual-in_err-accept.result c.from_residual-in_err-accept.ensures.1 in
    rw (p.1, p.2) (no_program (subst Enough c.of.ensures c.in_ok-suffices.ensures) c.in_err-accept.ensures.by, refl)

pub returns : goal.returns
returns c = c.run_words.ensures.by c.args.text.now _ _ (subst Enough c.of.ensures c.in_ok-suffices.ensures) c.in_ok-accept.ensures.by
