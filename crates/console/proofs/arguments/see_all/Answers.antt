-- `see_all` meets its contract: what the rest gives from where the loop is, is what the whole gives.
use mathlib.Core.Path.{sym, ◌∙◌}
use Rattle.console.proofs.Arms.{err_is}
use Rattle.console.proofs.Folds.{see_on, see_off, see_out, said_bad, said_good}
use Rattle.console.proofs.arguments.see_all.Goals as goal

pub loop-i-preserved : goal.loop-i-preserved
loop-i-preserved c = see_on c.args.command c.args.words.now c.loop-i.i _ _ _ _ c.loop-i.invariant c.loop-i-test.true (sym c.in_ok-seen.was ∙ c.see.ensures)

pub returns : goal.returns
returns c = said_good c.args.command c.args.words.now _ _ (see_out c.args.command c.args.words.now c.loop-i.i _ _ c.loop-i.invariant c.loop-i-test.false) c.end.ensures

pub returns-in_err-seen : goal.returns-in_err-seen
returns-in_err-seen c = said_bad c.args.command c.args.words.now _ _ (see_off c.args.command c.args.words.now c.loop-i.i _ _ _ _ c.loop-i.invariant c.loop-i-test.true (sym c.in_err-seen.was ∙ c.see.ensures)) (err_is _ _ c.from_residual.ensures.1)
