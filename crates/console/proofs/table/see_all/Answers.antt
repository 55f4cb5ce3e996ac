-- `see_all` meets its contract: what the rest gives from where the loop is, is what the whole gives.
use Rattle.console.proofs.Folds.{line_on, line_out, line_said}
use Rattle.console.proofs.table.see_all.Goals as goal

pub loop-i-preserved : goal.loop-i-preserved
loop-i-preserved c = line_on c.args.command c.args.places.now c.loop-i.i _ _ _ c.loop-i.invariant c.loop-i-test.true c.see-seen.ensures

pub returns : goal.returns
returns c = line_said c.args.command c.args.places.now c.args.given.now c.end.result _ (line_out c.args.command c.args.places.now c.loop-i.i _ _ c.loop-i.invariant c.loop-i-test.false) c.end.ensures
