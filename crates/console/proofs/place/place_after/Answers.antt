-- `place_after` meets its contract: what the rest gives from where the loop is, is what the whole gives.
use mathlib.Core.Path.{refl}
use native.Mathlib.Omega.{arith}
use Rattle.console.specs.Places.{place_after}
use Rattle.console.proofs.Folds.{place_on, place_out, after_small}
use Rattle.console.proofs.place.place_after.Goals as goal

pub loop-b-init : goal.loop-b-init
loop-b-init c = (refl, omega arith, omega arith, omega arith)

pub after-p-requires : goal.after-p-requires
after-p-requires c = (omega (arith, c.requires, c.loop-b.invariant.1), omega (arith, c.requires, c.loop-b.invariant.2))

pub loop-b-preserved : goal.loop-b-preserved
loop-b-preserved c = (place_on c.args.text.now c.loop-b.b-index _ _ _ c.loop-b.invariant.0 c.loop-b-test.true c.after-p.ensures, (after_small _ _ _ _ c.after-p.ensures c.loop-b.invariant.1 c.loop-b.invariant.2).0, (after_small _ _ _ _ c.after-p.ensures c.loop-b.invariant.1 c.loop-b.invariant.2).1, omega arith)

pub returns : goal.returns
unfolding place_after
returns c = place_out c.args.text.now c.loop-b.b-index _ _ c.loop-b.invariant.0 c.loop-b-test.false
