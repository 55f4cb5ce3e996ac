-- The last argument first.
use native.Mathlib.Omega.{arith}
use Rattle.emission.proofs.Tapes.{after_one, after_two, untouched}
use Rattle.compiler.proofs.Calling.{passes_all, passes_next, passes_end}
use Rattle.compiler.proofs.calls.passes.Goals as goal

pub loop-i-init : goal.loop-i-init
loop-i-init c = (untouched passes_all, omega arith)

pub loop-i-preserved : goal.loop-i-preserved
loop-i-preserved c = (after_two c.loop-i.invariant.0 c.pass.ensures (passes_next (λ h. omega (arith, c.loop-i-test.true, h)) (omega (arith, c.requires, c.loop-i.invariant.1)) c.start_of-start.ensures.starts c.temporaries-before.ensures.weighs c.plus-below.ensures c.loop-i.invariant.0.says c.place_of-p.ensures c.pass.ensures.says), omega (arith, c.loop-i.invariant.1, c.start_of-start.ensures.within))

pub returns : goal.returns
returns c = after_one c.loop-i.invariant.0 (passes_end c.loop-i.invariant.0.says (omega (arith, c.loop-i-test.false)))
