-- The last function first.
use mathlib.Core.Path.{refl}
use native.Mathlib.Omega.{arith}
use Rattle.emission.proofs.Tapes.{after_one, after_two, untouched}
use Rattle.compiler.proofs.Layouts.{going_start, going_next, going_end}
use Rattle.compiler.proofs.programs.bodies.Goals as goal

pub loop-f-init : goal.loop-f-init
loop-f-init c = (untouched going_start, refl)

pub is_near-near-requires : goal.is_near-near-requires
is_near-near-requires c = omega (arith, c.requires.0)

pub function-requires : goal.function-requires
function-requires c = (omega (arith, c.requires.0), omega (arith, c.requires.1, c.loop-f.invariant.0.within))

pub loop-f-preserved : goal.loop-f-preserved
loop-f-preserved c = (after_two c.loop-f.invariant.0 c.function.ensures (going_next c.loop-f.invariant.0.says (omega (arith, c.loop-f-test.true)) (omega arith) c.is_near-near.ensures c.function.ensures.says), omega (arith, c.loop-f.invariant.1, c.is_near-near.auto))

pub returns : goal.returns
returns c = after_one c.loop-f.invariant.0 (going_end c.loop-f.invariant.0.says (omega (arith, c.loop-f-test.false)))
