-- Function by function, each behind the one before it.
use mathlib.Core.Path.{refl}
use native.Mathlib.Omega.{arith}
use lib.ListN.{length-set}
use Rattle.compiler.proofs.Layouts.{laying_start, laying_past, laying_next, laying_long, laying_end}
use Rattle.compiler.proofs.programs.layout.Goals as goal

pub loop-f-init : goal.loop-f-init
loop-f-init c = (laying_start, omega arith, refl, refl)

pub loop-f-preserved-then-n-f : goal.loop-f-preserved-then-n-f
loop-f-preserved-then-n-f c = (laying_past c.loop-f.invariant.0 c.if-n-f.true (omega (arith, c.loop-f-test.true, c.loop-f.invariant.2)), c.loop-f.invariant.1, omega (arith, c.loop-f.invariant.2, length-set c.loop-f.entries c.loop-f.f c.loop-f.p), c.loop-f.invariant.3)

pub returns-then-p-gt-MOST : goal.returns-then-p-gt-MOST
returns-then-p-gt-MOST c = laying_long c.loop-f.invariant.0 (omega (arith, c.if-n-f.false)) c.length_of-p.ensures.lengths c.if-p-gt-MOST.true

pub loop-f-preserved : goal.loop-f-preserved
loop-f-preserved c = (laying_next c.loop-f.invariant.0 (omega (arith, c.if-n-f.false)) c.length_of-p.ensures.lengths (omega (arith, c.loop-f-test.true, c.loop-f.invariant.2)) (omega (arith, c.if-p-gt-MOST.false)), omega (arith, c.if-p-gt-MOST.false), omega (arith, c.loop-f.invariant.2, length-set c.loop-f.entries c.loop-f.f c.loop-f.p), omega (arith, c.loop-f.invariant.3, c.length_of-p.auto))

pub returns : goal.returns
returns c = laying_end c.loop-f.invariant.0 (omega (arith, c.loop-f-test.false, c.loop-f.invariant.2)) (omega (arith, c.requires.1, c.loop-f.invariant.2)) c.loop-f.invariant.1
