-- Between the start and the scan lie as many things as are still needed.
use native.Mathlib.Omega.{arith}
use Rattle.compiler.proofs.Scanning.{scanning_start, scanning_none, scanning_next, scanning_end, scanning_broken}
use Rattle.compiler.proofs.items.start_of.Goals as goal

pub returns-then-end-lt4 : goal.returns-then-end-lt4
returns-then-end-lt4 c = record { starts = scanning_none c.if-end-lt4.true; within = omega arith }

pub loop-need-init : goal.loop-need-init
loop-need-init c = (scanning_start c.operands-need.ensures, omega arith, omega arith)

pub returns-then-p-lt4 : goal.returns-then-p-lt4
returns-then-p-lt4 c = record { starts = scanning_broken c.loop-need.invariant.0 c.loop-need-test.true c.if-p-lt4.true; within = omega arith }

pub loop-need-preserved : goal.loop-need-preserved
loop-need-preserved c = (scanning_next c.loop-need.invariant.0 c.loop-need-test.true c.operands.ensures, omega arith, omega arith)

pub returns : goal.returns
returns c = record { starts = scanning_end c.loop-need.invariant.0 (omega (arith, c.loop-need-test.false)); within = omega arith }
