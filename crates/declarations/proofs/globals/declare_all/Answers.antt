-- What is left declares the rest.
use mathlib.Core.Path.{refl, ◌∙◌}
use native.Mathlib.Omega.{arith}
use Rattle.declarations.proofs.Declaring as L
use Rattle.declarations.proofs.Standing.{further}
use Rattle.rules.proofs.Valued as V
use Rattle.declarations.proofs.globals.declare_all.Goals as goal

pub loop-p-init : goal.loop-p-init
loop-p-init c = (L.declaring_start _ _ _ _, refl)

pub declare-requires : goal.declare-requires
declare-requires c = (omega (arith, c.requires.0, c.loop-p.invariant.1), omega (arith, c.requires.1, c.loop-p-test.true), c.loop-p.invariant.0.few)

pub returns-in_err-tally : goal.returns-in_err-tally
returns-in_err-tally c = rw (V.passed _ c.from_residual.ensures.1) (L.declaring_fault c.loop-p.invariant.0 c.loop-p-test.true c.in_err-tally.was c.declare.ensures)

pub next-p-requires : goal.next-p-requires
next-p-requires c = omega (arith, c.requires.1, c.loop-p-test.true)

pub loop-p-smaller : goal.loop-p-smaller
loop-p-smaller c = omega (arith, c.loop-p-test.true, further _ _ c.next-p.ensures)

pub loop-p-preserved : goal.loop-p-preserved
loop-p-preserved c = (L.declaring_next c.loop-p.invariant.0 c.loop-p-test.true c.in_ok-tally.was c.declare.ensures c.next-p.ensures, c.declare.auto.globals ∙ c.loop-p.invariant.1)

pub returns : goal.returns
returns c = L.declaring_end c.loop-p.invariant.0 c.loop-p-test.false
