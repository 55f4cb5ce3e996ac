-- After i statements the rest stands where the next one does.
use native.Mathlib.Omega.{arith}
use Rattle.compiler.proofs.Stating.{skips_start, skips_next, skips_end, skips_far}
use Rattle.compiler.proofs.statements.skip.Goals as goal

pub loop-init : goal.loop-init
loop-init c = (skips_start, omega arith)

pub returns-then-q-gt-MOST_WORDS : goal.returns-then-q-gt-MOST_WORDS
returns-then-q-gt-MOST_WORDS c = record { skips = skips_far c.loop.invariant.0 c.loop-test.true c.if-q-gt-MOST_WORDS.true; within = c.loop.invariant.1 }

pub loop-preserved : goal.loop-preserved
loop-preserved c = (skips_next c.loop.invariant.0 c.word.ensures, omega (arith, c.loop.invariant.1))

pub returns : goal.returns
returns c = record { skips = skips_end c.loop.invariant.0 (omega (arith, c.loop-test.false)); within = c.loop.invariant.1 }
