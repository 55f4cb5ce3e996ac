-- By the test.
use native.Mathlib.Omega.{arith}
use borrow.Author.Tests.{le-leb, lt-leb}
use Rattle.compiler.proofs.calls.position.Goals as goal

pub returns-then-n-le-MOST_INSTRUCTIONS : goal.returns-then-n-le-MOST_INSTRUCTIONS
returns-then-n-le-MOST_INSTRUCTIONS c = record { value = rw (le-leb _ _ c.if-n-le-MOST_INSTRUCTIONS.true); within = omega arith }

pub returns-else-n-le-MOST_INSTRUCTIONS : goal.returns-else-n-le-MOST_INSTRUCTIONS
returns-else-n-le-MOST_INSTRUCTIONS c = record { value = rw (lt-leb c.args.n 131072 (omega (arith, c.if-n-le-MOST_INSTRUCTIONS.false))); within = omega arith }
