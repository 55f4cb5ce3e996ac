-- `limit_for` meets its contract: the test is the definition's.
use native.Mathlib.Omega.{arith}
use Prim.Native.Nat.{◌+◌, ◌*◌}
use borrow.Author.Tests.{le-leb, lt-leb}
use Rattle.codegen.specs.Costs.{costs}
use Rattle.agreement.specs.Agreement.{limit_of, most_steps}
use Rattle.doorlang.proofs.compare.limit_for.Goals as goal

pub returns-then-used : goal.returns-then-used
unfolding limit_of
returns-then-used c = rw (le-leb (costs.K * c.args.used + costs.K0) most_steps (omega arith))

pub returns-else-used : goal.returns-else-used
unfolding limit_of
returns-else-used c = rw (lt-leb (costs.K * c.args.used + costs.K0) most_steps (omega arith))
