-- Each function of the cycle emits the code of what stands where it looks. Measures: how far the words may still go, then how many statements there are, then
-- who calls whom.
use Prim.Native.Nat.{◌-◌, ◌*◌, ◌+◌}
use Rattle.compiler.proofs.statements.+block_choose_statement_turns.Given as goal

abbrev pub decreases-block : goal.decreases-block
decreases-block l = (2147483648 - l.p) * 17179869184 + 2 * l.n + 1

abbrev pub decreases-choose : goal.decreases-choose
decreases-choose l = (2147483648 - l.p) * 17179869184 + 1

abbrev pub decreases-statement : goal.decreases-statement
decreases-statement l = (2147483648 - l.p) * 17179869184 + 2

abbrev pub decreases-turns : goal.decreases-turns
decreases-turns l = (2147483648 - l.p) * 17179869184 + 1
