-- A block goes on statement by statement; the blocks of a choice stand behind its header, so that the words that are left grow fewer.
use Prim.Native.Nat.{◌+◌, ◌*◌, ◌-◌}
use lib.ListN.{length}
use Rattle.rules.proofs.Ending as L
use Rattle.rules.proofs.endings.+ends_in_return_returns.Given as goal

abbrev pub decreases-ends_in_return : goal.decreases-ends_in_return
decreases-ends_in_return l = 2 * (length l.tree.now - l.p) + 1

abbrev pub decreases-returns : goal.decreases-returns
decreases-returns l = 2 * (length l.tree.now - l.p)

abbrev pub invariant-ends_in_return-loop : goal.invariant-ends_in_return-loop
invariant-ends_in_return-loop l = L.Ending l.tree l.p l.n l.counter l.at l.ends
