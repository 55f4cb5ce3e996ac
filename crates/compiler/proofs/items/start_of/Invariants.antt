-- Between the start and the scan lie as many things as are still needed.
use Prim.Native.Nat.{◌≤◌, ◌+◌, ◌*◌}
use Rattle.compiler.proofs.Scanning.{Scanning}
use Rattle.compiler.proofs.items.start_of.Given as goal

abbrev pub invariant-loop-need : goal.invariant-loop-need
invariant-loop-need l = Scanning l.words l.end l.need l.p × (l.p + 4 ≤ l.end) × (l.need + l.p * 1073741824 ≤ l.end * 1073741824)

abbrev pub decreases-loop-need : goal.decreases-loop-need
decreases-loop-need l = l.p
