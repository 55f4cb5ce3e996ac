-- `read_full` is safe and ends: what is left of the window grows less.
use lib.ListN.{length}
use Prim.Native.Nat.{◌-◌, ◌≤◌}
use mathlib.Core.Path.{◌≡◌}
use Rattle.console.proofs.lent.read_full.Given as goal

abbrev pub invariant-loop-done : goal.invariant-loop-done
invariant-loop-done g l = (l.done ≤ length l.window) × (length l.window ≡ length l.initial.window)

abbrev pub decreases-loop-done : goal.decreases-loop-done
decreases-loop-done g l = length l.window - l.done
