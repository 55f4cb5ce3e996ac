-- The bytes passed are the same.
use Rattle.rules.proofs.Looking as L
use Prim.Native.Nat.{◌-◌}
use Rattle.rules.proofs.names.same_name.Given as goal

abbrev pub invariant-loop-i : goal.invariant-loop-i
invariant-loop-i l = L.Comparing l.text l.x.place l.y.place l.x.length l.i

abbrev pub decreases-loop-i : goal.decreases-loop-i
decreases-loop-i l = l.x.length - l.i
