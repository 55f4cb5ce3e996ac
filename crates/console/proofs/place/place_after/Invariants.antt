-- `place_after` meets its contract: what the rest gives from where the loop is, is what the whole gives.
use mathlib.Core.Path.{◌≡◌}
use Prim.Native.Nat.{◌-◌, ◌+◌, ◌≤◌}
use lib.ListN.{length, drop}
use Rattle.console.specs.Places.{after_all}
use Rattle.console.proofs.place.place_after.Given as goal

abbrev pub invariant-loop-b : goal.invariant-loop-b
invariant-loop-b l = (after_all l.text l.initial.p ≡ after_all (drop l.b-index l.text) l.p) × (l.p.line ≤ l.b-index + 1) × (l.p.column ≤ l.b-index + 1) × (l.b-index ≤ length l.text)

abbrev pub decreases-loop-b : goal.decreases-loop-b
decreases-loop-b l = length l.text - l.b-index
