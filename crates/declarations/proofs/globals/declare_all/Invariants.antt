-- What is left declares the rest.
use mathlib.Core.Path.{◌≡◌}
use Prim.Native.Nat.{◌-◌}
use lib.ListN.{length}
use Rattle.declarations.proofs.Declaring as L
use Rattle.declarations.proofs.globals.declare_all.Given as goal

abbrev pub invariant-loop-p : goal.invariant-loop-p
invariant-loop-p l = L.Declaring l.text l.tree l.words l.p l.globals l.tally.arrays l.tally.elements l.tally.functions × (length l.globals ≡ length l.initial.globals)

abbrev pub decreases-loop-p : goal.decreases-loop-p
decreases-loop-p l = l.words - l.p
