-- `tokens` meets its contract: what was read so far stands in the room, and what is left says the rest.
use Prim.Native.Nat.{◌-◌}
use lib.ListN.{length}
use Rattle.tokens.proofs.Going.{Going}
use Rattle.tokens.proofs.tokens.Given as goal

abbrev pub invariant-loop-i : goal.invariant-loop-i
invariant-loop-i l = Going l.text l.initial.room l.n l.i l.room

abbrev pub decreases-loop-i : goal.decreases-loop-i
decreases-loop-i l = length l.text - l.i
