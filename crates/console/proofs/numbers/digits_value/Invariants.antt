-- `digits_value` meets its contract: the digits read so far and those that are left mean the number.
use mathlib.Core.Path.{◌≡◌}
use Prim.Native.Nat.{◌-◌, ◌≤◌}
use lib.ListN.{length, drop}
use Rattle.language.specs.Tokens.{decimal}
use Rattle.console.proofs.numbers.digits_value.Given as goal

abbrev pub invariant-loop-b : goal.invariant-loop-b
invariant-loop-b l = (decimal 0 l.word ≡ decimal l.n (drop l.b-index l.word)) × (l.n ≤ l.most) × (l.b-index ≤ length l.word)

abbrev pub decreases-loop-b : goal.decreases-loop-b
decreases-loop-b l = length l.word - l.b-index
