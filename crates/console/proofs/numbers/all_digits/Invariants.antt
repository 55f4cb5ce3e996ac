-- `all_digits` meets its contract: what is left decides, from where the loop is.
use mathlib.Core.Path.{◌≡◌}
use Prim.Native.Nat.{◌-◌, ◌≤◌}
use lib.ListN.{length, drop}
use Rattle.language.specs.Tokens.{all, is_digit}
use Rattle.console.proofs.numbers.all_digits.Given as goal

abbrev pub invariant-loop-b : goal.invariant-loop-b
invariant-loop-b l = (all is_digit l.word ≡ all is_digit (drop l.b-index l.word)) × (l.b-index ≤ length l.word)

abbrev pub decreases-loop-b : goal.decreases-loop-b
decreases-loop-b l = length l.word - l.b-index
