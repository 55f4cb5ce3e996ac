-- `read_bytes` meets its contract: what the rest gives from where the loop is, is what the whole gives.
use mathlib.Core.Path.{◌≡◌}
use Prim.Native.Nat.{◌-◌, ◌≤◌}
use lib.ListN.{length, drop}
use Rattle.console.specs.Numbers.{read_bytes, input}
use Rattle.console.proofs.numbers.read_bytes.Given as goal

abbrev pub invariant-loop-b : goal.invariant-loop-b
invariant-loop-b l = (read_bytes l.text (input l.initial.s l.initial.block) ≡ read_bytes (drop l.b-index l.text) (input l.s l.block)) × (length l.block ≡ length l.initial.block) × (l.b-index ≤ length l.text)

abbrev pub decreases-loop-b : goal.decreases-loop-b
decreases-loop-b l = length l.text - l.b-index
