-- What was read so far, and how many.
use Prim.Native.Nat.{◌-◌}
use mathlib.Core.Path.{◌≡◌}
use lib.ListN.{length}
use Rattle.grammar.specs.Parse.{items_of}
use Rattle.grammar.specs.Told.{items_form}
use Rattle.grammar.proofs.Steps.{Going}
use Rattle.grammar.proofs.program.items.Given as goal

abbrev pub invariant-loop-count : goal.invariant-loop-count
invariant-loop-count l = (Going items_form (λ tok. items_of tok l.ts.count 65537 0) (λ tok. items_of tok l.ts.count (65537 - l.count) l.i) l.ts.words.now l.ts.count l.initial.out 0 0 l.i l.at l.count l.out) × (length l.out ≡ length l.initial.out)
