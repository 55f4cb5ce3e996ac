-- What was read so far, and how many.
use Prim.Native.Nat.{◌-◌}
use mathlib.Core.Path.{◌≡◌}
use lib.ListN.{length}
use Rattle.grammar.specs.Parse.{param_list_of}
use Rattle.grammar.specs.Told.{params_form}
use Rattle.grammar.proofs.Steps.{Going}
use Rattle.grammar.proofs.program.params.Given as goal

abbrev pub invariant-loop-count : goal.invariant-loop-count
invariant-loop-count l = (Going params_form (λ tok. param_list_of tok 65536 l.from) (λ tok. param_list_of tok (65536 - l.count) l.i) l.ts.words.now l.ts.count l.initial.out l.from l.start l.i l.at l.count l.out) × (length l.out ≡ length l.initial.out)
