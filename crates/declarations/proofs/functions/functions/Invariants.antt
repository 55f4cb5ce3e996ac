-- The functions before p are in the core's rows, and what is left gives the rest.
use mathlib.Core.Path.{◌≡◌}
use Prim.Native.Nat.{◌-◌}
use lib.ListN.{length}
use Rattle.rules.specs.Values.{globals_of}
use Rattle.declarations.proofs.Filling as L
use Rattle.declarations.proofs.functions.functions.Given as goal

abbrev pub invariant-loop-p : goal.invariant-loop-p
invariant-loop-p l = L.Filling l.program.text.now l.program.tree.now l.words (globals_of l.program) l.total l.initial.core l.p l.reached.core l.reached.functions l.core × (length l.locals ≡ length l.initial.locals) × (length l.types ≡ length l.initial.types) × (length l.starts ≡ length l.initial.starts) × (length l.core ≡ length l.initial.core)

abbrev pub decreases-loop-p : goal.decreases-loop-p
decreases-loop-p l = l.words - l.p
