-- Function by function, each behind the one before it.
use Prim.Native.Nat.{◌≤◌}
use mathlib.Core.Path.{◌≡◌}
use lib.ListN.{length}
use Rattle.compiler.proofs.Layouts.{Laying}
use Rattle.compiler.proofs.programs.layout.Given as goal

abbrev pub invariant-loop-f : goal.invariant-loop-f
invariant-loop-f l = Laying l.words l.entries l.n l.f l.p × (l.p ≤ 131072) × (length l.entries ≡ length l.initial.entries) × (length l.scratch ≡ length l.initial.scratch)
