-- `see_all` meets its contract: what the rest gives from where the loop is, is what the whole gives.
use mathlib.Core.Path.{◌≡◌}
use Prim.Native.Nat.{◌+◌}
use lib.ListN.{drop}
use Rattle.console.specs.Arguments.{see_all, fresh}
use Rattle.console.proofs.arguments.see_all.Given as goal

abbrev pub invariant-loop-i : goal.invariant-loop-i
invariant-loop-i l = see_all l.command l.words 2 fresh ≡ see_all l.command (drop l.i l.words) (l.i + 2) l.seen
