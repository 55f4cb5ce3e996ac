-- `see_all` meets its contract: what the rest gives from where the loop is, is what the whole gives.
use mathlib.Core.Path.{◌≡◌}
use Prim.Native.Nat.{◌+◌}
use lib.ListN.{drop}
use Rattle.console.specs.Table.{see_all, fresh, line}
use Rattle.console.proofs.table.see_all.Given as goal

abbrev pub invariant-loop-i : goal.invariant-loop-i
invariant-loop-i l = see_all l.command l.places 2 (line fresh l.initial.given) ≡ see_all l.command (drop l.i l.places) (l.i + 2) (line l.seen l.given)
