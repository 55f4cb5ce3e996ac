-- A block goes on statement by statement; a statement's blocks stand behind its header, so that the words that are left grow fewer.
use mathlib.Core.Path.{◌≡◌}
use Prim.Native.Nat.{◌+◌, ◌*◌, ◌-◌}
use lib.ListN.{length}
use Rattle.rules.specs.Values.{result_in, globals_of}
use Rattle.rules.proofs.Blocking as L
use Rattle.rules.proofs.blocks.+block_branches_stmt.Given as goal

abbrev pub decreases-block : goal.decreases-block
decreases-block l = 3 * (length l.program.now.tree.now - l.spot.tree) + 2

abbrev pub decreases-branches : goal.decreases-branches
decreases-branches l = 3 * (length l.program.now.tree.now - l.spot.tree)

abbrev pub decreases-stmt : goal.decreases-stmt
decreases-stmt l = 3 * (length l.program.now.tree.now - l.spot.tree) + 1

abbrev pub invariant-block-loop : goal.invariant-block-loop
invariant-block-loop l = L.Blocking l.program.text.now (globals_of l.program) (result_in l.initial.here.result) l.program.tree.now l.n l.initial.here.tree l.initial.here.core l.initial.locals l.initial.here.scope.visible l.initial.here.scope.count l.initial.types l.initial.starts l.initial.core l.counter l.here.tree l.here.core l.here.scope.visible l.here.scope.count l.locals l.types l.starts l.core × (l.here.result ≡ l.initial.here.result)
