-- A block goes on statement by statement; a statement's blocks stand behind its header, so that the words that are left grow fewer.
use mathlib.Core.Path.{refl, sym, ◌∙◌}
use Prim.Native.Nat.{◌+◌, ◌*◌}
use native.Mathlib.Omega.{arith}
use Rattle.rules.proofs.Valued as V
use Rattle.rules.proofs.Moving as M
use Rattle.rules.proofs.Heading.{header_room, block_room, stmt_on}
use Rattle.rules.proofs.Nesting as N
use Rattle.rules.proofs.Branching as B
use Rattle.rules.proofs.Blocking as L
use Rattle.rules.proofs.blocks.+block_branches_stmt.Goals as goal

pub block-loop-init : goal.block-loop-init
block-loop-init t c = (L.block_starts _ _ _ _ _ _ _ _ _ _ _ _ _ c.requires, refl)

pub block-overflow_add-here : goal.block-overflow_add-here
block-overflow_add-here t c = omega (arith, c.loop.invariant.0.near)

pub block-returns-then-program-here : goal.block-returns-then-program-here
block-returns-then-program-here t c = L.block_short c.loop.invariant.0 c.loop-test.true c.if-program-here.true

pub block-read-requires : goal.block-read-requires
block-read-requires t c = c.loop.invariant.0.near

pub block-returns-in_default : goal.block-returns-in_default
block-returns-in_default t c = L.block_odd c.loop.invariant.0 c.loop-test.true c.in_default.ensures

pub block-overflow_add-here-in-loop : goal.block-overflow_add-here-in-loop
block-overflow_add-here-in-loop t c = omega (arith, c.loop.invariant.0.near)

pub block-returns-then-program-here-2 : goal.block-returns-then-program-here-2
block-returns-then-program-here-2 t c = L.block_cut c.loop.invariant.0 c.loop-test.true c.in-Some.ensures c.if-program-here-2.true

pub block-stmt-requires : goal.block-stmt-requires
block-stmt-requires t c = (omega (arith, c.decreases, c.loop.invariant.0.far, c.if-program-here-2.false), (L.stmt_room c.loop.invariant.0 _ c.requires c.if-program-here-2.false, c.in-Some.ensures))

pub block-returns-in_err-here : goal.block-returns-in_err-here
block-returns-in_err-here t c = rw (V.passed _ c.from_residual.ensures.1) (L.block_stops c.loop.invariant.0 c.loop-test.true c.in-Some.ensures (L.in_scope _ c.loop.invariant.1 c.stmt.ensures.statement) c.stmt.ensures.moves c.in_err-here.was)

pub block-overflow_add-here-in-loop-2 : goal.block-overflow_add-here-in-loop-2
block-overflow_add-here-in-loop-2 t c = omega (arith, c.if-program-here-2.false, c.requires.room.words)

pub block-overflow_add-here-in-loop-3 : goal.block-overflow_add-here-in-loop-3
block-overflow_add-here-in-loop-3 t c = omega (arith, c.if-program-here-2.false, c.loop.invariant.0.apart, c.requires.room.words, c.requires.room.core_place)

pub block-loop-preserved : goal.block-loop-preserved
block-loop-preserved t c = (L.block_again c.loop.invariant.0 c.loop-test.true c.in-Some.ensures (L.in_scope _ c.loop.invariant.1 c.stmt.ensures.statement) c.stmt.ensures.moves c.in_ok-here.was c.requires.room.words c.if-program-here-2.false c.stmt.auto.locals c.stmt.auto.types c.stmt.auto.starts c.stmt.auto.core, c.loop.invariant.1)

pub block-returns : goal.block-returns
block-returns t c = L.block_ends c.loop.invariant.0 c.loop-test.false

pub branches-overflow_add-body : goal.branches-overflow_add-body
branches-overflow_add-body t c = omega (arith, c.requires.0.all.room.words, c.requires.0.whole, c.requires.1)

pub branches-overflow_add-body-2 : goal.branches-overflow_add-body-2
branches-overflow_add-body-2 t c = omega (arith, c.requires.0.all.room.words, c.requires.0.all.room.core_place, c.requires.0.whole, c.requires.1)

pub branches-block-requires : goal.branches-block-requires
branches-block-requires t c = (omega (arith, c.decreases, c.requires.0.whole, c.requires.1), block_room c.requires.0 (8 + 4 * c.args.head.first) _ _ (omega (arith, c.requires.1)) refl refl c.requires.0.all.visible c.requires.0.all.few refl refl refl refl)

pub branches-overflow_add-other : goal.branches-overflow_add-other
branches-overflow_add-other t c = omega (arith, c.requires.0.all.room.words, c.requires.0.whole, c.requires.1)

pub branches-overflow_add-other-2 : goal.branches-overflow_add-other-2
branches-overflow_add-other-2 t c = omega (arith, c.requires.0.all.room.words, c.requires.0.all.room.core_place, c.requires.0.whole, c.requires.1)

pub branches-block-requires-2 : goal.branches-block-requires-2
branches-block-requires-2 t c = (omega (arith, c.decreases, c.requires.0.whole, c.requires.1), block_room c.requires.0 (8 + 4 * c.args.head.first + c.args.head.size) _ _ (omega (arith, c.requires.1)) refl refl (omega (arith, c.requires.0.all.visible, (N.counted_so c.block.ensures c.in_ok-count.was).0)) (N.counted_so c.block.ensures c.in_ok-count.was).1 c.block.auto.locals c.block.auto.types c.block.auto.starts c.block.auto.core)

pub branches-returns : goal.branches-returns
branches-returns t c = B.both_blocks c.args.spot.tree c.args.spot.core (8 + 4 * c.args.head.first) (8 + 4 * c.args.head.first + c.args.head.size) _ c.block.ensures c.in_ok-count.was c.block-2.ensures

pub branches-returns-in_err-count : goal.branches-returns-in_err-count
branches-returns-in_err-count t c = rw (V.passed _ c.from_residual.ensures.1) (B.first_block c.args.spot.tree c.args.spot.core (8 + 4 * c.args.head.first) (8 + 4 * c.args.head.first + c.args.head.size) _ c.block.ensures c.in_err-count.was)

pub stmt-simple-requires : goal.stmt-simple-requires
stmt-simple-requires t c = c.requires

pub stmt-returns-then-not-holds_blocks : goal.stmt-returns-then-not-holds_blocks
stmt-returns-then-not-holds_blocks t c = record { statement = c.simple.ensures.statement (sym c.holds_blocks.ensures ∙ c.if-not-holds_blocks.true); moves = c.simple.ensures.moves }

pub stmt-returns-then-head : goal.stmt-returns-then-head
stmt-returns-then-head t c = record { statement = N.nest_short _ _ _ _ _ _ c.args.program.now.tree.now c.args.spot.tree _ _ c.requires.1 (sym c.holds_blocks.ensures ∙ c.if-not-holds_blocks.false) (omega (arith, c.if-head.true)); moves = M.stuck _ _ _ _ }

pub stmt-condition-requires : goal.stmt-condition-requires
stmt-condition-requires t c = (header_room c.requires.0).after

pub stmt-returns-in_err-condition : goal.stmt-returns-in_err-condition
stmt-returns-in_err-condition t c = rw (V.passed _ c.from_residual.ensures.1) (record { statement = N.test_fault _ _ _ _ _ _ c.args.program.now.tree.now c.args.spot.tree _ _ c.requires.1 (sym c.holds_blocks.ensures ∙ c.if-not-holds_blocks.false) c.condition.ensures c.in_err-condition.was; moves = M.stuck _ _ _ _ })

pub stmt-branches-requires : goal.stmt-branches-requires
stmt-branches-requires t c = (omega (arith, c.decreases), (stmt_on c.requires.0 c.condition.auto.types c.condition.auto.starts c.condition.auto.core, omega (arith, c.if-head.false)))

pub stmt-nest-requires : goal.stmt-nest-requires
stmt-nest-requires t c = omega (arith, (header_room c.requires.0).header, c.condition.auto.core, c.branches.auto.core)

pub stmt-returns : goal.stmt-returns
stmt-returns t c = record { statement = B.blocks_next _ _ _ _ _ _ c.args.program.now.tree.now c.args.spot.tree _ _ c.requires.1 (sym c.holds_blocks.ensures ∙ c.if-not-holds_blocks.false) c.condition.ensures c.in_ok-condition.was c.branches.ensures c.in_ok-count.was c.nest.ensures; moves = B.both_move c.branches.ensures c.in_ok-count.was }

pub stmt-returns-in_err-count : goal.stmt-returns-in_err-count
stmt-returns-in_err-count t c = rw (V.passed _ c.from_residual-in_err-count.ensures.1) (record { statement = B.blocks_fault _ _ _ _ _ _ c.args.program.now.tree.now c.args.spot.tree _ _ c.requires.1 (sym c.holds_blocks.ensures ∙ c.if-not-holds_blocks.false) c.condition.ensures c.in_ok-condition.was c.branches.ensures c.in_err-count.was; moves = B.stuck_moves c.branches.ensures _ })
