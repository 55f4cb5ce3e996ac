-- Blocks and statements: each way through is a law of the parser; the measure counts the blocks that are left, and the calls of one block.
use mathlib.Core.Path.{refl, sym, ap, ◌∙◌}
use Rattle.grammar.proofs.Steps.{exits, yes, no, begun, room, room_at, room_on}
use Rattle.grammar.proofs.StmtLaws.{room_go, block_out, block_closed, block_deep, block_bad, block_open, block_done, stmts_out, stmts_end, stmts_bad, stmts_again, stmt_change, stmt_declare, stmt_if, stmt_while, stmt_return, stmt_emit, stmt_none, while_bad, while_body_bad, while_done, if_bad, if_first_bad, if_when, if_second_bad, if_choose}
use native.Mathlib.Omega.{arith}
use Rattle.tokens.proofs.KindNumbers.{other_number}
use Rattle.grammar.proofs.ExprLaws.{no_kind}
use Rattle.tokens.specs.Numbers.{number_of_kind}
use Rattle.grammar.proofs.statements.+block_choose_repeat_stmt_stmts.Goals as goal

pub block-returns-then-h-eq0 : goal.block-returns-then-h-eq0
block-returns-then-h-eq0 t c = block_out _ _ _ c.if-h-eq0.true

pub block-returns-in_err-expect : goal.block-returns-in_err-expect
block-returns-in_err-expect t c = exits c.from_residual.ensures.1 c.in_err-expect.ensures.0 (block_closed _ _ _ c.if-h-eq0.false refl c.in_err-expect.ensures.1)

pub block-returns-then-d-ge-MOST_OPEN : goal.block-returns-then-d-ge-MOST_OPEN
block-returns-then-d-ge-MOST_OPEN t c = block_deep _ _ _ c.if-h-eq0.false refl c.in_ok-expect.ensures.0 c.if-d-ge-MOST_OPEN.true

pub block-stmts-requires : goal.block-stmts-requires
block-stmts-requires t c = (omega arith, room_at _ _ c.requires (omega (arith, c.in_ok-expect.ensures.1)) (omega arith))

pub block-returns-in_err-body : goal.block-returns-in_err-body
block-returns-in_err-body t c = exits c.from_residual-in_err-body.ensures.1 refl (block_bad _ _ _ c.if-h-eq0.false refl c.in_ok-expect.ensures.0 c.if-d-ge-MOST_OPEN.false c.in_err-body.ensures.by)

pub block-returns-in_err-expect-2 : goal.block-returns-in_err-expect-2
block-returns-in_err-expect-2 t c = exits c.from_residual-in_err-expect-2.ensures.1 c.in_err-expect-2.ensures.0 (block_open _ _ _ c.if-h-eq0.false refl c.in_ok-expect.ensures.0 c.if-d-ge-MOST_OPEN.false c.in_ok-body.ensures.by refl c.in_err-expect-2.ensures.1)

pub block-returns : goal.block-returns
block-returns t c = block_done _ _ _ c.if-h-eq0.false refl c.in_ok-expect.ensures.0 c.if-d-ge-MOST_OPEN.false c.in_ok-body.ensures.by refl c.in_ok-expect-2.ensures.0 c.in_ok-expect-2.ensures.1

pub choose-level-requires : goal.choose-level-requires
choose-level-requires t c = (room_at _ _ c.requires.0 (omega (arith, c.requires.1)) (omega arith), omega arith)

pub choose-returns-in_err-test : goal.choose-returns-in_err-test
choose-returns-in_err-test t c = exits c.from_residual.ensures.1 refl (if_bad _ _ _ c.in_err-test.ensures.by)

pub choose-block-requires : goal.choose-block-requires
choose-block-requires t c = (omega arith, room_go c.requires.0 refl c.in_ok-test.ensures.by c.level.auto.out _ (omega arith) c.in_ok-test.ensures.by.within)

pub choose-returns-in_err-first : goal.choose-returns-in_err-first
choose-returns-in_err-first t c = exits c.from_residual-in_err-first.ensures.1 refl (if_first_bad _ _ _ c.in_ok-test.ensures.by c.in_err-first.ensures.by)

pub choose-put-requires : goal.choose-put-requires
choose-put-requires t c = omega (arith, c.requires.0.free, c.requires.1, c.level.auto.out, c.block.auto.out)

pub choose-returns-then-not-is : goal.choose-returns-then-not-is
choose-returns-then-not-is t c = if_when _ _ _ c.in_ok-test.ensures.by refl c.in_ok-first.ensures.by c.place-p.ensures refl refl refl (no c.if-not-is.ensures.same) c.put.ensures.written

pub choose-block-requires-2 : goal.choose-block-requires-2
choose-block-requires-2 t c = (omega arith, room_at _ _ (room (room_go c.requires.0 refl c.in_ok-test.ensures.by c.level.auto.out _ (omega arith) c.in_ok-test.ensures.by.within) c.in_ok-first.ensures.by c.block.auto.out) (omega (arith, c.if-not-is.ensures.there refl)) (omega arith))

pub choose-returns-in_err-second : goal.choose-returns-in_err-second
choose-returns-in_err-second t c = exits c.from_residual-in_err-second.ensures.1 refl (if_second_bad _ _ _ c.in_ok-test.ensures.by refl c.in_ok-first.ensures.by c.place-p.ensures refl refl refl (yes c.if-not-is.ensures.same) c.in_err-second.ensures.by)

pub choose-put-requires-2 : goal.choose-put-requires-2
choose-put-requires-2 t c = omega (arith, c.requires.0.free, c.requires.1, c.level.auto.out, c.block.auto.out, c.block-2.auto.out)

pub choose-returns : goal.choose-returns
choose-returns t c = if_choose _ _ _ c.in_ok-test.ensures.by refl c.in_ok-first.ensures.by c.place-p.ensures refl refl refl (yes c.if-not-is.ensures.same) c.in_ok-second.ensures.by refl refl c.put-2.ensures.written

pub repeat-level-requires : goal.repeat-level-requires
repeat-level-requires t c = (room_at _ _ c.requires.0 (omega (arith, c.requires.1)) (omega arith), omega arith)

pub repeat-returns-in_err-test : goal.repeat-returns-in_err-test
repeat-returns-in_err-test t c = exits c.from_residual.ensures.1 refl (while_bad _ _ _ c.in_err-test.ensures.by)

pub repeat-block-requires : goal.repeat-block-requires
repeat-block-requires t c = (omega arith, room_go c.requires.0 refl c.in_ok-test.ensures.by c.level.auto.out _ (omega arith) c.in_ok-test.ensures.by.within)

pub repeat-returns-in_err-body : goal.repeat-returns-in_err-body
repeat-returns-in_err-body t c = exits c.from_residual-in_err-body.ensures.1 refl (while_body_bad _ _ _ c.in_ok-test.ensures.by c.in_err-body.ensures.by)

pub repeat-put-requires : goal.repeat-put-requires
repeat-put-requires t c = omega (arith, c.requires.0.free, c.requires.1, c.level.auto.out, c.block.auto.out)

pub repeat-returns : goal.repeat-returns
repeat-returns t c = while_done _ _ _ c.in_ok-test.ensures.by refl c.in_ok-body.ensures.by c.place-p.ensures refl refl c.put.ensures.written

pub stmts-loop-count-init : goal.stmts-loop-count-init
stmts-loop-count-init t c = (begun c.requires.begins, refl)

pub stmts-returns-then-is : goal.stmts-returns-then-is
stmts-returns-then-is t c = stmts_end _ _ _ _ c.loop-count.invariant.0 (omega arith) (omega arith) refl (yes c.if-is.ensures.same)

pub stmts-stmt-requires : goal.stmts-stmt-requires
stmts-stmt-requires t c = (omega arith, room_on c.requires c.loop-count.invariant.0 c.loop-count.invariant.1)

pub stmts-returns-in_err-one : goal.stmts-returns-in_err-one
stmts-returns-in_err-one t c = exits c.from_residual.ensures.1 refl (stmts_bad _ _ _ _ c.loop-count.invariant.0 (omega arith) refl (no c.if-is.ensures.same) c.in_err-one.ensures.by)

pub stmts-loop-count-preserved : goal.stmts-loop-count-preserved
stmts-loop-count-preserved t c = (stmts_again _ _ _ _ c.loop-count.invariant.0 (omega arith) (omega arith) refl (no c.if-is.ensures.same) c.in_ok-one.ensures.by, c.stmt.auto.out ∙ c.loop-count.invariant.1)

pub stmts-returns : goal.stmts-returns
stmts-returns t c = stmts_out _ _ _ _ c.loop-count.invariant.0 (omega arith)

pub stmt-returns-in_default : goal.stmt-returns-in_default
stmt-returns-in_default t c = stmt_none _ _ _ refl (λ z. no_kind (c.in_default.ensures.none refl) z (omega arith) (omega arith)) (λ z. no_kind (c.in_default.ensures.none refl) z (omega arith) (omega arith)) (λ z. no_kind (c.in_default.ensures.none refl) z (omega arith) (omega arith)) (λ z. no_kind (c.in_default.ensures.none refl) z (omega arith) (omega arith)) (λ z. no_kind (c.in_default.ensures.none refl) z (omega arith) (omega arith)) (λ z. no_kind (c.in_default.ensures.none refl) z (omega arith) (omega arith))

pub stmt-change-requires : goal.stmt-change-requires
stmt-change-requires t c = (c.requires, c.in-Some.ensures.there refl, (c.in-Some.ensures.some ∙ ap number_of_kind c.in-Name.is))

pub stmt-declare-requires : goal.stmt-declare-requires
stmt-declare-requires t c = (c.requires, c.in-Some.ensures.there refl)

pub stmt-choose-requires : goal.stmt-choose-requires
stmt-choose-requires t c = (omega arith, (c.requires, c.in-Some.ensures.there refl))

pub stmt-repeat-requires : goal.stmt-repeat-requires
stmt-repeat-requires t c = (omega arith, (c.requires, c.in-Some.ensures.there refl))

pub stmt-give-requires : goal.stmt-give-requires
stmt-give-requires t c = (c.requires, c.in-Some.ensures.there refl)

pub stmt-single-requires : goal.stmt-single-requires
stmt-single-requires t c = (c.requires, c.in-Some.ensures.there refl)

pub stmt-returns-in-Name : goal.stmt-returns-in-Name
stmt-returns-in-Name t c = stmt_change _ _ _ refl (c.in-Some.ensures.some ∙ ap number_of_kind c.in-Name.is) c.change.ensures

pub stmt-returns-in-Let : goal.stmt-returns-in-Let
stmt-returns-in-Let t c = stmt_declare _ _ _ refl (c.in-Some.ensures.some ∙ ap number_of_kind c.in-Let.is) c.declare.ensures

pub stmt-returns-in-If : goal.stmt-returns-in-If
stmt-returns-in-If t c = stmt_if _ _ _ refl (c.in-Some.ensures.some ∙ ap number_of_kind c.in-If.is) c.choose.ensures

pub stmt-returns-in-While : goal.stmt-returns-in-While
stmt-returns-in-While t c = stmt_while _ _ _ refl (c.in-Some.ensures.some ∙ ap number_of_kind c.in-While.is) c.repeat.ensures

pub stmt-returns-in-Return : goal.stmt-returns-in-Return
stmt-returns-in-Return t c = stmt_return _ _ _ refl (c.in-Some.ensures.some ∙ ap number_of_kind c.in-Return.is) c.give.ensures

pub stmt-returns-in-Emit : goal.stmt-returns-in-Emit
stmt-returns-in-Emit t c = stmt_emit _ _ _ refl (c.in-Some.ensures.some ∙ ap number_of_kind c.in-Emit.is) c.place.ensures c.single.ensures

pub stmt-returns-in_default-kind : goal.stmt-returns-in_default-kind
stmt-returns-in_default-kind t c = stmt_none _ _ _ refl (λ z. other_number c.in_default-kind.not-Name (sym c.in-Some.ensures.some ∙ z)) (λ z. other_number c.in_default-kind.not-Let (sym c.in-Some.ensures.some ∙ z)) (λ z. other_number c.in_default-kind.not-If (sym c.in-Some.ensures.some ∙ z)) (λ z. other_number c.in_default-kind.not-While (sym c.in-Some.ensures.some ∙ z)) (λ z. other_number c.in_default-kind.not-Return (sym c.in-Some.ensures.some ∙ z)) (λ z. other_number c.in_default-kind.not-Emit (sym c.in-Some.ensures.some ∙ z))
