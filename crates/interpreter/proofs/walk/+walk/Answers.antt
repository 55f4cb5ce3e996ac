-- Each function of the cycle computes the flat meaning of what its words decode to.
use Prim.Native.Nat.{ℕ, ◌-◌, ◌+◌}
use mathlib.Core.Path.{refl, ap}
use native.Mathlib.Omega.{arith}
use lib.ListN.{take, drop}
use lib.Seq.{length-take-le}
use Rattle.interpreter.proofs.Moving as M
use Rattle.interpreter.proofs.Changing as C
use Rattle.interpreter.proofs.Running as L
use Rattle.interpreter.proofs.walk.+walk.Goals as goal

pub act-returns-in_err-try_from-clause-acts : goal.act-returns-in_err-try_from-clause-acts
act-returns-in_err-try_from-clause-acts t c = L.is_unknown _ _ c.in_err-try_from.ensures.1 c.from_residual.ensures.1 (L.acts _ _ _ _ _ _ (M.move_unknown (L.frame c.requires.0 c.requires.1)))

pub act-returns-in-Number-clause-acts : goal.act-returns-in-Number-clause-acts
act-returns-in-Number-clause-acts t c = L.is_number _ _ c.in_ok-try_from.ensures c.in-Number.is (L.acts _ _ _ _ _ _ (c.value.ensures _))

pub act-returns-in-Local-clause-acts : goal.act-returns-in-Local-clause-acts
act-returns-in-Local-clause-acts t c = L.is_local _ _ c.in_ok-try_from.ensures c.in-Local.is (L.acts _ _ _ _ _ _ (M.move_local (L.frame c.requires.0 c.requires.1) _ c.local.ensures (c.value-in-Local.ensures _)))

pub act-returns-in-Element-clause-acts : goal.act-returns-in-Element-clause-acts
act-returns-in-Element-clause-acts t c = L.is_element _ _ c.in_ok-try_from.ensures c.in-Element.is (L.acts _ _ _ _ _ _ c.element.ensures)

pub act-returns-in-Call-clause-acts : goal.act-returns-in-Call-clause-acts
act-returns-in-Call-clause-acts t c = L.is_call _ _ c.in_ok-try_from.ensures c.in-Call.is c.enter.ensures.acts

pub act-returns-in-Unary-clause-acts : goal.act-returns-in-Unary-clause-acts
act-returns-in-Unary-clause-acts t c = L.is_unary _ _ c.in_ok-try_from.ensures c.in-Unary.is (L.acts _ _ _ _ _ _ (c.one_side.ensures _))

pub act-returns-in-Strict-clause-acts : goal.act-returns-in-Strict-clause-acts
act-returns-in-Strict-clause-acts t c = L.is_strict _ _ c.in_ok-try_from.ensures c.in-Strict.is (L.acts _ _ _ _ _ _ (c.two_sides.ensures _))

pub act-returns-in-And-clause-acts : goal.act-returns-in-And-clause-acts
act-returns-in-And-clause-acts t c = L.is_and _ _ c.in_ok-try_from.ensures c.in-And.is (L.acts _ _ _ _ _ _ (c.and.ensures _))

pub act-returns-in-Or-clause-acts : goal.act-returns-in-Or-clause-acts
act-returns-in-Or-clause-acts t c = L.is_or _ _ c.in_ok-try_from.ensures c.in-Or.is (L.acts _ _ _ _ _ _ (c.or.ensures _))

pub act-returns-in-Join-clause-acts : goal.act-returns-in-Join-clause-acts
act-returns-in-Join-clause-acts t c = L.is_join _ _ c.in_ok-try_from.ensures c.in-Join.is (L.acts _ _ _ _ _ _ (M.move_join (L.frame c.requires.0 c.requires.1)))

pub block-returns-then-depth-eq0-clause-blocks : goal.block-returns-then-depth-eq0-clause-blocks
block-returns-then-depth-eq0-clause-blocks t c = L.block_none _ _ _ _ _ _ _ _ c.if-depth-eq0.true

pub block-loop-init : goal.block-loop-init
block-loop-init t c = (L.blocking_start _ _ _ _ _ _ _ _ c.if-depth-eq0.false (omega arith), C.grows_same _ _ _)

pub block-returns-in_err-pay-clause-blocks : goal.block-returns-in_err-pay-clause-blocks
block-returns-in_err-pay-clause-blocks t c = L.block_dry c.loop.invariant.0 _ _ (omega (arith, c.loop-test.true)) c.from_residual.ensures.1 c.in_err-pay.ensures.paid.0 c.in_err-pay.ensures.paid.1.0 c.in_err-pay.ensures.paid.1.1 (ap (λ (n : ℕ). take n c.loop.log) c.pay.ensures.logged)

pub block-returns-in_err-v-clause-blocks : goal.block-returns-in_err-v-clause-blocks
block-returns-in_err-v-clause-blocks t c = L.block_stops c.loop.invariant.0 (omega (arith, c.loop-test.true)) c.in_ok-pay.ensures.paid.0 c.in_ok-pay.ensures.paid.1 (ap (λ (n : ℕ). take n c.loop.log) c.pay.ensures.logged) _ _ c.from_residual-in_err-v.ensures.1 c.in_err-v.ensures.execs

pub block-returns-in_err-v-clause-grows : goal.block-returns-in_err-v-clause-grows
block-returns-in_err-v-clause-grows t c = C.grows_on c.loop.invariant.1 (C.grows_from c.pay.ensures.logged c.stmt.ensures.grows)

pub block-returns-in-Some-clause-blocks : goal.block-returns-in-Some-clause-blocks
block-returns-in-Some-clause-blocks t c = L.block_returns c.loop.invariant.0 (omega (arith, c.loop-test.true)) c.in_ok-pay.ensures.paid.0 c.in_ok-pay.ensures.paid.1 (ap (λ (n : ℕ). take n c.loop.log) c.pay.ensures.logged) c.in_ok-v.ensures.execs c.in-Some.is

pub block-returns-in-Some-clause-grows : goal.block-returns-in-Some-clause-grows
block-returns-in-Some-clause-grows t c = C.grows_on c.loop.invariant.1 (C.grows_from c.pay.ensures.logged c.stmt.ensures.grows)

pub block-loop-preserved : goal.block-loop-preserved
block-loop-preserved t c = (L.block_next c.loop.invariant.0 (omega (arith, c.loop-test.true)) c.in_ok-pay.ensures.paid.0 c.in_ok-pay.ensures.paid.1 (ap (λ (n : ℕ). take n c.loop.log) c.pay.ensures.logged) c.in_ok-v.ensures.execs c.in_default.is (omega arith) c.after-p.ensures, C.grows_on c.loop.invariant.1 (C.grows_from c.pay.ensures.logged c.stmt.ensures.grows))

pub block-returns-clause-blocks : goal.block-returns-clause-blocks
block-returns-clause-blocks t c = L.block_end c.loop.invariant.0 (omega (arith, c.loop-test.false))

pub call-returns-then-this-eq0-clause-calls : goal.call-returns-then-this-eq0-clause-calls
call-returns-then-this-eq0-clause-calls t c = L.call_deep _ _ _ _ _ _ c.if-this-eq0.true

pub call-returns-then-locals-gt-MOST_LOCALS-clause-calls : goal.call-returns-then-locals-gt-MOST_LOCALS-clause-calls
call-returns-then-locals-gt-MOST_LOCALS-clause-calls t c = L.call_malformed _ _ _ _ _ _ _ c.if-this-eq0.false refl c.function-head.ensures (length-take-le c.args.n c.args.work.now c.requires.arguments) refl c.if-locals-gt-MOST_LOCALS.true

pub call-returns-in_err-returned-clause-calls : goal.call-returns-in_err-returned-clause-calls
call-returns-in_err-returned-clause-calls t c = L.call_stops _ _ _ _ _ _ _ c.if-this-eq0.false refl c.function-head.ensures (length-take-le c.args.n c.args.work.now c.requires.arguments) refl c.if-locals-gt-MOST_LOCALS.false c.clear.ensures _ c.from_residual.ensures.1 c.in_err-returned.ensures.blocks

pub call-returns-clause-calls : goal.call-returns-clause-calls
call-returns-clause-calls t c = L.call_body _ _ _ _ _ _ _ c.if-this-eq0.false refl c.function-head.ensures (length-take-le c.args.n c.args.work.now c.requires.arguments) refl c.if-locals-gt-MOST_LOCALS.false c.clear.ensures c.in_ok-returned.ensures.blocks c.unwrap_or.ensures

pub enter-returns-then-h-n-clause-acts : goal.enter-returns-then-h-n-clause-acts
enter-returns-then-h-n-clause-acts t c = L.enter_few _ _ _ _ _ _ _ _ _ c.if-h-n.true

pub enter-returns-in_err-v-clause-acts : goal.enter-returns-in_err-v-clause-acts
enter-returns-in_err-v-clause-acts t c = L.enter_stop _ _ _ _ _ _ _ _ _ c.if-h-n.false c.requires.1 (L.arguments_are c.args.work.now c.args.this.locals c.args.n c.args.h c.if-h-n.false (omega (arith, c.requires.0.locals, c.requires.1, c.requires.0.frames))) _ _ c.from_residual.ensures.1 c.in_err-v.ensures.calls

pub enter-returns-in_err-h-clause-acts : goal.enter-returns-in_err-h-clause-acts
enter-returns-in_err-h-clause-acts t c = L.act_err _ c.from_residual-in_err-h.ensures.1 (L.enter_back _ _ _ _ _ _ _ _ _ c.if-h-n.false c.requires.1 (L.arguments_are c.args.work.now c.args.this.locals c.args.n c.args.h c.if-h-n.false (omega (arith, c.requires.0.locals, c.requires.1, c.requires.0.frames))) c.in_ok-v.ensures.calls (L.part_below (c.args.this.locals + (c.args.h - c.args.n)) c.args.work.now _ (omega (arith, c.requires.0.locals, c.requires.1, c.requires.0.frames))) c.in_err-h.ensures)

pub enter-returns-clause-acts : goal.enter-returns-clause-acts
enter-returns-clause-acts t c = L.enter_back _ _ _ _ _ _ _ _ _ c.if-h-n.false c.requires.1 (L.arguments_are c.args.work.now c.args.this.locals c.args.n c.args.h c.if-h-n.false (omega (arith, c.requires.0.locals, c.requires.1, c.requires.0.frames))) c.in_ok-v.ensures.calls (L.part_below (c.args.this.locals + (c.args.h - c.args.n)) c.args.work.now _ (omega (arith, c.requires.0.locals, c.requires.1, c.requires.0.frames))) c.in_ok-h.ensures

pub one-returns-in_err-pay-clause-steps : goal.one-returns-in_err-pay-clause-steps
one-returns-in_err-pay-clause-steps t c = L.one_dry _ _ _ _ _ _ _ _ _ _ _ c.requires.1.1 _ _ _ _ c.item_at-i.ensures _ c.from_residual.ensures.1 c.in_err-pay.ensures.paid.0 c.in_err-pay.ensures.paid.1.0 c.in_err-pay.ensures.paid.1.1 (ap (λ (n : ℕ). take n c.args.log.now) c.pay.ensures.logged)

pub one-returns-in_err-m-clause-steps : goal.one-returns-in_err-m-clause-steps
one-returns-in_err-m-clause-steps t c = L.one_stops _ _ _ _ _ _ _ _ _ _ _ c.requires.1.1 _ _ _ _ c.item_at-i.ensures c.in_ok-pay.ensures.paid.0 c.in_ok-pay.ensures.paid.1 (ap (λ (n : ℕ). take n c.args.log.now) c.pay.ensures.logged) _ c.from_residual-in_err-m.ensures.1 c.in_err-m.ensures.acts

pub one-returns-clause-steps : goal.one-returns-clause-steps
one-returns-clause-steps t c = L.one_acts _ _ _ _ _ _ _ _ _ _ _ c.requires.1.1 _ _ _ _ c.item_at-i.ensures c.in_ok-pay.ensures.paid.0 c.in_ok-pay.ensures.paid.1 (ap (λ (n : ℕ). take n c.args.log.now) c.pay.ensures.logged) c.in_ok-m.ensures.acts c.past-at.ensures.0 c.past-at.ensures.1

pub scan-loop-at-init : goal.scan-loop-at-init
scan-loop-at-init t c = (L.scanning_start _ _ _ _ _ _ _ _, C.grows_same _ _ _)

pub scan-returns-in_err-step-clause-grows : goal.scan-returns-in_err-step-clause-grows
scan-returns-in_err-step-clause-grows t c = C.grows_on c.loop-at.invariant.1 c.one.ensures.grows

pub scan-loop-at-preserved : goal.scan-loop-at-preserved
scan-loop-at-preserved t c = (L.scanning_next c.loop-at.invariant.0 c.in_ok-step.ensures.steps, C.grows_on c.loop-at.invariant.1 c.one.ensures.grows)

pub scan-returns-clause-scans : goal.scan-returns-clause-scans
scan-returns-clause-scans t c = L.scanning_end c.loop-at.invariant.0 c.loop-at-test.false c.top.ensures

pub stmt-returns-in_err-try_from-clause-execs : goal.stmt-returns-in_err-try_from-clause-execs
stmt-returns-in_err-try_from-clause-execs t c = L.stmt_unknown _ _ _ _ _ _ _ _ c.field.ensures c.in_err-try_from.ensures.1 c.from_residual.ensures.1

pub stmt-returns-in_err-v-in-Put-clause-execs : goal.stmt-returns-in_err-v-in-Put-clause-execs
stmt-returns-in_err-v-in-Put-clause-execs t c = L.put_stops _ _ _ _ _ c.field.ensures c.in_ok-try_from.ensures c.first-first.ensures c.in_err-v-in-Put.ensures.scans _ _ c.in-Put.is c.from_residual-in_err-v-in-Put.ensures.1

pub stmt-returns-in_err-i-in-Store-clause-execs : goal.stmt-returns-in_err-i-in-Store-clause-execs
stmt-returns-in_err-i-in-Store-clause-execs t c = L.store_stops _ _ _ _ _ c.field.ensures c.in_ok-try_from.ensures c.first-first.ensures c.in_err-i-in-Store.ensures.scans _ _ c.in-Store.is c.from_residual-in_err-i-in-Store.ensures.1

pub stmt-returns-in_err-v-in-Choose-clause-execs : goal.stmt-returns-in_err-v-in-Choose-clause-execs
stmt-returns-in_err-v-in-Choose-clause-execs t c = L.choose_stops _ _ _ _ _ c.field.ensures c.in_ok-try_from.ensures c.first-first.ensures c.in_err-v-in-Choose.ensures.scans _ _ c.in-Choose.is c.from_residual-in_err-v-in-Choose.ensures.1

pub stmt-returns-in_err-scan-in-Give-clause-execs : goal.stmt-returns-in_err-scan-in-Give-clause-execs
stmt-returns-in_err-scan-in-Give-clause-execs t c = L.give_stops _ _ _ _ _ c.field.ensures c.in_ok-try_from.ensures c.first-first.ensures c.in_err-scan-in-Give.ensures.scans _ _ c.in-Give.is c.from_residual-in_err-scan-in-Give.ensures.1

pub stmt-returns-in_err-v-in-Emit-clause-execs : goal.stmt-returns-in_err-v-in-Emit-clause-execs
stmt-returns-in_err-v-in-Emit-clause-execs t c = L.emit_stops _ _ _ _ _ c.field.ensures c.in_ok-try_from.ensures c.first-first.ensures c.in_err-v-in-Emit.ensures.scans _ _ c.in-Emit.is c.from_residual-in_err-v-in-Emit.ensures.1

pub stmt-returns-in_err-scan-in-Run-clause-execs : goal.stmt-returns-in_err-scan-in-Run-clause-execs
stmt-returns-in_err-scan-in-Run-clause-execs t c = L.run_stops _ _ _ _ _ c.field.ensures c.in_ok-try_from.ensures c.first-first.ensures c.in_err-scan-in-Run.ensures.scans _ _ c.in-Run.is c.from_residual-in_err-scan-in-Run.ensures.1

pub stmt-returns-in_err-emit-in-Emit-clause-execs : goal.stmt-returns-in_err-emit-in-Emit-clause-execs
stmt-returns-in_err-emit-in-Emit-clause-execs t c = L.log_full _ _ _ _ _ c.field.ensures c.in_ok-try_from.ensures c.first-first.ensures c.in_ok-v-in-Emit.ensures.scans _ c.in-Emit.is (c.in_err-emit-in-Emit.ensures.by_index _) c.from_residual-in_err-emit-in-Emit.ensures.1

pub stmt-returns-in_err-emit-in-Emit-clause-grows : goal.stmt-returns-in_err-emit-in-Emit-clause-grows
stmt-returns-in_err-emit-in-Emit-clause-grows t c = C.grows_on c.scan-in-Emit.ensures.grows c.emit.ensures.grows

pub stmt-returns-in_ok-v-in-Put-clause-execs : goal.stmt-returns-in_ok-v-in-Put-clause-execs
stmt-returns-in_ok-v-in-Put-clause-execs t c = L.put_done _ _ _ _ _ c.field.ensures c.in_ok-try_from.ensures c.first-first.ensures c.in_ok-v-in-Put.ensures.scans c.in-Put.is c.field-in-Put.ensures c.assign.ensures

pub stmt-returns-in_ok-i-in-Store-clause-execs : goal.stmt-returns-in_ok-i-in-Store-clause-execs
stmt-returns-in_ok-i-in-Store-clause-execs t c = L.store_done _ _ _ _ _ c.field.ensures c.in_ok-try_from.ensures c.first-first.ensures c.in_ok-i-in-Store.ensures.scans c.in-Store.is c.store.ensures.stores

pub stmt-returns-in_ok-i-in-Store-clause-grows : goal.stmt-returns-in_ok-i-in-Store-clause-grows
stmt-returns-in_ok-i-in-Store-clause-grows t c = C.grows_on c.scan-in-Store.ensures.grows c.store.ensures.grows

pub stmt-returns-in_ok-v-in-Choose-clause-execs : goal.stmt-returns-in_ok-v-in-Choose-clause-execs
stmt-returns-in_ok-v-in-Choose-clause-execs t c = L.choose_done _ _ _ _ _ c.field.ensures c.in_ok-try_from.ensures c.first-first.ensures c.in_ok-v-in-Choose.ensures.scans c.in-Choose.is (c.chosen-chosen.ensures _) c.block.ensures.blocks

pub stmt-returns-in_ok-v-in-Choose-clause-grows : goal.stmt-returns-in_ok-v-in-Choose-clause-grows
stmt-returns-in_ok-v-in-Choose-clause-grows t c = C.grows_on c.scan-in-Choose.ensures.grows c.block.ensures.grows

pub stmt-returns-in-Leave-clause-execs : goal.stmt-returns-in-Leave-clause-execs
stmt-returns-in-Leave-clause-execs t c = L.stmt_leave _ _ _ _ _ c.field.ensures c.in_ok-try_from.ensures _ _ c.in-Leave.is

pub stmt-returns-in_ok-scan-in-Give-clause-execs : goal.stmt-returns-in_ok-scan-in-Give-clause-execs
stmt-returns-in_ok-scan-in-Give-clause-execs t c = L.give_done _ _ _ _ _ c.field.ensures c.in_ok-try_from.ensures c.first-first.ensures c.in_ok-scan-in-Give.ensures.scans c.in-Give.is

pub stmt-returns-in_ok-emit-in-Emit-clause-execs : goal.stmt-returns-in_ok-emit-in-Emit-clause-execs
stmt-returns-in_ok-emit-in-Emit-clause-execs t c = L.emit_done _ _ _ _ _ c.field.ensures c.in_ok-try_from.ensures c.first-first.ensures c.in_ok-v-in-Emit.ensures.scans c.in-Emit.is (c.in_ok-emit-in-Emit.ensures.by_index _)

pub stmt-returns-in_ok-emit-in-Emit-clause-grows : goal.stmt-returns-in_ok-emit-in-Emit-clause-grows
stmt-returns-in_ok-emit-in-Emit-clause-grows t c = C.grows_on c.scan-in-Emit.ensures.grows c.emit.ensures.grows

pub stmt-returns-in_ok-scan-in-Run-clause-execs : goal.stmt-returns-in_ok-scan-in-Run-clause-execs
stmt-returns-in_ok-scan-in-Run-clause-execs t c = L.run_done _ _ _ _ _ c.field.ensures c.in_ok-try_from.ensures c.first-first.ensures c.in_ok-scan-in-Run.ensures.scans c.in-Run.is

pub store-returns-in_err-v-clause-stores : goal.store-returns-in_err-v-clause-stores
store-returns-in_err-v-clause-stores t c = L.value_stops _ _ _ 0 _ c.second-second.ensures _ _ c.from_residual.ensures.1 c.in_err-v.ensures.scans

pub store-returns-then-i-size-clause-stores : goal.store-returns-then-i-size-clause-stores
store-returns-then-i-size-clause-stores t c = L.store_there _ _ _ 0 _ c.second-second.ensures c.in_ok-v.ensures.scans c.field-offset.ensures c.field-size.ensures c.if-i-size.true c.put.ensures

pub store-returns-clause-stores : goal.store-returns-clause-stores
store-returns-clause-stores t c = L.store_outside _ _ _ 0 _ c.second-second.ensures c.in_ok-v.ensures.scans c.field-size.ensures c.if-i-size.false

pub turns-loop-init : goal.turns-loop-init
turns-loop-init t c = (L.rounding_start _ _ _ _ _ _ _ _ _ _ (omega arith), C.grows_same _ _ _)

pub turns-returns-in_err-v-clause-execs : goal.turns-returns-in_err-v-clause-execs
turns-returns-in_err-v-clause-execs t c = L.loop_stops _ c.requires.1 c.first-condition.ensures (c.body-body.ensures _) c.loop.invariant.0 (omega (arith, c.loop-test.true)) _ _ c.from_residual.ensures.1 c.in_err-v.ensures.scans

pub turns-returns-in_err-v-clause-grows : goal.turns-returns-in_err-v-clause-grows
turns-returns-in_err-v-clause-grows t c = C.grows_on c.loop.invariant.1 c.scan.ensures.grows

pub turns-returns-then-v-eq0-clause-execs : goal.turns-returns-then-v-eq0-clause-execs
turns-returns-then-v-eq0-clause-execs t c = L.loop_end _ c.requires.1 c.first-condition.ensures (c.body-body.ensures _) c.loop.invariant.0 (omega (arith, c.loop-test.true)) c.in_ok-v.ensures.scans c.if-v-eq0.true

pub turns-returns-then-v-eq0-clause-grows : goal.turns-returns-then-v-eq0-clause-grows
turns-returns-then-v-eq0-clause-grows t c = C.grows_on c.loop.invariant.1 c.scan.ensures.grows

pub turns-returns-in_err-v-2-clause-execs : goal.turns-returns-in_err-v-2-clause-execs
turns-returns-in_err-v-2-clause-execs t c = L.body_stops _ c.requires.1 c.first-condition.ensures (c.body-body.ensures _) c.loop.invariant.0 (omega (arith, c.loop-test.true)) c.in_ok-v.ensures.scans c.if-v-eq0.false _ _ c.from_residual-in_err-v-2.ensures.1 c.in_err-v-2.ensures.blocks

pub turns-returns-in_err-v-2-clause-grows : goal.turns-returns-in_err-v-2-clause-grows
turns-returns-in_err-v-2-clause-grows t c = C.grows_on c.loop.invariant.1 (C.grows_on c.scan.ensures.grows c.block.ensures.grows)

pub turns-returns-in-Some-clause-execs : goal.turns-returns-in-Some-clause-execs
turns-returns-in-Some-clause-execs t c = L.body_returns _ c.requires.1 c.first-condition.ensures (c.body-body.ensures _) c.loop.invariant.0 (omega (arith, c.loop-test.true)) c.in_ok-v.ensures.scans c.if-v-eq0.false c.in_ok-v-2.ensures.blocks c.in-Some.is

pub turns-returns-in-Some-clause-grows : goal.turns-returns-in-Some-clause-grows
turns-returns-in-Some-clause-grows t c = C.grows_on c.loop.invariant.1 (C.grows_on c.scan.ensures.grows c.block.ensures.grows)

pub turns-loop-preserved : goal.turns-loop-preserved
turns-loop-preserved t c = (L.loop_again (drop c.args.p c.args.this.code.words.now) c.requires.1 c.first-condition.ensures (c.body-body.ensures _) c.loop.invariant.0 (omega (arith, c.loop-test.true)) c.in_ok-v.ensures.scans c.if-v-eq0.false c.in_ok-v-2.ensures.blocks c.in_default.is (omega arith), C.grows_on c.loop.invariant.1 (C.grows_on c.scan.ensures.grows c.block.ensures.grows))

pub turns-returns-clause-execs : goal.turns-returns-clause-execs
turns-returns-clause-execs t c = L.loop_dry _ c.requires.1 c.first-condition.ensures (c.body-body.ensures _) c.loop.invariant.0 _ (omega (arith, c.loop-test.false))

pub turns-returns-clause-grows : goal.turns-returns-clause-grows
turns-returns-clause-grows t c = c.loop.invariant.1
