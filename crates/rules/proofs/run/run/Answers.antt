-- By the scan of the arguments, then by the function that is named and by their types.
use mathlib.Core.Path.{◌∙◌}
use Prim.Native.Nat.{◌*◌, ◌-◌}
use native.Mathlib.Omega.{arith}
use Rattle.rules.proofs.Valued as V
use Rattle.rules.proofs.Moving as M
use Rattle.rules.proofs.Heading.{header_room}
use Rattle.rules.proofs.Running as L
use Rattle.rules.proofs.run.run.Goals as goal

pub returns-then-head-eq0 : goal.returns-then-head-eq0
returns-then-head-eq0 g c = record { runs = L.run_empty c.if-head-eq0.true; moves = M.stuck _ _ _ _ }

pub overflow_sub-last : goal.overflow_sub-last
overflow_sub-last g c = omega (arith, c.if-head-eq0.false)

pub returns-then-head-last : goal.returns-then-head-last
returns-then-head-last g c = record { runs = L.run_short c.if-head-last.true; moves = M.stuck _ _ _ _ }

pub call_arguments-requires : goal.call_arguments-requires
call_arguments-requires g c = (c.requires, omega (arith, c.if-head-eq0.false))

pub overflow_add-spot : goal.overflow_add-spot
overflow_add-spot g c = omega (arith, c.requires.all.room.place)

pub overflow_add-spot-2 : goal.overflow_add-spot-2
overflow_add-spot-2 g c = omega (arith, c.requires.all.room.place)

pub overflow_add-spot-3 : goal.overflow_add-spot-3
overflow_add-spot-3 g c = omega (arith, c.requires.all.room.place)

pub dropped-requires : goal.dropped-requires
dropped-requires g c = omega (arith, L.few_left c.call_arguments.ensures c.in_ok-h.was, c.if-head-last.false, c.requires.whole, c.requires.all.room.words)

pub returns-in_default : goal.returns-in_default
returns-in_default g c = record { runs = L.run_wrong _ _ _ _ _ _ _ _ _ _ _ _ _ c.call_arguments.ensures (omega (arith, c.if-head-last.false, c.requires.whole, c.requires.all.room.words)) c.in_ok-h.was _ (c.word-n.ensures ∙ L.last_word c.args.program.now.tree.now c.args.spot.tree (4 * (c.args.head.first - 1))) c.in_default.ensures; moves = M.stuck _ _ _ _ }

pub overflow_add-spot-4 : goal.overflow_add-spot-4
overflow_add-spot-4 g c = omega (arith, c.requires.all.room.core_place, c.if-head-last.false, c.requires.whole, c.requires.all.room.words)

pub overflow_add-spot-5 : goal.overflow_add-spot-5
overflow_add-spot-5 g c = omega (arith, c.requires.all.room.core_place, c.if-head-last.false, c.requires.whole, c.requires.all.room.words)

pub item-requires : goal.item-requires
item-requires g c = omega (arith, c.if-head-last.false, c.requires.whole, c.requires.all.room.for_core, c.call_arguments.auto.core)

pub header_of_one-requires : goal.header_of_one-requires
header_of_one-requires g c = omega (arith, (header_room c.requires).header, c.call_arguments.auto.core, c.item.auto.core)

pub returns : goal.returns
returns g c = record { runs = L.run_next _ _ _ _ _ _ _ _ _ _ _ _ _ c.call_arguments.ensures (omega (arith, c.if-head-last.false, c.requires.whole, c.requires.all.room.words)) c.in_ok-h.was _ (c.word-n.ensures ∙ L.last_word c.args.program.now.tree.now c.args.spot.tree (4 * (c.args.head.first - 1))) _ c.in-Some.ensures c.item.ensures c.header_of_one.ensures; moves = M.stays _ _ _ }

pub returns-in_err-h : goal.returns-in_err-h
returns-in_err-h g c = rw (V.passed _ c.from_residual.ensures.1) (record { runs = L.args_fault _ _ _ _ _ _ _ _ _ _ _ _ _ c.call_arguments.ensures (omega (arith, c.if-head-last.false, c.requires.whole, c.requires.all.room.words)) c.in_err-h.was; moves = M.stuck _ _ _ _ })
