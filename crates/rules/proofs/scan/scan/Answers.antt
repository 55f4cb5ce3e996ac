-- What was written so far, and what is left says the rest.
use native.Mathlib.Omega.{arith}
use Rattle.rules.proofs.Scanning as L
use Rattle.rules.proofs.scan.scan.Goals as goal

pub loop-i-init : goal.loop-i-init
loop-i-init g c = L.scan_starts _ _ _ _ _ _ _ _ _ _

pub overflow_cast-at : goal.overflow_cast-at
overflow_cast-at g c = omega arith

pub overflow_mul-at : goal.overflow_mul-at
overflow_mul-at g c = omega arith

pub overflow_add-at : goal.overflow_add-at
overflow_add-at g c = omega (arith, c.requires.place)

pub overflow_add-at-in-loop-i : goal.overflow_add-at-in-loop-i
overflow_add-at-in-loop-i g c = omega (arith, c.requires.place)

pub returns-then-program-at : goal.returns-then-program-at
returns-then-program-at g c = L.words_end c.loop-i.invariant c.loop-i-test.true c.if-program-at.true

pub overflow_mul-i : goal.overflow_mul-i
overflow_mul-i g c = omega (arith, c.requires.words, c.if-program-at.false, c.loop-i-test.true)

pub item_at-this-requires : goal.item_at-this-requires
item_at-this-requires g c = omega (arith, c.requires.words, c.if-program-at.false)

pub node-requires : goal.node-requires
node-requires g c = (c.requires.locals, omega (arith, c.loop-i.invariant.few, c.loop-i-test.true))

pub returns-in_default : goal.returns-in_default
returns-in_default g c = L.rule_broken c.loop-i.invariant c.loop-i-test.true c.if-program-at.false c.item_at-this.ensures.0 c.item_at-this.ensures.1 c.in_default.ensures

pub push-h-requires : goal.push-h-requires
push-h-requires g c = (omega (arith, c.requires.for_types, c.if-program-at.false, c.loop-i.invariant.few, c.loop-i.invariant.types), omega (arith, c.requires.for_starts, c.if-program-at.false, c.loop-i.invariant.few, c.loop-i.invariant.starts))

pub overflow_cast-i : goal.overflow_cast-i
overflow_cast-i g c = omega (arith, c.loop-i-test.true, c.ranges.n)

pub overflow_mul-i-in-loop-i : goal.overflow_mul-i-in-loop-i
overflow_mul-i-in-loop-i g c = omega (arith, c.loop-i-test.true, c.ranges.n)

pub overflow_add-spot : goal.overflow_add-spot
overflow_add-spot g c = omega (arith, c.requires.core_place, c.loop-i-test.true, c.ranges.n)

pub item-requires : goal.item-requires
item-requires g c = omega (arith, c.requires.for_core, c.if-program-at.false, L.core_kept c.loop-i.invariant)

pub overflow_mul-i-in-loop-i-2 : goal.overflow_mul-i-in-loop-i-2
overflow_mul-i-in-loop-i-2 g c = omega (arith, c.requires.words, c.if-program-at.false, c.loop-i-test.true)

pub overflow_add-i : goal.overflow_add-i
overflow_add-i g c = omega (arith, c.requires.words, c.if-program-at.false, c.loop-i-test.true)

pub charge-requires : goal.charge-requires
charge-requires g c = omega (arith, c.requires.for_core, c.if-program-at.false, L.core_kept c.loop-i.invariant, c.item.auto)

pub loop-i-preserved : goal.loop-i-preserved
loop-i-preserved g c = L.item_done c.loop-i.invariant c.loop-i-test.true c.if-program-at.false c.item_at-this.ensures.0 c.item_at-this.ensures.1 _ c.in-Some.ensures c.push-h.ensures c.item.ensures c.charge.ensures c.push-h.auto.types c.push-h.auto.starts

pub returns : goal.returns
returns g c = L.scan_ends c.loop-i.invariant c.loop-i-test.false
