-- The bytes passed are the same.
use Rattle.rules.proofs.Looking as L
use Rattle.rules.proofs.names.same_name.Goals as goal

pub returns-then-x-y : goal.returns-then-x-y
returns-then-x-y c = L.differ_length _ _ _ _ _ c.if-x-y.true

pub loop-i-init : goal.loop-i-init
loop-i-init c = L.comparing_start _ _ _ _

pub returns-then-b-c : goal.returns-then-b-c
returns-then-b-c c = L.no_at c.loop-i.invariant c.loop-i-test.true c.byte-b.ensures c.byte-c.ensures c.if-b-c.true c.if-x-y.false

pub loop-i-preserved : goal.loop-i-preserved
loop-i-preserved c = L.comparing_next c.loop-i.invariant c.loop-i-test.true c.byte-b.ensures c.byte-c.ensures c.if-b-c.false

pub returns : goal.returns
returns c = L.end_at c.loop-i.invariant c.loop-i-test.false c.if-x-y.false
