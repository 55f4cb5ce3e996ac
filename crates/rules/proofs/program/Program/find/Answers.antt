-- No entry above i has the name.
use Rattle.rules.proofs.Looking as L
use Rattle.rules.proofs.program.Program.find.Goals as goal

pub loop-i-init : goal.loop-i-init
loop-i-init g c = L.seeking_starts _ _

pub returns-then-is_wanted : goal.returns-then-is_wanted
returns-then-is_wanted g c = L.sought_one _ c.loop-i.invariant c.loop-i-test.true c.word-h.ensures c.word-place.ensures c.word-length.ensures c.word-place.type_inv c.word-length.type_inv c.is_wanted.ensures c.read.ensures.header c.read.ensures.value c.if-is_wanted.true

pub loop-i-preserved : goal.loop-i-preserved
loop-i-preserved g c = L.sought_on _ c.loop-i.invariant c.loop-i-test.true c.word-h.ensures c.word-place.ensures c.word-length.ensures c.word-place.type_inv c.word-length.type_inv c.is_wanted.ensures c.if-is_wanted.false

pub returns : goal.returns
returns g c = L.sought_none _ c.loop-i.invariant c.loop-i-test.false
