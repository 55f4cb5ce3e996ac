-- No entry above i has the name.
use mathlib.Core.Path.{refl}
use native.Mathlib.Omega.{arith}
use Rattle.rules.proofs.Looking as L
use Rattle.rules.proofs.program.Program.find_global.Goals as goal

pub loop-i-init : goal.loop-i-init
loop-i-init c = record { rest = refl; among = omega arith }

pub returns-then-same_name : goal.returns-then-same_name
returns-then-same_name c = L.global_found _ c.loop-i.invariant c.loop-i-test.true c.word-header.ensures c.word-place.ensures c.word-length.ensures c.same_name.ensures c.word-header.ensures c.word-value.ensures c.if-same_name.true

pub loop-i-preserved-else-same_name : goal.loop-i-preserved-else-same_name
loop-i-preserved-else-same_name c = L.global_onward _ c.loop-i.invariant c.loop-i-test.true c.word-header.ensures c.word-place.ensures c.word-length.ensures c.same_name.ensures c.if-same_name.false

-- a name of another length is another name, wherever it stands
pub loop-i-preserved : goal.loop-i-preserved
loop-i-preserved c = L.global_onward _ c.loop-i.invariant c.loop-i-test.true c.word-header.ensures refl c.word-length.ensures (L.differ_length _ _ _ _ _ c.if-length-name.false) refl

pub returns : goal.returns
returns c = L.no_global _ c.loop-i.invariant c.loop-i-test.false
