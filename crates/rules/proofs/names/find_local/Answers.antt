-- No entry above i has the name.
use Rattle.rules.proofs.Looking as L
use mathlib.Core.Path.{refl}
use native.Mathlib.Omega.{arith}
use Rattle.rules.proofs.names.find_local.Goals as goal

pub loop-i-init : goal.loop-i-init
loop-i-init c = record { rest = refl; among = omega arith }

pub returns-then-same_name : goal.returns-then-same_name
returns-then-same_name c = L.local_found _ c.loop-i.invariant c.loop-i-test.true c.word-place.ensures c.word-length.ensures c.same_name.ensures _ (c.read.ensures c.args.text.now) c.if-same_name.true

pub loop-i-preserved : goal.loop-i-preserved
loop-i-preserved c = L.local_onward _ c.loop-i.invariant c.loop-i-test.true c.word-place.ensures c.word-length.ensures c.same_name.ensures c.if-same_name.false

pub returns : goal.returns
returns c = L.no_local _ c.loop-i.invariant c.loop-i-test.false
