-- The types passed are the same.
use mathlib.Core.Path.{refl, ◌∙◌}
use Rattle.rules.proofs.Looking as L
use Rattle.rules.proofs.types.same_types.Goals as goal

pub loop-k-init : goal.loop-k-init
loop-k-init c = L.matching_start _ _ _ _ _

pub returns-then-not-same_type : goal.returns-then-not-same_type
returns-then-not-same_type c = L.matching_no c.loop-k.invariant c.loop-k-test.true (c.same_type.ensures ∙ rw (c.word-x.ensures, c.word-y.ensures) refl) c.if-not-same_type.true

pub loop-k-preserved : goal.loop-k-preserved
loop-k-preserved c = L.matching_next c.loop-k.invariant c.loop-k-test.true (c.same_type.ensures ∙ rw (c.word-x.ensures, c.word-y.ensures) refl) c.if-not-same_type.false

pub returns : goal.returns
returns c = L.matching_end c.loop-k.invariant c.loop-k-test.false
