-- What is left of the parameters enters the rest.
use mathlib.Core.Path.{refl, ◌∙◌}
use native.Mathlib.Omega.{arith}
use Rattle.rules.proofs.Valued as V
use Rattle.declarations.proofs.Taking as L
use Rattle.declarations.proofs.parameters.parameters.Goals as goal

pub loop-k-init : goal.loop-k-init
loop-k-init c = (L.taking_start _ _ _ _ _ _, refl)

pub overflow_mul-i : goal.overflow_mul-i
overflow_mul-i c = omega (arith, c.requires.2, c.loop-k-test.true)

pub overflow_add-i : goal.overflow_add-i
overflow_add-i c = omega (arith, c.requires.1, c.requires.2, c.loop-k-test.true)

pub overflow_add-i-in-loop-k : goal.overflow_add-i-in-loop-k
overflow_add-i-in-loop-k c = omega (arith, c.requires.1, c.requires.2, c.loop-k-test.true)

pub overflow_add-i-in-loop-k-2 : goal.overflow_add-i-in-loop-k-2
overflow_add-i-in-loop-k-2 c = omega (arith, c.requires.1, c.requires.2, c.loop-k-test.true)

pub fresh-requires : goal.fresh-requires
fresh-requires c = omega (arith, c.requires.2, c.loop-k-test.true)

pub returns-then-not-fresh : goal.returns-then-not-fresh
returns-then-not-fresh c = L.taking_known _ _ _ _ _ _ _ _ c.word-place.ensures c.word-length.ensures (V.through c.value_type-ty.ensures c.word.ensures) c.fresh.ensures c.loop-k.invariant.0 c.loop-k-test.true c.if-not-fresh.true

pub enter-requires : goal.enter-requires
enter-requires c = (omega (arith, c.requires.2, c.loop-k-test.true), omega (arith, c.requires.0, c.requires.2, c.loop-k-test.true, c.loop-k.invariant.1))

pub loop-k-preserved : goal.loop-k-preserved
loop-k-preserved c = (L.taking_next _ _ _ _ _ _ _ _ c.word-place.ensures c.word-length.ensures (V.through c.value_type-ty.ensures c.word.ensures) c.fresh.ensures c.loop-k.invariant.0 c.loop-k-test.true c.if-not-fresh.false c.enter.ensures, c.enter.auto.locals ∙ c.loop-k.invariant.1)

pub returns : goal.returns
returns c = L.taking_end c.loop-k.invariant.0 c.loop-k-test.false
