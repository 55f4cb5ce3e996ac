-- The functions before p are in the core's rows, and what is left gives the rest.
use mathlib.Core.Path.{refl, ◌∙◌}
use native.Mathlib.Omega.{arith}
use Rattle.declarations.proofs.Filling as L
use Rattle.declarations.proofs.Rooms.{rooms_on, placed_at}
use Rattle.declarations.proofs.Standing.{further}
use Rattle.rules.proofs.Valued as V
use Rattle.declarations.proofs.functions.functions.Goals as goal

pub overflow_mul-reached : goal.overflow_mul-reached
overflow_mul-reached c = omega (arith, c.requires.2)

pub overflow_add-reached : goal.overflow_add-reached
overflow_add-reached c = omega (arith, c.requires.2)

pub loop-p-init : goal.loop-p-init
loop-p-init c = (L.filling_start _ _ _ _ _ _, refl, refl, refl, refl)

pub item-requires : goal.item-requires
item-requires c = (rooms_on c.requires.0 c.loop-p.invariant.1 c.loop-p.invariant.2 c.loop-p.invariant.3 c.loop-p.invariant.4, placed_at _ _ c.loop-p-test.true c.requires.1 c.requires.2 c.loop-p.invariant.0.place c.loop-p.invariant.0.entry_at)

pub returns-in_err-reached : goal.returns-in_err-reached
returns-in_err-reached c = rw (V.passed _ c.from_residual.ensures.1) (L.filling_fault _ _ _ _ _ _ _ _ _ _ c.loop-p.invariant.0 c.loop-p-test.true c.in_err-reached.was c.item.ensures)

pub next-p-requires : goal.next-p-requires
next-p-requires c = omega (arith, c.requires.1, c.loop-p-test.true)

pub loop-p-smaller : goal.loop-p-smaller
loop-p-smaller c = omega (arith, c.loop-p-test.true, further _ _ c.next-p.ensures)

pub loop-p-preserved : goal.loop-p-preserved
loop-p-preserved c = (L.filling_next _ _ _ _ _ _ _ _ _ _ c.loop-p.invariant.0 c.loop-p-test.true c.in_ok-reached.was c.item.ensures c.next-p.ensures, c.item.auto.locals ∙ c.loop-p.invariant.1, c.item.auto.types ∙ c.loop-p.invariant.2, c.item.auto.starts ∙ c.loop-p.invariant.3, c.item.auto.core ∙ c.loop-p.invariant.4)

pub returns : goal.returns
returns c = L.filling_end _ _ _ _ _ _ _ _ _ _ c.loop-p.invariant.0 c.loop-p-test.false c.requires.1 c.requires.2
