-- An array or a function, as long as there are tokens.
use mathlib.Core.Path.{refl, ◌∙◌}
use native.Mathlib.Omega.{arith}
use Rattle.grammar.proofs.Steps.{exits, begun, room_on}
use Rattle.grammar.proofs.ItemLaws.{items_out, items_end, items_bad, items_again}
use Rattle.grammar.proofs.program.items.Goals as goal

pub loop-count-init : goal.loop-count-init
loop-count-init c = (begun c.requires.begins, refl)

pub item_at-requires : goal.item_at-requires
item_at-requires c = room_on c.requires c.loop-count.invariant.0 c.loop-count.invariant.1

pub returns-then-i-ts : goal.returns-then-i-ts
returns-then-i-ts c = items_end _ _ _ c.loop-count.invariant.0 (omega arith) (omega arith) c.if-i-ts.true

pub returns-in_err-one : goal.returns-in_err-one
returns-in_err-one c = exits c.from_residual.ensures.1 refl (items_bad _ _ _ c.loop-count.invariant.0 (omega arith) c.if-i-ts.false c.in_err-one.ensures.by)

pub loop-count-preserved : goal.loop-count-preserved
loop-count-preserved c = (items_again _ _ _ c.loop-count.invariant.0 (omega arith) (omega arith) c.if-i-ts.false c.in_ok-one.ensures.by, c.item_at.auto.out ∙ c.loop-count.invariant.1)

pub returns : goal.returns
returns c = items_out _ _ _ c.loop-count.invariant.0 (omega arith)
