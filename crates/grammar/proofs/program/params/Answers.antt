-- A parameter, and after a comma another.
use mathlib.Core.Path.{refl, ◌∙◌}
use native.Mathlib.Omega.{arith}
use Rattle.grammar.proofs.Steps.{exits, yes, no, begun, room_on}
use Rattle.grammar.proofs.ItemLaws.{params_out, params_bad, params_last, params_again}
use Rattle.grammar.proofs.program.params.Goals as goal

pub loop-count-init : goal.loop-count-init
loop-count-init c = (begun c.requires.begins, refl)

pub param-requires : goal.param-requires
param-requires c = room_on c.requires c.loop-count.invariant.0 c.loop-count.invariant.1

pub returns-in_err-one : goal.returns-in_err-one
returns-in_err-one c = exits c.from_residual.ensures.1 refl (params_bad _ _ c.loop-count.invariant.0 (omega arith) c.in_err-one.ensures.by)

pub returns-then-not-is : goal.returns-then-not-is
returns-then-not-is c = params_last _ _ c.loop-count.invariant.0 (omega arith) (omega arith) c.in_ok-one.ensures.by refl (no c.if-not-is.ensures.same)

pub loop-count-preserved : goal.loop-count-preserved
loop-count-preserved c = (params_again _ _ c.loop-count.invariant.0 (omega arith) (omega arith) c.in_ok-one.ensures.by refl (yes c.if-not-is.ensures.same) (c.if-not-is.ensures.there refl), c.param.auto.out ∙ c.loop-count.invariant.1)

pub returns : goal.returns
returns c = params_out _ _ c.loop-count.invariant.0 (omega arith)
