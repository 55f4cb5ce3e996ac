-- From the top down to the code's start.
use native.Mathlib.Omega.{arith}
use Rattle.compiler.proofs.Functioning.{measured}
use Rattle.compiler.proofs.functions.measure.Goals as goal

pub function-requires : goal.function-requires
function-requires c = (c.requires, omega arith)

pub overflow_sub-result : goal.overflow_sub-result
overflow_sub-result c = c.function.ensures.within

pub returns : goal.returns
returns c = record { measures = measured c.function.ensures.says; within = omega arith }
