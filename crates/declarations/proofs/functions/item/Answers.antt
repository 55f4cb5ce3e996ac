-- By the item's kind.
use native.Mathlib.Omega.{arith}
use Rattle.declarations.proofs.Filling as L
use Rattle.rules.proofs.Valued as V
use Rattle.declarations.proofs.functions.item.Goals as goal

pub returns-then-is_array : goal.returns-then-is_array
returns-then-is_array c = L.pass_array _ _ _ _ _ _ _ c.is_array.ensures c.if-is_array.true

pub overflow_mul-entry : goal.overflow_mul-entry
overflow_mul-entry c = omega (arith, c.requires.1.item, c.requires.1.entry)

pub overflow_add-entry : goal.overflow_add-entry
overflow_add-entry c = omega (arith, c.requires.1.item, c.requires.1.entry)

pub function-requires : goal.function-requires
function-requires c = c.requires

pub overflow_add-p : goal.overflow_add-p
overflow_add-p c = omega (arith, c.requires.1.item)

pub overflow_add-result : goal.overflow_add-result
overflow_add-result c = omega (arith, c.requires.1.item, c.requires.1.body)

pub overflow_add-result-2 : goal.overflow_add-result-2
overflow_add-result-2 c = omega (arith, c.requires.1.item, c.requires.1.entry)

pub returns : goal.returns
returns c = L.pass_function _ _ _ _ _ _ _ c.is_array.ensures c.if-is_array.false c.word-body.ensures c.in_ok-function.was c.function.ensures

pub returns-in_err-function : goal.returns-in_err-function
returns-in_err-function c = rw (V.passed _ c.from_residual.ensures.1) (L.pass_fault _ _ _ _ _ _ _ c.is_array.ensures c.if-is_array.false c.in_err-function.was c.function.ensures)
