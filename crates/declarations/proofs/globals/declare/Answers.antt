-- By the name, the kind and the sizes.
use mathlib.Core.Path.{refl, sym, ◌∙◌}
use native.Mathlib.Omega.{arith}
use Rattle.declarations.proofs.Declaring as L
use borrow.Author.Tests.{eqb-true, eqb-false}
use Rattle.declarations.proofs.globals.declare.Goals as goal

pub overflow_add-g : goal.overflow_add-g
overflow_add-g c = omega (arith, c.requires.2.arrays, c.requires.2.functions)

pub is_new-requires : goal.is_new-requires
is_new-requires c = (omega (arith, c.requires.2.arrays, c.requires.2.functions), omega (arith, c.requires.1))

pub returns-then-not-is_new : goal.returns-then-not-is_new
returns-then-not-is_new c = L.declare_taken _ _ _ _ _ _ _ c.requires.2 c.word-at.ensures refl refl c.is_new.ensures c.if-not-is_new.true

pub array_fits-requires : goal.array_fits-requires
array_fits-requires c = c.requires.2.elements

pub returns-then-not-array_fits : goal.returns-then-not-array_fits
returns-then-not-array_fits c = L.declare_array_off _ _ _ _ _ _ _ c.requires.2 c.word-at.ensures refl c.word-n.ensures (eqb-true _ _ (sym c.is_array.ensures ∙ c.if-is_array.true)) c.array_fits.ensures c.if-not-array_fits.true

pub overflow_cast-header : goal.overflow_cast-header
overflow_cast-header c = omega (arith, c.requires.1)

pub add-requires : goal.add-requires
add-requires c = (omega (arith, c.requires.2.arrays, c.requires.2.functions), omega (arith, c.requires.0, (L.array_below _ _ _ c.array_fits.ensures c.if-not-array_fits.false).0, c.requires.2.functions))

pub overflow_add-result : goal.overflow_add-result
overflow_add-result c = omega (arith, c.requires.2.arrays)

pub overflow_add-result-then-is_array : goal.overflow_add-result-then-is_array
overflow_add-result-then-is_array c = omega (arith, (L.array_below _ _ _ c.array_fits.ensures c.if-not-array_fits.false).1)

pub returns-then-is_array : goal.returns-then-is_array
returns-then-is_array c = L.declare_array_on _ _ _ _ _ _ _ c.requires.2 c.word-at.ensures refl c.word-n.ensures c.is_new.ensures c.if-not-is_new.false (eqb-true _ _ (sym c.is_array.ensures ∙ c.if-is_array.true)) c.array_fits.ensures c.if-not-array_fits.false c.add.ensures

pub returns-then-not-function_fits : goal.returns-then-not-function_fits
returns-then-not-function_fits c = L.declare_function_off _ _ _ _ _ _ _ c.requires.2 c.word-at.ensures refl c.word-n.ensures (eqb-false _ _ (sym c.is_array.ensures ∙ c.if-is_array.false)) c.function_fits.ensures c.if-not-function_fits.true

pub add-requires-2 : goal.add-requires-2
add-requires-2 c = (omega (arith, c.requires.2.arrays, c.requires.2.functions), omega (arith, c.requires.0, c.requires.2.arrays, L.function_below _ _ c.function_fits.ensures c.if-not-function_fits.false))

pub overflow_add-result-2 : goal.overflow_add-result-2
overflow_add-result-2 c = omega (arith, c.requires.2.functions)

pub returns : goal.returns
returns c = L.declare_function_on _ _ _ _ _ _ _ c.requires.2 c.word-at.ensures refl c.word-n.ensures c.is_new.ensures c.if-not-is_new.false (eqb-false _ _ (sym c.is_array.ensures ∙ c.if-is_array.false)) c.function_fits.ensures c.if-not-function_fits.false c.add-2.ensures
