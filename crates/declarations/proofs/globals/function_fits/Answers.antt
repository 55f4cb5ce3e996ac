-- Each test is one of the definition's.
use mathlib.Core.Path.{refl}
use Rattle.declarations.proofs.Declaring as L
use Rattle.declarations.proofs.globals.function_fits.Goals as goal

pub returns-then-functions-ge-MOST_FUNCTIONS : goal.returns-then-functions-ge-MOST_FUNCTIONS
returns-then-functions-ge-MOST_FUNCTIONS c = L.too_many_functions _ _ c.if-functions-ge-MOST_FUNCTIONS.true

pub returns : goal.returns
returns c = L.few_parameters _ _ c.if-functions-ge-MOST_FUNCTIONS.false refl
