-- Each test is one of the definition's.
use mathlib.Core.Path.{refl}
use Rattle.declarations.proofs.Declaring as L
use Rattle.declarations.proofs.globals.array_fits.Goals as goal

pub returns-then-n-lt1 : goal.returns-then-n-lt1
returns-then-n-lt1 c = L.too_small _ _ _ c.if-n-lt1.true

pub returns-then-n-gt-MOST_ELEMENTS : goal.returns-then-n-gt-MOST_ELEMENTS
returns-then-n-gt-MOST_ELEMENTS c = L.too_large _ _ _ c.if-n-gt-MOST_ELEMENTS.true

pub returns-then-arrays-ge-MOST_ARRAYS : goal.returns-then-arrays-ge-MOST_ARRAYS
returns-then-arrays-ge-MOST_ARRAYS c = L.too_many_arrays _ _ _ c.if-arrays-ge-MOST_ARRAYS.true

pub returns : goal.returns
returns c = L.in_all _ _ _ c.if-n-lt1.false c.if-n-gt-MOST_ELEMENTS.false c.if-arrays-ge-MOST_ARRAYS.false refl
