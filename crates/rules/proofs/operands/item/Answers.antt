-- Four stores, one after the other.
use native.Mathlib.Omega.{arith}
use native.Mathlib.Numerals.{unary_clauses}
use mathlib.Core.Path.{refl}
use lib.ListN.{length-set}
use Rattle.rules.proofs.operands.item.Goals as goal

pub bounds-core-at-2 : goal.bounds-core-at-2
bounds-core-at-2 g c = simp length-set (omega arith)

pub bounds-core-at-3 : goal.bounds-core-at-3
bounds-core-at-3 g c = simp length-set (omega arith)

pub bounds-core-at-4 : goal.bounds-core-at-4
bounds-core-at-4 g c = simp length-set (omega arith)

pub returns : goal.returns
returns g c = rw (← c.number.ensures) (simp unary_clauses refl)
