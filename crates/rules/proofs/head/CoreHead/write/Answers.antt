-- Eight stores, one after the other.
use native.Mathlib.Omega.{arith}
use native.Mathlib.Numerals.{unary_clauses}
use mathlib.Core.Path.{refl}
use lib.ListN.{length-set}
use Rattle.rules.proofs.head.CoreHead.write.Goals as goal

pub bounds-core-q-2 : goal.bounds-core-q-2
bounds-core-q-2 g c = simp length-set (omega arith)

pub bounds-core-q-3 : goal.bounds-core-q-3
bounds-core-q-3 g c = simp length-set (omega arith)

pub bounds-core-q-4 : goal.bounds-core-q-4
bounds-core-q-4 g c = simp length-set (omega arith)

pub bounds-core-q-5 : goal.bounds-core-q-5
bounds-core-q-5 g c = simp length-set (omega arith)

pub bounds-core-q-6 : goal.bounds-core-q-6
bounds-core-q-6 g c = simp length-set (omega arith)

pub bounds-core-q-7 : goal.bounds-core-q-7
bounds-core-q-7 g c = simp length-set (omega arith)

pub bounds-core-q-8 : goal.bounds-core-q-8
bounds-core-q-8 g c = simp length-set (omega arith)

pub returns : goal.returns
returns g c = rw (← c.number.ensures) (simp unary_clauses refl)
