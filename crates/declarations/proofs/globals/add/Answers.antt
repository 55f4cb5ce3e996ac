-- Two stores, one after the other.
use native.Mathlib.Omega.{arith}
use native.Mathlib.Numerals.{unary_clauses}
use mathlib.Core.Path.{refl}
use lib.ListN.{length-set}
use Rattle.declarations.proofs.Declaring as L
use Rattle.declarations.proofs.globals.add.Goals as goal

pub bounds-globals-i-2 : goal.bounds-globals-i-2
bounds-globals-i-2 c = simp length-set (omega arith)

pub returns : goal.returns
returns c = L.added _ _ _ c.requires.1 (simp unary_clauses refl)
