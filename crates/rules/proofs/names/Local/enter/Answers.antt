-- Four stores, one after the other.
use native.Mathlib.Omega.{arith}
use native.Mathlib.Numerals.{unary_clauses}
use mathlib.Core.Path.{refl}
use lib.ListN.{length-set}
use Rattle.rules.proofs.Valued as V
use Rattle.rules.proofs.Stating as L
use Rattle.rules.proofs.names.Local.enter.Goals as goal

pub bounds-locals-at-2 : goal.bounds-locals-at-2
bounds-locals-at-2 c = simp length-set (omega arith)

pub bounds-locals-at-3 : goal.bounds-locals-at-3
bounds-locals-at-3 c = simp length-set (omega arith)

pub bounds-locals-at-4 : goal.bounds-locals-at-4
bounds-locals-at-4 c = simp length-set (omega arith)

pub returns : goal.returns
returns c = L.entered _ _ _ (V.number _) c.requires.1 (simp unary_clauses refl)
