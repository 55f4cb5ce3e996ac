-- Three stores, one after the other.
use native.Mathlib.Omega.{arith}
use mathlib.Core.Path.{refl}
use lib.ListN.{length-set}
use Rattle.declarations.proofs.whole.put_header.Goals as goal

pub bounds-core-2 : goal.bounds-core-2
bounds-core-2 c = simp length-set (omega arith)

pub bounds-core-3 : goal.bounds-core-3
bounds-core-3 c = simp length-set (omega arith)

pub returns : goal.returns
returns c = refl
