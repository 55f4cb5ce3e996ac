-- Code is fine where its parts are, and then at every position.
use Prim.Native.Nat.{ℕ, zero, suc, ◌<◌}
use mathlib.Core.List.{List, [], ◌∷◌, ◌++◌}
use native.Mathlib.Omega.{arith}
use lib.ListN.{length, get_or}
use Rattle.symbolic.specs.Symbolic.{Instruction, bad}
use Rattle.symbolic.specs.Fine.{Fine, AllFine}

pub fine_append : (a b : List Instruction) → AllFine a → AllFine b → AllFine (a ++ b)
fine_append [] b f g = g
fine_append (i ∷ a) b f g = (f.0, fine_append a b f.1 g)

pub fine_at : (code : List Instruction) (k : ℕ) → AllFine code → k < length code → Fine (get_or code k bad)
fine_at [] k f h = absurd (omega arith)
fine_at (i ∷ rest) zero f h = f.0
fine_at (i ∷ rest) (suc k) f h = fine_at rest k f.1 (omega arith)
