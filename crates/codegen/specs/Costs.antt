-- The constants of claim 3's time bounds.
use Rattle.std.specs.Prelude.{ℕ}
use Rattle.claims.specs.Keeps.{Costs}

-- the steps that one unit of fuel pays for at most, and those besides
abbrev pub K : ℕ
K = 128

abbrev pub K0 : ℕ
K0 = 80

-- the fuel that one step pays for at most, and that besides
abbrev pub C : ℕ
C = 65536

abbrev pub C0 : ℕ
C0 = 65536

abbrev pub costs : Costs
costs = record { K = K; K0 = K0; C = C; C0 = C0 }
