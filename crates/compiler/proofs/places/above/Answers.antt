-- Case by case.
use native.Mathlib.Omega.{arith}
use Rattle.compiler.proofs.Placing.{above_by}
use Rattle.compiler.proofs.places.above.Goals as goal

pub returns-in-Temporary : goal.returns-in-Temporary
returns-in-Temporary c = record { value = λ h. above_by _ _ c.in-Temporary.is (omega (arith, c.saturating_add.ensures, h)); within = omega (arith, c.saturating_add.ensures) }
