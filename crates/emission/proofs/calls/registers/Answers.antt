-- At most seven.
use native.Mathlib.Omega.{arith}
use Rattle.emission.proofs.Calling.{registers_are}
use Rattle.emission.proofs.calls.registers.Goals as goal

pub returns : goal.returns
returns c = record { value = registers_are c.args.d (λ h. omega (arith, h, c.min.ensures)) (λ h. omega (arith, h, c.min.ensures)); few = omega (arith, c.min.ensures) }
