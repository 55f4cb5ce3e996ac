-- By what the scan gives.
use native.Mathlib.Omega.{arith}
use Rattle.rules.proofs.Valued as V
use Rattle.rules.proofs.Elaborating as L
use Rattle.rules.proofs.expression.expression.Goals as goal

pub scan-requires : goal.scan-requires
scan-requires g c = c.requires

pub returns-in_err-h : goal.returns-in_err-h
returns-in_err-h g c = rw (V.passed _ c.from_residual.ensures.1) (L.given_fault _ _ _ c.scan.ensures c.in_err-h.was (omega (arith, c.ranges.n)))

pub returns : goal.returns
returns g c = L.given_type _ _ _ c.scan.ensures c.in_ok-h.was c.top-o.ensures (omega (arith, c.ranges.n))
