-- `faults` meets its contract: one stop is the definition's, and no other.
use Rattle.agreement.specs.Agreement.{faults}
use Rattle.agreement.proofs.Stops.{others_fault}
use Rattle.agreement.proofs.faults.Goals as goal

pub returns-in-Fault : goal.returns-in-Fault
unfolding faults
returns-in-Fault c = rw c.in-Fault.is

pub returns-in_default : goal.returns-in_default
returns-in_default c = others_fault _ c.in_default.not-Fault
