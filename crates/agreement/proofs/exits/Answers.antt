-- `exits` meets its contract: one stop is the definition's, and no other.
use Rattle.agreement.specs.Agreement.{exits}
use Rattle.agreement.proofs.Stops.{others_exit}
use Rattle.agreement.proofs.exits.Goals as goal

pub returns-in-Exit : goal.returns-in-Exit
unfolding exits
returns-in-Exit c = rw c.in-Exit.is

pub returns-in_default : goal.returns-in_default
returns-in_default c = others_exit _ c.in_default.not-Exit
