-- Case by case.
use Rattle.emission.proofs.Tapes.{after_one}
use Rattle.emission.proofs.Pieces.{bring_constant, bring_local, bring_register, bring_frame}
use Rattle.emission.proofs.places.bring.Goals as goal

pub returns-then-d-lt-IN_REGISTERS : goal.returns-then-d-lt-IN_REGISTERS
returns-then-d-lt-IN_REGISTERS c = after_one c.put.ensures (bring_register c.in-Temporary.is c.if-d-lt-IN_REGISTERS.true c.put.ensures.says)

pub returns-in-Constant : goal.returns-in-Constant
returns-in-Constant c = after_one c.constant_to.ensures (bring_constant c.in-Constant.is c.constant_to.ensures.says)

pub returns-in-Local : goal.returns-in-Local
returns-in-Local c = after_one c.load.ensures (bring_local c.in-Local.is c.load.ensures.says)

pub returns-else-d-lt-IN_REGISTERS : goal.returns-else-d-lt-IN_REGISTERS
returns-else-d-lt-IN_REGISTERS c = after_one c.load-else-d-lt-IN_REGISTERS.ensures (bring_frame c.in-Temporary.is c.if-d-lt-IN_REGISTERS.false c.load-else-d-lt-IN_REGISTERS.ensures.says)
