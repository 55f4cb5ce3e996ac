-- In a register or in the frame.
use Rattle.emission.proofs.Pieces.{target_register, target_frame}
use Rattle.emission.proofs.places.target_of.Goals as goal

pub returns-then-d-lt-IN_REGISTERS : goal.returns-then-d-lt-IN_REGISTERS
returns-then-d-lt-IN_REGISTERS c = target_register c.if-d-lt-IN_REGISTERS.true

pub returns : goal.returns
returns c = target_frame c.if-d-lt-IN_REGISTERS.false
