-- In a register or in the frame.
use Rattle.emission.proofs.Tapes.{after_one, untouched}
use Rattle.emission.proofs.Pieces.{keep_register, keep_frame}
use Rattle.emission.proofs.places.keep.Goals as goal

pub returns-else-d-ge-IN_REGISTERS : goal.returns-else-d-ge-IN_REGISTERS
returns-else-d-ge-IN_REGISTERS c = untouched (keep_register c.if-d-ge-IN_REGISTERS.false)

pub returns-then-d-ge-IN_REGISTERS : goal.returns-then-d-ge-IN_REGISTERS
returns-then-d-ge-IN_REGISTERS c = after_one c.store.ensures (keep_frame c.if-d-ge-IN_REGISTERS.true c.store.ensures.says)
