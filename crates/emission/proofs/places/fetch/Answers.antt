-- Case by case.
use Rattle.emission.proofs.Tapes.{after_one, untouched}
use Rattle.emission.proofs.Pieces.{fetch_zero, fetch_some, fetch_local_lem, fetch_register, fetch_frame}
use Rattle.emission.proofs.places.fetch.Goals as goal

pub returns-else-n-ne0 : goal.returns-else-n-ne0
returns-else-n-ne0 c = untouched (fetch_zero c.args.w c.in-Constant.is c.if-n-ne0.false)

pub returns-else-d-ge-IN_REGISTERS : goal.returns-else-d-ge-IN_REGISTERS
returns-else-d-ge-IN_REGISTERS c = untouched (fetch_register c.args.w c.in-Temporary.is c.if-d-ge-IN_REGISTERS.false)

pub returns-then-n-ne0 : goal.returns-then-n-ne0
returns-then-n-ne0 c = after_one c.constant_to.ensures (fetch_some c.args.w c.in-Constant.is c.if-n-ne0.true c.constant_to.ensures.says)

pub returns-in-Local : goal.returns-in-Local
returns-in-Local c = after_one c.load.ensures (fetch_local_lem c.args.w c.in-Local.is c.load.ensures.says)

pub returns-then-d-ge-IN_REGISTERS : goal.returns-then-d-ge-IN_REGISTERS
returns-then-d-ge-IN_REGISTERS c = after_one c.load-then-d-ge-IN_REGISTERS.ensures (fetch_frame c.args.w c.in-Temporary.is c.if-d-ge-IN_REGISTERS.true c.load-then-d-ge-IN_REGISTERS.ensures.says)
