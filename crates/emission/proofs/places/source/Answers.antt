-- Case by case.
use Rattle.emission.proofs.Pieces.{source_zero, source_some, source_local, source_register, source_frame}
use Rattle.emission.proofs.places.source.Goals as goal

pub returns-then-n-eq0 : goal.returns-then-n-eq0
returns-then-n-eq0 c = source_zero c.args.w c.in-Constant.is c.if-n-eq0.true

pub returns-else-n-eq0 : goal.returns-else-n-eq0
returns-else-n-eq0 c = source_some c.args.w c.in-Constant.is c.if-n-eq0.false

pub returns-in-Local : goal.returns-in-Local
returns-in-Local c = source_local c.args.w c.in-Local.is

pub returns-then-d-lt-IN_REGISTERS : goal.returns-then-d-lt-IN_REGISTERS
returns-then-d-lt-IN_REGISTERS c = source_register c.args.w c.in-Temporary.is c.if-d-lt-IN_REGISTERS.true

pub returns-else-d-lt-IN_REGISTERS : goal.returns-else-d-lt-IN_REGISTERS
returns-else-d-lt-IN_REGISTERS c = source_frame c.args.w c.in-Temporary.is c.if-d-lt-IN_REGISTERS.false
