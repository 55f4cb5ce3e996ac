-- `go_on` meets its contract: the machine that stands in the buffers, gone on with.
use Rattle.toolchain.proofs.Held.{held, gone_on}
use Rattle.toolchain.specs.Emulation.{buffers}
use lib.Seq.{length-take-le}
use mathlib.Core.Path.{refl}
use native.Mathlib.Omega.{arith}
use Rattle.toolchain.proofs.go_on.Goals as goal

pub run-requires : goal.run-requires
run-requires c = (length-take-le _ _ c.requires.1, length-take-le _ _ c.requires.2, c.requires.4, c.requires.3, c.requires.0, c.steps_more-n.ensures.1)

pub returns : goal.returns
returns c =
    held _ _ _ _ _ _ refl refl (omega (arith, c.run.auto, c.run.ensures.grows.fits)) c.run.ensures.grows
    (gone_on c.args.size c.args.room _ c.steps_more-n.result c.args.from (buffers c.args.memory.now c.args.registers.now c.args.log.now) _ refl refl c.steps_more-n.ensures.0 c.requires.5 c.run.ensures.before_value)
