-- Bytes put into memory are the store of their width.
use mathlib.Core.Path.{◌∙◌}
use Rattle.emulator.proofs.Stores.{byte, half}
use Rattle.emulator.proofs.memory.write_at.Goals as goal

pub returns-in-Byte : goal.returns-in-Byte
returns-in-Byte c = c.put.ensures ∙ byte c.args.s c.in-Byte.is c.args.memory.now c.args.i c.args.v c.requires

pub returns-in-Half : goal.returns-in-Half
returns-in-Half c = c.put-in-Half.ensures ∙ half c.args.s c.in-Half.is c.args.memory.now c.args.i c.args.v c.requires
