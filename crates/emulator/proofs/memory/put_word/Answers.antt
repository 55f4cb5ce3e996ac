-- Four bytes put into memory are the store of a word.
use mathlib.Core.Path.{◌∙◌}
use native.Mathlib.Omega.{arith}
use Rattle.emulator.proofs.Stores.{word}
use Rattle.emulator.proofs.memory.put_word.Goals as goal

pub returns : goal.returns
returns c = c.put.ensures ∙ word c.args.memory.now c.args.i c.args.v (omega arith)
