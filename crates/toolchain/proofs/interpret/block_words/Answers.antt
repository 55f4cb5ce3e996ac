-- `block_words` meets its contract: so far the first words, then what was there.
use Rattle.toolchain.proofs.Blocks.{one_more, all_of_them}
use native.Mathlib.Numerals.{add-one}
use native.Mathlib.Omega.{arith}
use mathlib.Core.Path.{◌∙◌}
use Rattle.toolchain.proofs.interpret.block_words.Goals as goal

pub loop-i-preserved : goal.loop-i-preserved
loop-i-preserved c = rw (c.loop-i.invariant, add-one c.loop-i.i, c.word_of.ensures) (one_more c.args.input.now c.args.arrays.now c.loop-i.i c.requires (omega arith))

pub returns : goal.returns
returns c = c.loop-i.invariant ∙ all_of_them c.args.input.now c.args.arrays.now c.loop-i.i c.requires (omega arith)
