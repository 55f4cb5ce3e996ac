-- `block_words` meets its contract: so far the first words, then what was there.
use Rattle.toolchain.proofs.Blocks.{so_far}
use mathlib.Core.Path.{◌≡◌}
use Rattle.toolchain.proofs.interpret.block_words.Given as goal

abbrev pub invariant-loop-i : goal.invariant-loop-i
invariant-loop-i l = l.arrays ≡ so_far l.input l.fn.arrays l.i
