-- `run_block` meets its contract: the arrays are the block's words when the run begins.
use Rattle.toolchain.proofs.interpret.run_block.Goals as goal

pub returns : goal.returns
returns c = rw (← c.block_words.ensures) c.run.ensures
