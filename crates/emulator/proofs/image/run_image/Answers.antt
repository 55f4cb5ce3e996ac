-- `run_image` meets its contract: the run of the machine at the start.
use Rattle.processor.specs.Image.{run_image}
use Rattle.processor.specs.Machine.{start_of, zeros}
use borrow.Author.Rules.{rules}
use Rattle.emulator.proofs.image.run_image.Goals as goal

pub returns-clause-limit_value : goal.returns-clause-limit_value
unfolding run_image start_of zeros
returns-clause-limit_value c = rw (c.start.ensures, c.fill.ensures.after (λ y e. search rules), c.requires.1) at c.run.ensures.before_value
