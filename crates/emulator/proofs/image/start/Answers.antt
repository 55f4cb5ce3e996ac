-- `start` meets its contract: the definition's steps, in its order.
use Rattle.processor.specs.Machine.{start_memory, zeros}
use borrow.Author.Rules.{rules}
use Rattle.emulator.proofs.image.start.Goals as goal

pub returns : goal.returns
unfolding start_memory zeros
returns c = rw (c.place-2.ensures, c.place.ensures, c.fill.ensures.after (λ y e. search rules), c.requires.0)
