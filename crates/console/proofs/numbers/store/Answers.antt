-- `store` meets its contract: the test is the definition's.
use borrow.Author.Tests.{lt-ltb, le-ltb}
use Rattle.console.specs.Numbers.{stored}
use Rattle.console.proofs.numbers.store.Goals as goal

pub returns-then-n-block : goal.returns-then-n-block
unfolding stored
returns-then-n-block c = rw (lt-ltb _ _ c.if-n-block.true, c.put_word.ensures)

pub returns : goal.returns
unfolding stored
returns c = rw (le-ltb _ _ c.if-n-block.false, c.at.ensures)
