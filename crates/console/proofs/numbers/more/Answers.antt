-- `more` meets its contract: the test is the definition's.
use borrow.Author.Tests.{le-leb, lt-leb}
use Rattle.console.specs.Numbers.{more_of}
use Rattle.console.proofs.numbers.more.Goals as goal

pub returns-then-n-most : goal.returns-then-n-most
unfolding more_of
returns-then-n-most c = rw (le-leb _ _ c.if-n-most.true, c.at.ensures)

pub returns : goal.returns
unfolding more_of
returns c = rw (lt-leb _ _ c.if-n-most.false, c.at-2.ensures)
