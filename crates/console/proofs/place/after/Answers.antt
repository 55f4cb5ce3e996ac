-- `after` meets its contract.
use borrow.Author.Tests.{ne_eqb}
use Rattle.console.specs.Places.{after_byte}
use Rattle.console.proofs.place.after.Goals as goal

pub returns-then-b-eq-LINE_FEED : goal.returns-then-b-eq-LINE_FEED
unfolding after_byte
returns-then-b-eq-LINE_FEED c = rw c.if-b-eq-LINE_FEED.true

pub returns : goal.returns
unfolding after_byte
returns c = rw (ne_eqb c.args.b 10 c.if-b-eq-LINE_FEED.false)
