-- A header of so many words.
use Rattle.rules.proofs.head.header_of_one.Goals as goal

pub returns : goal.returns
returns g c = c.write.ensures
