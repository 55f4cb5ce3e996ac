-- Each word is the table's.
use Rattle.rules.proofs.Valued as L
use Rattle.rules.proofs.names.Local.read.Goals as goal

pub returns : goal.returns
returns c = λ text. L.local_read text c.args.locals.now c.args.i _ c.word-place.ensures c.word-length.ensures (L.through c.value_type-ty.ensures c.word.ensures) c.word-slot.ensures
