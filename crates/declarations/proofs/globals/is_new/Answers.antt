-- By the entry that is found.
use Rattle.declarations.proofs.Declaring as L
use Rattle.declarations.proofs.globals.is_new.Goals as goal

pub returns : goal.returns
returns c = L.new_name _ _ c.word-place.ensures c.word-length.ensures c.find_global.ensures c.is_none.ensures
