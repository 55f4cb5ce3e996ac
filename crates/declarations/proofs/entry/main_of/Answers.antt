-- By the entry that is found, and by what its header says.
use Rattle.declarations.proofs.Starting as L
use Rattle.declarations.proofs.entry.main_of.Goals as goal

pub returns-in_default : goal.returns-in_default
returns-in_default c = L.no_main _ _ c.in_default.ensures

pub returns-then-is_array : goal.returns-then-is_array
returns-then-is_array c = L.main_array _ _ _ c.in-Some.ensures c.is_array.ensures c.if-is_array.true c.word-place.ensures

pub returns-then-word-ne0 : goal.returns-then-word-ne0
returns-then-word-ne0 c = L.main_takes _ _ _ c.in-Some.ensures c.is_array.ensures c.if-is_array.false c.word.ensures c.if-word-ne0.true c.word-place.ensures

pub returns-then-word-ne0-2 : goal.returns-then-word-ne0-2
returns-then-word-ne0-2 c = L.main_gives _ _ _ c.in-Some.ensures c.is_array.ensures c.if-is_array.false c.word.ensures c.if-word-ne0.false c.word-2.ensures c.if-word-ne0-2.true c.word-place.ensures

pub returns : goal.returns
returns c = L.main_found _ _ _ c.in-Some.ensures c.is_array.ensures c.if-is_array.false c.word.ensures c.if-word-ne0.false c.word-2.ensures c.if-word-ne0-2.false
