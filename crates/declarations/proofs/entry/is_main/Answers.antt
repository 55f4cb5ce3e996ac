-- Its length, and then byte by byte.
use mathlib.Core.Path.{refl}
use Rattle.declarations.proofs.Starting as L
use Rattle.declarations.proofs.entry.is_main.Goals as goal

pub returns-then-name-ne4 : goal.returns-then-name-ne4
returns-then-name-ne4 c = L.not_main _ _ _ c.if-name-ne4.true

pub returns-then-byte-ne109 : goal.returns-then-byte-ne109
returns-then-byte-ne109 c = L.not_first _ _ _ c.if-name-ne4.false c.byte.ensures c.if-byte-ne109.true

pub returns-then-byte-ne97 : goal.returns-then-byte-ne97
returns-then-byte-ne97 c = L.not_second _ _ _ c.if-name-ne4.false c.byte.ensures c.if-byte-ne109.false c.byte-2.ensures c.if-byte-ne97.true

pub returns-then-byte-ne105 : goal.returns-then-byte-ne105
returns-then-byte-ne105 c = L.not_third _ _ _ c.if-name-ne4.false c.byte.ensures c.if-byte-ne109.false c.byte-2.ensures c.if-byte-ne97.false c.byte-3.ensures c.if-byte-ne105.true

pub returns : goal.returns
returns c = L.by_fourth _ _ _ c.if-name-ne4.false c.byte.ensures c.if-byte-ne109.false c.byte-2.ensures c.if-byte-ne97.false c.byte-3.ensures c.if-byte-ne105.false c.byte-4.ensures refl
