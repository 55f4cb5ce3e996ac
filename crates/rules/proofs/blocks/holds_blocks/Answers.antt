-- By the kind.
use Rattle.rules.proofs.Sorts as L
use Rattle.rules.proofs.blocks.holds_blocks.Goals as goal

pub returns-in-Choose : goal.returns-in-Choose
returns-in-Choose c = L.holds_some _ c.in-Choose.is

pub returns-in_default : goal.returns-in_default
returns-in_default c = L.holds_none _ c.in_default.not-Choose c.in_default.not-While c.in_default.not-When
