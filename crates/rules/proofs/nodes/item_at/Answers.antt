-- Each word is the tree's.
use mathlib.Core.Path.{refl}
use Rattle.rules.proofs.nodes.item_at.Goals as goal

pub returns : goal.returns
returns c = (record { is_kind = c.word.ensures; is_place = c.word-2.ensures; is_a = c.word-3.ensures; is_b = c.word-4.ensures }, refl)
