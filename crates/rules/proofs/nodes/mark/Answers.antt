-- The fields are those of a mark.
use mathlib.Core.Path.{refl}
use Rattle.rules.specs.Scan.{mark_node}
use Rattle.rules.proofs.nodes.mark.Goals as goal

pub returns : goal.returns
unfolding mark_node
returns g c = rw (← c.value_type.ensures, ← c.number.ensures) refl
