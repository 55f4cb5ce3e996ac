-- The fields are those of a leaf.
use mathlib.Core.Path.{refl}
use Rattle.rules.specs.Scan.{leaf}
use Rattle.rules.proofs.nodes.leaf.Goals as goal

pub returns : goal.returns
unfolding leaf
returns g c = rw (← c.value_type.ensures, ← c.number.ensures) refl
