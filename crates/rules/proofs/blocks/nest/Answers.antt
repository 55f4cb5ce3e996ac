-- By the kind.
use mathlib.Core.Path.{ap}
use Rattle.grammar.specs.Numbers.{number_of_statement}
use Rattle.rules.proofs.Sorts.{apart}
use Rattle.rules.proofs.Testing as L
use Rattle.rules.proofs.blocks.nest.Goals as goal

pub returns-in-While : goal.returns-in-While
returns-in-While c = L.loop_header _ _ _ _ _ _ _ _ _ (ap number_of_statement c.in-While.is) c.header_of_blocks.ensures

pub returns-in_default : goal.returns-in_default
returns-in_default c = L.choice_header _ _ _ _ _ _ _ _ _ (apart _ 3 c.in_default.not-While) c.header_of_blocks-in_default.ensures
