-- With the branches that the function has.
use Rattle.compiler.proofs.Layouts.{lengths}
use Rattle.compiler.proofs.programs.length_of.Goals as goal

pub returns : goal.returns
returns c = record { lengths = lengths c.is_near-near.ensures c.measure.ensures.measures; within = c.measure.ensures.within }
