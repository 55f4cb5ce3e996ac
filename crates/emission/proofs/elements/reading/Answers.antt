-- What is laid piece by piece.
use Rattle.emission.specs.Macros.{placed, arrayed}
use Rattle.emission.proofs.Tapes.{after_three}
use Rattle.emission.proofs.Arrays.{reads}
use Rattle.emission.proofs.elements.reading.Goals as goal

pub returns : goal.returns
returns c = after_three c.keep.ensures c.put.ensures c.locate.ensures (reads (arrayed c.args.a) (placed c.args.p) c.offset_of-low.ensures c.args.d c.target_of-to.ensures c.keep.ensures.says c.put.ensures.says c.locate.ensures.says)
