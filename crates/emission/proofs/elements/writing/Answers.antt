-- What is laid piece by piece.
use Rattle.emission.specs.Macros.{placed, arrayed}
use Rattle.emission.proofs.Tapes.{after_three}
use Rattle.emission.proofs.Arrays.{writes}
use Rattle.emission.proofs.elements.writing.Goals as goal

pub returns : goal.returns
returns c = after_three c.put.ensures c.fetch.ensures c.locate.ensures (writes (arrayed c.args.a) (placed c.args.p) c.offset_of-low.ensures (placed c.args.v) c.source-from.ensures c.put.ensures.says c.fetch.ensures.says c.locate.ensures.says)
