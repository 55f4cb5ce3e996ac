-- What is laid piece by piece.
use mathlib.Core.Path.{ap, ◌∙◌}
use Rattle.codegen.specs.Places.{upper_of}
use Rattle.emission.specs.Macros.{placed}
use Rattle.emission.proofs.Tapes.{after_five}
use Rattle.emission.proofs.Arrays.{indexes}
use Rattle.emission.proofs.elements.indexed.Goals as goal

pub returns : goal.returns
returns c = after_five c.put.ensures c.put-2.ensures c.put-3.ensures c.put-4.ensures c.put-5.ensures (indexes c.args.offset (placed c.args.p) c.source-from.ensures (c.upper-high.ensures ∙ ap upper_of c.address-base.ensures.value) c.put.ensures.says c.put-2.ensures.says c.put-3.ensures.says c.reach-to_stub.ensures c.put-4.ensures.says c.onward-around.ensures c.put-5.ensures.says)
