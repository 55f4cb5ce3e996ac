-- `steps_more` meets its contract: the smaller of the two.
use Rattle.toolchain.specs.Emulation.{steps_more}
use Rattle.std.proofs.Common.{arith}
use Rattle.std.proofs.lemmas.Bool.Decides.{nat_tests}
use mathlib.Core.Path.{◌∙◌}
use Rattle.toolchain.proofs.steps_more.Goals as goal

pub returns : goal.returns
unfolding steps_more
returns c = (c.min.ensures ∙ grind (arith, nat_tests), omega arith)
