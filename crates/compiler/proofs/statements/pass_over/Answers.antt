-- An empty block is not jumped over.
use Rattle.emission.proofs.Tapes.{after_one, untouched}
use Rattle.compiler.proofs.Stating.{over_none, over_jump}
use Rattle.compiler.proofs.statements.pass_over.Goals as goal

pub returns-else-m-ne0 : goal.returns-else-m-ne0
returns-else-m-ne0 c = untouched (over_none c.if-m-ne0.false)

pub returns-then-m-ne0 : goal.returns-then-m-ne0
returns-then-m-ne0 c = after_one c.jump.ensures (over_jump c.if-m-ne0.true c.jump.ensures.says)
