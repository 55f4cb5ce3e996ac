-- By whether there are arguments.
use Rattle.rules.specs.Post.{operands_in}
use Rattle.rules.proofs.Making as L
use Rattle.rules.proofs.calls.first_start.Goals as goal

pub returns-then-n-eq0 : goal.returns-then-n-eq0
returns-then-n-eq0 c = L.no_arguments (operands_in c.args.types.now c.args.starts.now c.args.h) _ _ c.if-n-eq0.true

pub returns : goal.returns
returns c = L.first_argument _ _ c.if-n-eq0.false c.top-o.ensures
