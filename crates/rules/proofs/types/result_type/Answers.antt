-- By the number.
use Rattle.rules.proofs.Valued as L
use Rattle.rules.proofs.types.result_type.Goals as goal

pub returns-then-n-eq0 : goal.returns-then-n-eq0
returns-then-n-eq0 c = L.no_type c.args.n c.if-n-eq0.true

pub returns : goal.returns
returns c = L.a_type c.args.n c.if-n-eq0.false c.value_type.ensures
