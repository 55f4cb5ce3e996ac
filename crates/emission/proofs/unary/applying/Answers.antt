-- Case by case.
use Rattle.flat.specs.Numbers.{unary_of}
use Rattle.emission.proofs.Tapes.{after_one, untouched}
use Rattle.emission.proofs.Unaries.{applies_constant, applies}
use Rattle.emission.proofs.unary.applying.Goals as goal

pub returns-in-Constant : goal.returns-in-Constant
returns-in-Constant g c = untouched (applies_constant (unary_of (g.O.Names.named c.args.o)) c.args.d c.in-Constant.is)

pub returns-in-Local : goal.returns-in-Local
returns-in-Local g c = after_one c.alone.ensures (applies (unary_of (g.O.Names.named c.args.o)) c.args.d c.args.p c.in-Local.is c.alone.ensures.says)
