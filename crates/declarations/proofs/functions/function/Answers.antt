-- By its parameters, and then its body.
use mathlib.Core.Path.{refl}
use native.Mathlib.Omega.{arith}
use Rattle.declarations.proofs.Finishing as L
use Rattle.declarations.proofs.Rooms.{rooms_on}
use Rattle.rules.proofs.Valued as V
use Rattle.declarations.proofs.functions.function.Goals as goal

pub overflow_add-site : goal.overflow_add-site
overflow_add-site c = omega (arith, c.requires.1.item)

pub returns-then-n-gt-MOST_PARAMETERS : goal.returns-then-n-gt-MOST_PARAMETERS
returns-then-n-gt-MOST_PARAMETERS c = L.make_many _ _ _ _ _ _ _ c.word-n.ensures c.if-n-gt-MOST_PARAMETERS.true

pub overflow_add-site-2 : goal.overflow_add-site-2
overflow_add-site-2 c = omega (arith, c.requires.1.item)

pub parameters-requires : goal.parameters-requires
parameters-requires c = (c.requires.0.for_locals, omega (arith, c.requires.1.item), c.if-n-gt-MOST_PARAMETERS.false)

pub finish-requires : goal.finish-requires
finish-requires c = (rooms_on c.requires.0 c.parameters.auto.locals refl refl refl, c.requires.1, c.if-n-gt-MOST_PARAMETERS.false)

pub returns : goal.returns
returns c = L.make_on _ _ _ _ _ _ _ c.word-n.ensures c.parameters.ensures c.in_ok-parameters.was c.finish.ensures

pub returns-in_err-parameters : goal.returns-in_err-parameters
returns-in_err-parameters c = rw (V.passed _ c.from_residual.ensures.1) (L.make_fault _ _ _ _ _ _ _ c.word-n.ensures c.parameters.ensures c.in_err-parameters.was)
