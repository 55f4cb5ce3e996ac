-- After the eight words of the header.
use native.Mathlib.Omega.{arith}
use Rattle.rules.proofs.expression.first_expression.Goals as goal

pub overflow_add-first : goal.overflow_add-first
overflow_add-first g c = omega (arith, c.requires.place)

pub overflow_add-first-2 : goal.overflow_add-first-2
overflow_add-first-2 g c = omega (arith, c.requires.core_place)

pub expression-requires : goal.expression-requires
expression-requires g c = c.requires

pub returns : goal.returns
returns g c = c.expression.ensures
