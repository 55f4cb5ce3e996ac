-- The value, and then its store.
use native.Mathlib.Omega.{arith}
use Rattle.emission.proofs.Tapes.{after_two}
use Rattle.compiler.proofs.Stating.{statement_put}
use Rattle.compiler.proofs.statements.put.Goals as goal

pub overflow_add-p : goal.overflow_add-p
overflow_add-p c = omega (arith, c.requires.0.small, c.requires.1.1)

pub value-requires : goal.value-requires
value-requires c = record { small = c.requires.0.small; room = omega (arith, c.requires.0.room, c.assign.ensures.within) }

pub returns : goal.returns
returns c = after_two c.assign.ensures c.value.ensures (statement_put c.requires.1.0 c.requires.1.1 c.word-x.ensures c.place_of-place.ensures c.assign.ensures.says c.value.ensures.says)
