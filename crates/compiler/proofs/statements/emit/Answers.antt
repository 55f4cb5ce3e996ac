-- The value, and then what is done with it.
use native.Mathlib.Omega.{arith}
use Rattle.emission.proofs.Tapes.{after_two}
use Rattle.compiler.proofs.Stating.{statement_emit}
use Rattle.compiler.proofs.statements.emit.Goals as goal

pub answering-requires : goal.answering-requires
answering-requires c = record { small = c.requires.0.small; room = omega (arith, c.requires.0.room, c.ecall.ensures.within) }

pub returns : goal.returns
returns c = after_two c.ecall.ensures c.answering.ensures (statement_emit c.requires.1.0 c.requires.1.1 c.ecall.ensures.says c.answering.ensures.says)
