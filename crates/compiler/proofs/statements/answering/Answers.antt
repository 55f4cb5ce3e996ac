-- By whether it is a call.
use native.Mathlib.Omega.{arith}
use Rattle.emission.proofs.Tapes.{after_one, after_two, untouched}
use Rattle.compiler.proofs.Numbered.{tells, denies}
use Rattle.compiler.proofs.Stating.{answer_nowhere, answer_call, answer_value}
use Rattle.compiler.proofs.statements.answering.Goals as goal

pub returns-then-end-lt4 : goal.returns-then-end-lt4
returns-then-end-lt4 c = untouched (answer_nowhere c.if-end-lt4.true)

pub called-requires : goal.called-requires
called-requires c = (record { small = c.requires.small; room = c.requires.room }, omega (arith, c.if-end-lt4.false))

pub returns-then-is_kind : goal.returns-then-is_kind
returns-then-is_kind c = after_one c.called.ensures (answer_call (tells c.is_kind.ensures c.if-is_kind.true) c.called.ensures.says)

pub value-requires : goal.value-requires
value-requires c = record { small = c.requires.small; room = omega (arith, c.requires.room, c.bring.ensures.within) }

pub returns : goal.returns
returns c = after_two c.bring.ensures c.value.ensures (answer_value (denies c.is_kind.ensures c.if-is_kind.false) c.place_of-p.ensures c.bring.ensures.says c.value.ensures.says)
