-- The index, the value, and then its store.
use native.Mathlib.Omega.{arith}
use Rattle.emission.proofs.Tapes.{after_three, untouched}
use Rattle.compiler.proofs.Stating.{statement_store, store_far}
use Rattle.compiler.proofs.statements.store.Goals as goal

pub overflow_add-p : goal.overflow_add-p
overflow_add-p c = omega (arith, c.requires.0.small, c.requires.1.1)

pub returns-then-second-gt-MOST_WORDS : goal.returns-then-second-gt-MOST_WORDS
returns-then-second-gt-MOST_WORDS c = untouched (store_far c.requires.1.0 (omega (arith, c.requires.1.1, c.word.ensures)) c.if-second-gt-MOST_WORDS.true)

pub overflow_add-p-2 : goal.overflow_add-p-2
overflow_add-p-2 c = omega (arith, c.requires.0.small, c.requires.1.1)

pub overflow_add-p-3 : goal.overflow_add-p-3
overflow_add-p-3 c = omega (arith, c.requires.0.small, c.requires.1.1)

pub writing-requires : goal.writing-requires
writing-requires c = c.requires.0.room

pub value-requires : goal.value-requires
value-requires c = record { small = omega (arith, c.if-second-gt-MOST_WORDS.false); room = omega (arith, c.requires.0.room, c.writing.ensures.within) }

pub value-requires-2 : goal.value-requires-2
value-requires-2 c = record { small = c.requires.0.small; room = omega (arith, c.requires.0.room, c.writing.ensures.within, c.value.ensures.within) }

pub returns : goal.returns
returns c = after_three c.writing.ensures c.value.ensures c.value-2.ensures (statement_store c.requires.1.0 c.requires.1.1 (omega (arith, c.requires.1.1, c.word.ensures)) c.word-offset.ensures c.word-size.ensures c.place_of-index.ensures c.above-next.ensures.value c.place_of-v.ensures c.writing.ensures.says c.value.ensures.says c.value-2.ensures.says)
