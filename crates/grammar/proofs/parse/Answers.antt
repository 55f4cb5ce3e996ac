-- The parts' promises, put together.
use mathlib.Core.Logic.{inr}
use Rattle.grammar.proofs.Whole.{few_tokens, held_words, start, whole, whole_fault, whole_end, handed_on}
use native.Mathlib.Omega.{arith}
use Rattle.grammar.proofs.parse.Goals as goal

pub returns-then-tree-lt-TREE_ROOM : goal.returns-then-tree-lt-TREE_ROOM
returns-then-tree-lt-TREE_ROOM c = record { by = inr c.if-tree-lt-TREE_ROOM.true }

pub returns-in_err-count : goal.returns-in_err-count
returns-in_err-count c = handed_on c.from_residual.ensures.1 c.in_err-count.ensures

pub invariant_of-ts : goal.invariant_of-ts
invariant_of-ts c = record { few = few_tokens c.in_ok-count.ensures.by; held = held_words c.in_ok-count.ensures.by c.tokens.auto.room }

pub invariant_of-ts-then-p-count : goal.invariant_of-ts-then-p-count
invariant_of-ts-then-p-count c = record { few = few_tokens c.in_ok-count.ensures.by; held = held_words c.in_ok-count.ensures.by c.tokens.auto.room }

pub items-requires : goal.items-requires
items-requires c = start c.in_ok-count.ensures.by c.tokens.auto.room (omega (arith, c.if-tree-lt-TREE_ROOM.false))

pub returns-then-p-count : goal.returns-then-p-count
returns-then-p-count c = whole_fault c.in_ok-count.ensures.by c.in-Err.ensures.by c.if-p-count.true c.place.ensures

pub returns-in-Ok : goal.returns-in-Ok
returns-in-Ok c = whole c.in_ok-count.ensures.by c.in-Ok.ensures.by

pub returns-else-p-count : goal.returns-else-p-count
returns-else-p-count c = whole_end c.in_ok-count.ensures.by c.in-Err.ensures.by c.if-p-count.false
