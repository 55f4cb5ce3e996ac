-- A block goes on statement by statement; the blocks of a choice stand behind its header, so that the words that are left grow fewer.
use native.Mathlib.Omega.{arith}
use mathlib.Core.Path.{ap}
use Rattle.grammar.specs.Numbers.{number_of_statement}
use Rattle.rules.proofs.Sorts.{apart}
use Rattle.rules.proofs.Ending as L
use Rattle.rules.proofs.endings.+ends_in_return_returns.Goals as goal
use Rattle.rules.proofs.endings.+ends_in_return_returns.Goals.{ends_in_return-in-Some, ends_in_return-in-None}

pub ends_in_return-loop-init : goal.ends_in_return-loop-init
ends_in_return-loop-init t c = L.ending_starts _ _ _ c.requires.1

pub ends_in_return-overflow_add-at : goal.ends_in_return-overflow_add-at
ends_in_return-overflow_add-at t c = omega (arith, c.loop.invariant.near)

pub ends_in_return-returns-then-tree-at : goal.ends_in_return-returns-then-tree-at
ends_in_return-returns-then-tree-at t c = L.ending_short c.loop.invariant c.loop-test.true c.if-tree-at.true

pub ends_in_return-read-requires : goal.ends_in_return-read-requires
ends_in_return-read-requires t c = c.loop.invariant.near

pub ends_in_return-overflow_add-at-in-loop : goal.ends_in_return-overflow_add-at-in-loop
ends_in_return-overflow_add-at-in-loop t c = omega (arith, c.loop.invariant.near)

pub ends_in_return-overflow_add-at-in-loop-2 : goal.ends_in_return-overflow_add-at-in-loop-2
ends_in_return-overflow_add-at-in-loop-2 t c = omega (arith, c.loop.invariant.near)

pub ends_in_return-returns-then-tree-at-2 : goal.ends_in_return-returns-then-tree-at-2
ends_in_return-returns-then-tree-at-2 t c = L.ending_cut c.loop.invariant c.loop-test.true c.word.ensures c.if-tree-at-2.true

pub ends_in_return-returns-ends-requires : goal.ends_in_return-returns-ends-requires
ends_in_return-returns-ends-requires t c = (omega (arith, c.decreases, c.loop.invariant.far, c.if-tree-at-2.false), (c.requires.0, omega (arith, c.if-tree-at-2.false, c.word.ensures, c.in-Some.ensures.is_rest, L.word_there c.args.tree.now c.loop.at 7), c.in-Some.ensures))

pub ends_in_return-overflow_add-at-in-loop-3 : goal.ends_in_return-overflow_add-at-in-loop-3
ends_in_return-overflow_add-at-in-loop-3 t c = omega (arith, c.if-tree-at-2.false, c.requires.0)

pub ends_in_return-loop-preserved : goal.ends_in_return-loop-preserved
ends_in_return-loop-preserved t c = L.ending_again c.loop.invariant c.loop-test.true c.word.ensures (elim c.match-read.branch [ ends_in_return-in-Some w ↦ rw w.ends-is w.returns-ends.ensures | ends_in_return-in-None w ↦ L.never_one w.in-None.ensures ]) c.requires.0 c.if-tree-at-2.false

pub ends_in_return-returns : goal.ends_in_return-returns
ends_in_return-returns t c = L.ending_done c.loop.invariant c.loop-test.false

pub returns-returns-then-head-b : goal.returns-returns-then-head-b
returns-returns-then-head-b t c = L.choice_short c.args.tree.now c.args.p c.requires.2 (ap number_of_statement c.in-Choose.is) c.if-head-b.true

pub returns-overflow_add-p : goal.returns-overflow_add-p
returns-overflow_add-p t c = omega (arith, c.requires.0, c.requires.1, c.if-head-b.false)

pub returns-ends_in_return-requires : goal.returns-ends_in_return-requires
returns-ends_in_return-requires t c = (omega (arith, c.decreases, c.requires.1, c.if-head-b.false), (c.requires.0, omega (arith, c.requires.0, c.requires.1, c.if-head-b.false)))

pub returns-returns-then-not-ends_in_return : goal.returns-returns-then-not-ends_in_return
returns-returns-then-not-ends_in_return t c = L.choice_no c.args.tree.now c.args.p c.requires.2 (ap number_of_statement c.in-Choose.is) c.ends_in_return.ensures c.if-not-ends_in_return.true

pub returns-overflow_add-p-in-Choose : goal.returns-overflow_add-p-in-Choose
returns-overflow_add-p-in-Choose t c = omega (arith, c.requires.0, c.requires.1, c.if-head-b.false)

pub returns-ends_in_return-requires-in-Choose : goal.returns-ends_in_return-requires-in-Choose
returns-ends_in_return-requires-in-Choose t c = (omega (arith, c.decreases, c.requires.1, c.if-head-b.false), (c.requires.0, omega (arith, c.requires.0, c.requires.1, c.if-head-b.false)))

pub returns-returns-in-Leave : goal.returns-returns-in-Leave
returns-returns-in-Leave t c = L.leaves_so c.args.tree.now c.args.p c.requires.2 (ap number_of_statement c.in-Leave.is)

pub returns-returns-in-Give : goal.returns-returns-in-Give
returns-returns-in-Give t c = L.gives_so c.args.tree.now c.args.p c.requires.2 (ap number_of_statement c.in-Give.is)

pub returns-returns-else-not-ends_in_return : goal.returns-returns-else-not-ends_in_return
returns-returns-else-not-ends_in_return t c = L.choice_both c.args.tree.now c.args.p c.requires.2 (ap number_of_statement c.in-Choose.is) c.ends_in_return.ensures c.if-not-ends_in_return.false c.ends_in_return-in-Choose.ensures

pub returns-returns-in_default : goal.returns-returns-in_default
returns-returns-in_default t c = L.never c.args.tree.now c.args.p c.requires.2 (apart _ 4 c.in_default.not-Leave) (apart _ 5 c.in_default.not-Give) (apart _ 2 c.in_default.not-Choose)
