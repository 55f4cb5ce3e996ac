-- `name` meets its contract: each test is one of the definition's.
use mathlib.Core.Path.{sym, ◌∙◌}
use borrow.Author.Tests.{eq-eqb, ne_eqb}
use Rattle.console.specs.Table.{named}
use Rattle.console.proofs.table.Seen.name.Goals as goal

pub returns-then-not-takes : goal.returns-then-not-takes
unfolding named
returns-then-not-takes c = rw (sym c.takes.ensures ∙ c.if-not-takes.true, c.wrong.ensures)

pub returns-then-given_for-ne0 : goal.returns-then-given_for-ne0
unfolding named
returns-then-given_for-ne0 c = rw (sym c.takes.ensures ∙ c.if-not-takes.false, ne_eqb _ 0 (λ e. c.if-given_for-ne0.true (c.given_for.ensures ∙ e)), c.wrong-then-given_for-ne0.ensures)

pub returns : goal.returns
unfolding named
returns c = rw (sym c.takes.ensures ∙ c.if-not-takes.false, eq-eqb _ 0 (sym c.given_for.ensures ∙ c.if-given_for-ne0.false))
