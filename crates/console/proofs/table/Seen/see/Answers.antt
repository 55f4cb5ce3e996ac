-- `see` meets its contract: each test is one of the definition's.
use mathlib.Core.Path.{sym, ap, ◌∙◌}
use borrow.Author.Tests.{eq-eqb, ne_eqb}
use Rattle.console.specs.Table.{see_of, line}
use Rattle.console.proofs.table.Seen.see.Goals as goal

pub returns-then-is_some : goal.returns-then-is_some
unfolding see_of
returns-then-is_some c = rw (sym c.is_some.ensures ∙ c.if-is_some.true)

pub returns-then-is_some-2 : goal.returns-then-is_some-2
unfolding see_of
returns-then-is_some-2 c = rw (sym c.is_some.ensures ∙ c.if-is_some.false, ne_eqb c.args.self.expected 0 c.if-self-ne-UNKNOWN.true, sym c.option_at.ensures.test ∙ sym c.is_some-then-self-ne-UNKNOWN.ensures ∙ c.if-is_some-2.true) (ap (λ s. line s c.args.given.now) c.wrong.ensures)

pub returns-then-self-ne-UNKNOWN : goal.returns-then-self-ne-UNKNOWN
unfolding see_of
returns-then-self-ne-UNKNOWN c = rw (sym c.is_some.ensures ∙ c.if-is_some.false, ne_eqb c.args.self.expected 0 c.if-self-ne-UNKNOWN.true, sym c.option_at.ensures.test ∙ sym c.is_some-then-self-ne-UNKNOWN.ensures ∙ c.if-is_some-2.false) c.value.ensures

pub returns-then-place-eq-FIRST : goal.returns-then-place-eq-FIRST
unfolding see_of
returns-then-place-eq-FIRST c = rw (sym c.is_some.ensures ∙ c.if-is_some.false, eq-eqb c.args.self.expected 0 c.if-self-ne-UNKNOWN.false, eq-eqb c.args.place 7 c.if-place-eq-FIRST.true) c.file.ensures

pub returns : goal.returns
unfolding see_of
returns c = rw (sym c.is_some.ensures ∙ c.if-is_some.false, eq-eqb c.args.self.expected 0 c.if-self-ne-UNKNOWN.false, ne_eqb c.args.place 7 c.if-place-eq-FIRST.false) (ap (λ w. line w c.args.given.now) c.name.ensures)
