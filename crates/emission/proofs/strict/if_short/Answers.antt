-- By the test.
use mathlib.Core.Path.{sym, ◌∙◌}
use Rattle.emission.proofs.Strictly.{is_short, is_long}
use Rattle.emission.proofs.strict.if_short.Goals as goal

pub returns-then-short : goal.returns-then-short
returns-then-short c = is_short c.args.o c.args.n (sym c.short.ensures ∙ c.if-short.true)

pub returns-else-short : goal.returns-else-short
returns-else-short c = is_long c.args.o c.args.n (sym c.short.ensures ∙ c.if-short.false)
