-- `name` meets its contract: each test is one of the definition's.
use mathlib.Core.Path.{sym, ◌∙◌}
use Rattle.console.specs.Arguments.{named, named_new}
use Rattle.console.proofs.arguments.Seen.name.Goals as goal

pub returns-then-not-takes : goal.returns-then-not-takes
unfolding named
returns-then-not-takes c = rw (sym c.takes.ensures ∙ c.if-not-takes.true)

pub returns-in-Some : goal.returns-in-Some
unfolding named named_new
returns-in-Some c = rw (sym c.takes.ensures ∙ c.if-not-takes.false, sym c.value.ensures ∙ c.in-Some.is)

pub returns-in-None : goal.returns-in-None
unfolding named named_new
returns-in-None c = rw (sym c.takes.ensures ∙ c.if-not-takes.false, sym c.value.ensures ∙ c.in-None.is)
