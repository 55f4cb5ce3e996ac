-- `word_or` meets its contract.
use mathlib.Core.Path.{sym, ◌∙◌}
use Rattle.tokens.proofs.Lists.{pointwise_same}
use Rattle.tokens.proofs.word_or.Goals as goal

pub returns-then-eq : goal.returns-then-eq
returns-then-eq c = rw (sym (pointwise_same c.args.name.now c.args.word.now) ∙ (sym c.eq.ensures ∙ c.if-eq.true))

pub returns-else-eq : goal.returns-else-eq
returns-else-eq c = rw (sym (pointwise_same c.args.name.now c.args.word.now) ∙ (sym c.eq.ensures ∙ c.if-eq.false))
