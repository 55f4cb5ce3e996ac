-- `left_same` meets its contract: the test is the definition's.
use mathlib.Core.Path.{sym, ◌∙◌}
use Rattle.agreement.proofs.Comparing.{pointwise_same}
use Rattle.agreement.proofs.left_same.Goals as goal

pub returns-then-eq : goal.returns-then-eq
returns-then-eq c = rw (sym (pointwise_same c.args.logged.now c.args.log.now) ∙ (sym c.eq.ensures ∙ c.if-eq.true)) c.same_words.ensures

pub returns-else-eq : goal.returns-else-eq
returns-else-eq c = rw (sym (pointwise_same c.args.logged.now c.args.log.now) ∙ (sym c.eq.ensures ∙ c.if-eq.false)) c.if-eq.false
