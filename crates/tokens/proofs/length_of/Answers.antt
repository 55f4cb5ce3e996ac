-- `length_of` meets its contract: from where the loop is, the span still ends at the same byte.
use mathlib.Core.Path.{sym, ◌∙◌}
use native.Mathlib.Omega.{arith}
use Rattle.std.proofs.Common.{rules}
use Rattle.tokens.proofs.Scan.{span_on, span_off, span_out}
use Rattle.tokens.proofs.length_of.Goals as goal

pub loop-i-init : goal.loop-i-init
loop-i-init g c = λ P h. omega arith

pub returns-then-not-may_stand : goal.returns-then-not-may_stand
returns-then-not-may_stand g c = record { by = λ P h. span_off P _ _ (c.loop-i.invariant P h) c.loop-i-test.true (sym (h _ _ (search rules) c.may_stand.ensures) ∙ c.if-not-may_stand.true) }

pub loop-i-preserved : goal.loop-i-preserved
loop-i-preserved g c = λ P h. span_on P _ _ (c.loop-i.invariant P h) c.loop-i-test.true (sym (h _ _ (search rules) c.may_stand.ensures) ∙ c.if-not-may_stand.false)

pub returns : goal.returns
returns g c = record { by = λ P h. span_out P _ _ (c.loop-i.invariant P h) c.loop-i-test.false (search rules) }
