-- `blank_after` meets its contract: each arm is the definition's clause.
use mathlib.Core.Path.{sym, ap, ◌∙◌}
use Rattle.console.specs.Numbers.{input, blank_after, blank_in, stored}
use Rattle.console.proofs.Phases.{blank_stays}
use Rattle.console.proofs.numbers.blank_after.Goals as goal

pub returns-in-Between : goal.returns-in-Between
unfolding blank_after blank_in
returns-in-Between c = sym (ap (λ p. blank_in p (input c.args.r c.args.block.now)) c.in-Between.is)

pub returns-in-Dash : goal.returns-in-Dash
unfolding blank_after blank_in
returns-in-Dash c = ap (λ r. input r c.args.block.now) c.at.ensures ∙ sym (ap (λ p. blank_in p (input c.args.r c.args.block.now)) c.in-Dash.is)

pub returns-in-Positive : goal.returns-in-Positive
unfolding blank_after blank_in
returns-in-Positive c = c.store.ensures ∙ sym (ap (λ p. blank_in p (input c.args.r c.args.block.now)) c.in-Positive.is)

pub returns-in-Negative : goal.returns-in-Negative
unfolding blank_after blank_in
returns-in-Negative c = c.store-in-Negative.ensures ∙ (ap (λ n. stored n (input c.args.r c.args.block.now)) c.neg.ensures ∙ sym (ap (λ p. blank_in p (input c.args.r c.args.block.now)) c.in-Negative.is))

pub returns-in-Faulty : goal.returns-in-Faulty
returns-in-Faulty c = blank_stays (input c.args.r c.args.block.now) c.in-Faulty.is
