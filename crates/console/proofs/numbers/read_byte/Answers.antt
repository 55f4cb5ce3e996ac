-- `read_byte` meets its contract: each test is one of the definition's.
use mathlib.Core.Path.{sym, ap, ◌∙◌}
use Rattle.console.specs.Numbers.{input, read_byte}
use Rattle.console.proofs.numbers.read_byte.Goals as goal

pub returns-then-stays : goal.returns-then-stays
unfolding read_byte
returns-then-stays c = rw (sym c.stays.ensures ∙ c.if-stays.true)

pub returns-then-is_blank : goal.returns-then-is_blank
unfolding read_byte
returns-then-is_blank c = rw (sym c.stays.ensures ∙ c.if-stays.false, sym c.is_blank.ensures ∙ c.if-is_blank.true) c.blank_after.ensures

pub returns : goal.returns
unfolding read_byte
returns c = rw (sym c.stays.ensures ∙ c.if-stays.false, sym c.is_blank.ensures ∙ c.if-is_blank.false) (ap (λ r. input r c.args.block.now) c.sign_after.ensures)
