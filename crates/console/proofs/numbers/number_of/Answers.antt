-- `number_of` meets its contract: each test is one of the definition's.
use mathlib.Core.Path.{sym, ◌∙◌}
use borrow.Author.Tests.{eqb-true, eqb-false}
use Rattle.console.proofs.Folds.{no_digits, some_digits}
use Rattle.console.proofs.numbers.number_of.Goals as goal

pub returns-then-is_empty : goal.returns-then-is_empty
returns-then-is_empty c = no_digits _ _ (eqb-true _ 0 (sym c.if-is_empty.ensures))

pub digits_value-requires : goal.digits_value-requires
digits_value-requires c = sym c.all_digits.ensures ∙ c.if-not-all_digits.false

pub returns-then-not-all_digits : goal.returns-then-not-all_digits
returns-then-not-all_digits c = rw (sym c.all_digits.ensures ∙ c.if-not-all_digits.true) at (some_digits c.args.most c.args.word.now (eqb-false _ 0 (sym c.if-is_empty.ensures)))

pub returns : goal.returns
returns c = rw (sym c.all_digits.ensures ∙ c.if-not-all_digits.false, sym c.digits_value.ensures) at (some_digits c.args.most c.args.word.now (eqb-false _ 0 (sym c.if-is_empty.ensures)))
