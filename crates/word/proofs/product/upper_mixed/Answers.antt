-- A negative left side takes the right side away from the upper half, by a law of Halves.
use Rattle.word.proofs.Halves.{mixed_positive, mixed_negative}
use mathlib.Core.Path.{◌∙◌}
use borrow.Author.Rules.{rules}
use Rattle.word.proofs.product.upper_mixed.Goals as goal

pub returns-then-a-lt2147483648 : goal.returns-then-a-lt2147483648
returns-then-a-lt2147483648 c = c.upper_unsigned-h.ensures ∙ mixed_positive _ _ c.if-a-lt2147483648.true

pub returns-else-a-lt2147483648 : goal.returns-else-a-lt2147483648
returns-else-a-lt2147483648 c = rw (c.sub.ensures, c.upper_unsigned-h.ensures) (mixed_negative _ _ (search rules) c.if-a-lt2147483648.false)
