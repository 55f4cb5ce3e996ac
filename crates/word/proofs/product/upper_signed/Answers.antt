-- A negative right side takes the left side away from the upper half, by a law of Halves.
use Rattle.word.proofs.Halves.{signed_positive, signed_negative}
use mathlib.Core.Path.{◌∙◌}
use borrow.Author.Rules.{rules}
use Rattle.word.proofs.product.upper_signed.Goals as goal

pub returns-then-b-lt2147483648 : goal.returns-then-b-lt2147483648
returns-then-b-lt2147483648 c = c.upper_mixed-h.ensures ∙ signed_positive _ _ c.if-b-lt2147483648.true

pub returns-else-b-lt2147483648 : goal.returns-else-b-lt2147483648
returns-else-b-lt2147483648 c = rw (c.sub.ensures, c.upper_mixed-h.ensures) (signed_negative _ _ (search rules) c.if-b-lt2147483648.false)
