-- The code is the definition.
use mathlib.Core.Path.{◌∙◌}
use borrow.Author.Tests.{lt-ltb}
use Rattle.emission.proofs.Pieces.{short_low, short_high}
use Rattle.emission.proofs.places.short.Goals as goal

pub returns-then-n-lt2048 : goal.returns-then-n-lt2048
returns-then-n-lt2048 c = lt-ltb c.args.n 2048 c.if-n-lt2048.true ∙ short_low c.if-n-lt2048.true

pub returns-else-n-lt2048 : goal.returns-else-n-lt2048
returns-else-n-lt2048 c = short_high c.if-n-lt2048.false
