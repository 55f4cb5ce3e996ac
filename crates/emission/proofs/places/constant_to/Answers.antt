-- By whether the constant is short.
use mathlib.Core.Path.{sym, ◌∙◌}
use Rattle.emission.proofs.Tapes.{after_one, after_two}
use Rattle.emission.proofs.Pieces.{constant_short, constant_long}
use Rattle.emission.proofs.places.constant_to.Goals as goal

pub returns-then-short : goal.returns-then-short
returns-then-short c = after_one c.put.ensures (constant_short (sym c.short.ensures ∙ c.if-short.true) c.put.ensures.says)

pub returns-else-short : goal.returns-else-short
returns-else-short c = after_two c.put-else-short.ensures c.put-else-short-2.ensures (constant_long c.args.n (sym c.short.ensures ∙ c.if-short.false) c.lower-low.ensures c.upper-high.ensures c.put-else-short.ensures.says c.put-else-short-2.ensures.says)
