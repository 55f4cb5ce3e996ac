-- What a width reaches lies within memory.
use Rattle.processor.proofs.Kept.{reached}
use mathlib.Core.Path.{sym, ◌∙◌}
use native.Mathlib.Omega.{arith}
use Rattle.emulator.proofs.rows.load_as.Goals as goal

pub read_at-requires : goal.read_at-requires
read_at-requires c = omega (arith, (reached c.args.s c.args.at (sym c.reaches.ensures ∙ c.if-reaches.true)).within)
