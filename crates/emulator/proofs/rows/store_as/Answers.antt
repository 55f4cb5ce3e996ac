-- What a width reaches lies within memory.
use Rattle.processor.proofs.Kept.{reached}
use mathlib.Core.Path.{sym, ◌∙◌}
use native.Mathlib.Omega.{arith}
use Rattle.emulator.proofs.rows.store_as.Goals as goal

pub write_at-requires : goal.write_at-requires
write_at-requires c = omega (arith, (reached c.args.s c.args.at (sym c.reaches.ensures ∙ c.if-reaches.true)).within)
