-- The word's bytes take the place of four others.
use Prim.Native.Nat.{◌*◌}
use mathlib.Core.Path.{◌∙◌}
use native.Mathlib.Omega.{arith}
use Rattle.emission.proofs.Wordwise.{four}
use Rattle.emission.proofs.image.put_bytes.Goals as goal

pub returns : goal.returns
returns c = four c.args.image.now c.copy_from_slice.new.self (4 * c.args.i) _ c.args.w (omega arith) (omega arith) (c.copy_from_slice.ensures.after ∙ c.bytes_of.ensures)
