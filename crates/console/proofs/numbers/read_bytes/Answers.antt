-- `read_bytes` meets its contract: what the rest gives from where the loop is, is what the whole gives.
use mathlib.Core.Path.{refl}
use native.Mathlib.Omega.{arith}
use Rattle.console.proofs.Folds.{read_on, read_out}
use Rattle.console.proofs.numbers.read_bytes.Goals as goal

pub loop-b-init : goal.loop-b-init
loop-b-init c = (refl, refl, omega arith)

pub loop-b-preserved : goal.loop-b-preserved
loop-b-preserved c = (read_on c.args.text.now c.loop-b.b-index _ _ _ c.loop-b.invariant.0 c.loop-b-test.true c.read_byte-s.ensures, omega (arith, c.read_byte-s.auto, c.loop-b.invariant.1), omega arith)

pub shape_of-block : goal.shape_of-block
shape_of-block c = omega (arith, c.loop-b.invariant.1)

pub returns : goal.returns
returns c = read_out c.args.text.now c.loop-b.b-index _ _ c.loop-b.invariant.0 c.loop-b-test.false
