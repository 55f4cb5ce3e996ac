-- So far the first bytes, between what was there.
use Rattle.processor.specs.Machine.{placed}
use lib.Seq.{paste-zero, paste-suc, take-length}
use lib.ListN.{length, length-set}
use native.Mathlib.Numerals.{add-one}
use mathlib.Core.Path.{◌≡◌, refl, ◌∙◌}
use native.Mathlib.Omega.{arith}
use Rattle.emulator.proofs.image.place.Goals as goal

pub loop-j-init : goal.loop-j-init
loop-j-init c = (refl, paste-zero c.args.memory.now c.args.at c.args.bytes.now)

pub loop-j-preserved : goal.loop-j-preserved
loop-j-preserved c = (simp length-set c.loop-j.invariant.0, rw (c.loop-j.invariant.1, add-one c.loop-j.j) (paste-suc c.args.memory.now c.args.at c.args.bytes.now c.loop-j.j 0 (omega arith) (omega arith)))

pub returns : goal.returns
unfolding placed
returns c =
    let end : c.loop-j.j ≡ length c.args.bytes.now = omega arith in
    c.loop-j.invariant.1 ∙ rw (end, take-length c.args.bytes.now)
