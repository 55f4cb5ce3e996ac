-- So far the first words, then what was there.
use Prim.Native.Nat.{ℕ, ◌+◌, ◌*◌}
use mathlib.Core.Path.{◌≡◌, refl, ◌∙◌, ap}
use mathlib.Core.List.{List}
use lib.ListN.{length, get_or}
use lib.Seq.{sets, length-sets}
use Rattle.word.specs.Bytes.{bytes_of}
use Rattle.emission.proofs.Wordwise.{bytes_none, bytes_more}
use native.Mathlib.Omega.{arith}
use Rattle.emission.proofs.image.bytes.Goals as goal

pub loop-i-init : goal.loop-i-init
loop-i-init c = (refl, bytes_none c.args.words.now c.args.image.now)

pub put_bytes-requires : goal.put_bytes-requires
put_bytes-requires c = omega arith

pub loop-i-preserved : goal.loop-i-preserved
loop-i-preserved c = (ap length c.put_bytes.ensures ∙ length-sets c.loop-i.image (4 * c.loop-i.i) (bytes_of (get_or c.args.words.now c.loop-i.i 0)) ∙ c.loop-i.invariant.0, c.put_bytes.ensures ∙ ap (λ (l : List ℕ). sets l (4 * c.loop-i.i) (bytes_of (get_or c.args.words.now c.loop-i.i 0))) c.loop-i.invariant.1 ∙ bytes_more c.args.words.now c.args.image.now c.loop-i.i (omega arith) (omega arith) (c.loop-i.i + 1) (omega arith))

pub returns : goal.returns
returns c =
    let end : c.loop-i.i ≡ c.args.n = omega arith in
    c.loop-i.invariant.1 ∙ rw end
