-- So far the first words, then what was there.
use Prim.Native.Nat.{◌*◌}
use mathlib.Core.Path.{◌≡◌}
use mathlib.Core.List.{◌++◌}
use lib.ListN.{length, take, drop}
use Rattle.word.specs.Bytes.{bytes_of_words}
use Rattle.emission.proofs.image.bytes.Given as goal

abbrev pub invariant-loop-i : goal.invariant-loop-i
invariant-loop-i l = (length l.image ≡ length l.initial.image) × (l.image ≡ bytes_of_words (take l.i l.words) ++ drop (4 * l.i) l.initial.image)
