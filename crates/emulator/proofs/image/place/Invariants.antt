-- So far the first bytes, between what was there.
use lib.Seq.{paste}
use lib.ListN.{length}
use mathlib.Core.Path.{◌≡◌}
use Rattle.emulator.proofs.image.place.Given as goal

abbrev pub invariant-loop-j : goal.invariant-loop-j
invariant-loop-j l = (length l.memory ≡ length l.initial.memory) × (l.memory ≡ paste l.initial.memory l.at l.bytes l.j)
