-- Claim 3 between the definitions: the image of a text that document 01 accepts, if it is not longer than document 03 §5 lets it be, keeps the meaning.
-- An image is at most 28 bytes long for each byte of the text and 60 besides, so that the image of every text of at most 18,722 bytes is one of those.
use Prim.Native.Nat.{ℕ, ◌+◌, ◌*◌, ◌≤◌}
use mathlib.Core.List.{List}
use native.Mathlib.Omega.{arith}
use lib.ListN.{length}
use Rattle.language.specs.Core.{Program}
use Rattle.language.specs.Text.{Accepted}
use Rattle.processor.specs.Image.{longest_code}
use Rattle.claims.specs.Keeps.{Keeps}
use Rattle.codegen.specs.Image.{image}
use Rattle.codegen.specs.Costs.{costs}
use Rattle.codegen.proofs.Paying.{image_short}
use Rattle.codegen.proofs.Theorem.{theorem}
use Rattle.elaboration.proofs.Accepted.{accepted, accepted_light}

pub kept : (text : List ℕ) (p : Program) → Accepted text p → length (image p) ≤ longest_code → Keeps costs p (image p)
kept text p a h = theorem p (accepted text p a).0 h

-- bytes of the image for each byte of the text, and besides
abbrev pub bytes_each : ℕ
bytes_each = 28

abbrev pub bytes_besides : ℕ
bytes_besides = 60

pub short : (text : List ℕ) (p : Program) → Accepted text p → length (image p) ≤ bytes_each * length text + bytes_besides
short text p a = omega (arith, image_short p, accepted_light text p a)

-- a text that is no longer than this has an image that is not too long
abbrev pub surely_short : ℕ
surely_short = 18722

pub kept_short : (text : List ℕ) (p : Program) → Accepted text p → length text ≤ surely_short → Keeps costs p (image p)
kept_short text p a h = kept text p a (omega (arith, short text p a, h))
