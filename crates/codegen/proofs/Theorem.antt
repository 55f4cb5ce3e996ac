-- The front page: for every core program that elaboration gives, if its image is not longer than document 03 §5 lets it be, the image keeps the meaning.
-- A unit of fuel is paid for by at most 128 steps of the machine, with 80 for the beginning and the end; a step by at most 65,536 units of fuel, and
-- as many may be owed when the run stops.
use Prim.Native.Nat.{◌*◌, ◌≤◌}
use mathlib.Core.Path.{◌≡◌}
use native.Mathlib.Omega.{arith}
use lib.ListN.{length}
use Rattle.processor.specs.Image.{longest_code}
use Rattle.language.specs.Core.{Program}
use Rattle.claims.specs.Keeps.{Keeps}
use Rattle.symbolic.proofs.Start.{image_length}
use Rattle.codegen.specs.Image.{instructions_of, image}
use Rattle.codegen.specs.Owed.{Owed}
use Rattle.codegen.specs.Costs.{costs}
use Rattle.codegen.proofs.Whole.{keeps}

image_is : (p : Program) → length (image p) ≡ 4 * length (instructions_of p)
unfolding image
image_is p = image_length (instructions_of p)

pub theorem : (p : Program) → Owed p → length (image p) ≤ longest_code → Keeps costs p (image p)
theorem p O h = keeps p O (let e = image_is p in omega (arith, e))
