-- After the eight words of the header.
use native.Mathlib.Omega.{arith}
use Rattle.rules.proofs.Heading.{header_room}
use Rattle.rules.proofs.run.call_arguments.Goals as goal

pub overflow_add-first : goal.overflow_add-first
overflow_add-first g c = omega (arith, c.requires.0.all.room.place)

pub overflow_add-first-2 : goal.overflow_add-first-2
overflow_add-first-2 g c = omega (arith, c.requires.0.all.room.core_place)

pub overflow_sub-n : goal.overflow_sub-n
overflow_sub-n g c = omega (arith, c.requires.1)

pub scan-requires : goal.scan-requires
scan-requires g c = (header_room c.requires.0).after

pub returns : goal.returns
returns g c = c.scan.ensures
