-- The header that stands there, by its kind.
use native.Mathlib.Omega.{arith}
use Rattle.rules.proofs.Heading as L
use Rattle.rules.proofs.head.Head+Statement.read.Goals as goal

pub returns-in_default : goal.returns-in_default
returns-in_default c = omega (arith, c.header_at-words.ensures.is_kind, c.in_default.ensures)

pub returns : goal.returns
returns c = L.kind_by c.in-Some.ensures c.header_at-words.ensures
