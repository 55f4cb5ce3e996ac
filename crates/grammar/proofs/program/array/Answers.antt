-- A name, a type, a size.
use mathlib.Core.Path.{refl}
use Rattle.grammar.proofs.Steps.{exits}
use Rattle.grammar.proofs.ItemLaws.{array_unnamed, array_bare, array_untyped, array_bad, array_done}
use Rattle.grammar.proofs.program.array.Goals as goal

pub returns-in_err-expect : goal.returns-in_err-expect
returns-in_err-expect c = exits c.from_residual.ensures.1 c.in_err-expect.ensures.0 (array_unnamed _ refl c.in_err-expect.ensures.1)

pub returns-in_err-expect-2 : goal.returns-in_err-expect-2
returns-in_err-expect-2 c = exits c.from_residual-in_err-expect-2.ensures.1 c.in_err-expect-2.ensures.0 (array_bare _ refl c.in_ok-expect.ensures.0 refl c.in_err-expect-2.ensures.1)

pub returns-in_err-expect-3 : goal.returns-in_err-expect-3
returns-in_err-expect-3 c = exits c.from_residual-in_err-expect-3.ensures.1 c.in_err-expect-3.ensures.0 (array_untyped _ refl c.in_ok-expect.ensures.0 refl c.in_ok-expect-2.ensures.0 refl c.in_err-expect-3.ensures.1)

pub returns-in_err-room : goal.returns-in_err-room
returns-in_err-room c = exits c.from_residual-in_err-room.ensures.1 refl (array_bad _ refl c.in_ok-expect.ensures.0 refl c.in_ok-expect-2.ensures.0 refl c.in_ok-expect-3.ensures.0 c.in_err-room.ensures.by)

pub returns : goal.returns
returns c = array_done _ refl c.in_ok-expect.ensures.0 refl c.in_ok-expect-2.ensures.0 refl c.in_ok-expect-3.ensures.0 c.in_ok-room.ensures.by c.place-p.ensures c.value-x.ensures c.put-end.ensures.written c.put-end.ensures.end
