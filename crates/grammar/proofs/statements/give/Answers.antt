-- A value or none.
use mathlib.Core.Path.{refl}
use native.Mathlib.Omega.{arith}
use Rattle.grammar.proofs.Steps.{yes, no}
use Rattle.grammar.proofs.StmtLaws.{give_leave, give_done}
use Rattle.grammar.proofs.statements.give.Goals as goal

pub put-end-requires : goal.put-end-requires
put-end-requires c = omega (arith, c.requires.0.free, c.requires.1)

pub returns-then-is : goal.returns-then-is
returns-then-is c = give_leave _ _ c.place-p.ensures refl (yes c.if-is.ensures.same) (c.if-is.ensures.there refl) c.put-end.ensures.written c.put-end.ensures.end

pub returns : goal.returns
returns c = give_done _ _ c.place-p.ensures refl (no c.if-is.ensures.same) c.single.ensures
