-- The token after the name says which.
use mathlib.Core.Path.{refl}
use native.Mathlib.Omega.{arith}
use Rattle.grammar.proofs.Steps.{yes, no, room_at}
use Rattle.grammar.proofs.StmtLaws.{change_assign, change_store, change_run, change_none}
use Rattle.grammar.proofs.statements.change.Goals as goal

pub single-requires : goal.single-requires
single-requires c = (room_at _ _ c.requires.0 (omega (arith, c.requires.1)) (omega arith), c.if-is.ensures.there refl)

pub returns-then-is : goal.returns-then-is
returns-then-is c = change_assign _ _ refl (yes c.if-is.ensures.same) c.requires.2 c.place-p.ensures c.value-x.ensures c.single.ensures

pub store-requires : goal.store-requires
store-requires c = (c.requires.0, c.if-is-2.ensures.there refl, c.requires.2)

pub returns-then-is-2 : goal.returns-then-is-2
returns-then-is-2 c = change_store _ _ refl (no c.if-is.ensures.same) (yes c.if-is-2.ensures.same) c.store.ensures

pub run-requires : goal.run-requires
run-requires c = (c.requires.0, c.if-is-3.ensures.there refl, c.requires.2)

pub returns-then-is-3 : goal.returns-then-is-3
returns-then-is-3 c = change_run _ _ refl (no c.if-is.ensures.same) (no c.if-is-2.ensures.same) (yes c.if-is-3.ensures.same) c.run.ensures

pub returns : goal.returns
returns c = change_none _ _ refl (no c.if-is.ensures.same) (no c.if-is-2.ensures.same) (no c.if-is-3.ensures.same)
