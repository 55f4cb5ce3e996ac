-- An index and a value.
use mathlib.Core.Path.{refl}
use native.Mathlib.Omega.{arith}
use Rattle.grammar.proofs.Steps.{exits, room_at}
use Rattle.grammar.proofs.StmtLaws.{room_go, store_index_bad, store_unset, store_bad, store_done}
use Rattle.grammar.proofs.statements.store.Goals as goal

pub enclosed-requires : goal.enclosed-requires
enclosed-requires c = (room_at _ _ c.requires.0 (omega (arith, c.requires.1)) (omega arith), c.requires.1)

pub returns-in_err-index : goal.returns-in_err-index
returns-in_err-index c = exits c.from_residual.ensures.1 refl (store_index_bad _ _ c.in_err-index.ensures.by)

pub returns-in_err-expect : goal.returns-in_err-expect
returns-in_err-expect c = exits c.from_residual-in_err-expect.ensures.1 c.in_err-expect.ensures.0 (store_unset _ _ c.in_ok-index.ensures.by refl c.in_err-expect.ensures.1)

pub ended-requires : goal.ended-requires
ended-requires c = room_go c.requires.0 refl c.in_ok-index.ensures.by c.enclosed.auto.out _ (omega arith) (omega (arith, c.in_ok-expect.ensures.1))

pub returns-in_err-value : goal.returns-in_err-value
returns-in_err-value c = exits c.from_residual-in_err-value.ensures.1 refl (store_bad _ _ c.in_ok-index.ensures.by refl c.in_ok-expect.ensures.0 c.in_err-value.ensures.by)

pub put-requires : goal.put-requires
put-requires c = omega (arith, c.requires.0.free, c.requires.1, c.enclosed.auto.out, c.ended.auto.out)

pub returns : goal.returns
returns c = store_done _ _ c.in_ok-index.ensures.by refl c.in_ok-expect.ensures.0 refl c.requires.2 c.in_ok-value.ensures.by c.place-p.ensures c.value-x.ensures refl refl c.put.ensures.written
