-- After the header and the first expression's items, if there are as many words.
use native.Mathlib.Omega.{arith}
use mathlib.Core.Path.{refl}
use Prim.Native.Nat.{◌+◌, ◌*◌}
use Rattle.rules.proofs.Heading.{room_on}
use Rattle.rules.proofs.store.second_expression.Goals as goal

pub returns-then-head-items : goal.returns-then-head-items
returns-then-head-items g c = λ h. absurd (omega (arith, h, c.if-head-items.true))

pub overflow_add-second : goal.overflow_add-second
overflow_add-second g c = omega (arith, c.requires.all.room.place)

pub overflow_add-second-2 : goal.overflow_add-second-2
overflow_add-second-2 g c = omega (arith, c.requires.all.room.place)

pub overflow_add-second-3 : goal.overflow_add-second-3
overflow_add-second-3 g c = omega (arith, c.requires.all.room.core_place)

pub overflow_add-second-4 : goal.overflow_add-second-4
overflow_add-second-4 g c = omega (arith, c.requires.all.room.core_place)

pub expression-requires : goal.expression-requires
expression-requires g c = room_on c.requires (8 + 4 * c.args.head.first) _ _ (omega (arith, c.if-head-items.false)) (omega arith) (omega arith) c.requires.all.room.locals refl refl refl

pub returns : goal.returns
returns g c = λ h. c.expression.ensures
