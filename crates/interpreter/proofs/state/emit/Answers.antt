-- The word above those that are logged is set, if it is within the room.
use Rattle.interpreter.proofs.Changing as L
use Rattle.interpreter.proofs.state.emit.Goals as goal

pub returns-then-i-room-clause-by_index : goal.returns-then-i-room-clause-by_index
returns-then-i-room-clause-by_index c = λ arrays. L.emitted _ _ _ _ _ _ _ c.if-i-room.true c.requires

pub returns-clause-by_index : goal.returns-clause-by_index
returns-clause-by_index c = λ arrays. L.no_room _ _ _ _ _ _ c.if-i-room.false c.requires
