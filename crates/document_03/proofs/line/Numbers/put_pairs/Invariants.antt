-- What is put ends within the room.
use Rattle.std.proofs.Common.{◌≤◌, length}
use Rattle.document_03.proofs.line.Numbers.put_pairs.Given as goal

abbrev pub invariant-loop : goal.invariant-loop
invariant-loop l = l.at ≤ length l.words
