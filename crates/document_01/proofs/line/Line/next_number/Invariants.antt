-- Each turn leaves less of the line.
use Rattle.std.proofs.Common.{◌≤◌, length}
use Rattle.document_01.proofs.line.Line.next_number.Given as goal

abbrev pub invariant-loop-byte : goal.invariant-loop-byte
invariant-loop-byte l = length l.self.rest.now ≤ length l.fn.self.rest.now

abbrev pub decreases-loop-byte : goal.decreases-loop-byte
decreases-loop-byte l = length l.self.rest.now
