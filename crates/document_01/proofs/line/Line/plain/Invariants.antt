-- Each turn leaves less of the line.
use Rattle.std.proofs.Common.{length}
use Rattle.document_01.proofs.line.Line.plain.Given as goal

abbrev pub decreases-loop-byte : goal.decreases-loop-byte
decreases-loop-byte l = length l.self.rest.now
