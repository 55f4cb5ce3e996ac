-- Statements and blocks: each way through is a law of the parser; the measure counts the blocks that may still nest.
use Prim.Native.Nat.{◌+◌, ◌*◌, ◌-◌}
use mathlib.Core.Path.{◌≡◌}
use lib.ListN.{length}
use Rattle.grammar.specs.Parse.{stmts_of, block_of}
use Rattle.grammar.specs.Told.{block_form}
use Rattle.grammar.proofs.Steps.{Going}
use Rattle.grammar.proofs.statements.+block_choose_repeat_stmt_stmts.Given as goal

abbrev pub decreases-block : goal.decreases-block
decreases-block l = 8 * l.h

abbrev pub decreases-choose : goal.decreases-choose
decreases-choose l = 8 * l.h + 1

abbrev pub decreases-repeat : goal.decreases-repeat
decreases-repeat l = 8 * l.h + 1

abbrev pub decreases-stmt : goal.decreases-stmt
decreases-stmt l = 8 * l.h + 2

abbrev pub decreases-stmts : goal.decreases-stmts
decreases-stmts l = 8 * l.h + 3

abbrev pub invariant-stmts-loop-count : goal.invariant-stmts-loop-count
invariant-stmts-loop-count l = (Going block_form (λ tok. stmts_of tok (block_of tok l.h) 65536 l.d l.from) (λ tok. stmts_of tok (block_of tok l.h) (65536 - l.count) l.d l.i) l.ts.words.now l.ts.count l.initial.out l.from l.start l.i l.at l.count l.out) × (length l.out ≡ length l.initial.out)
