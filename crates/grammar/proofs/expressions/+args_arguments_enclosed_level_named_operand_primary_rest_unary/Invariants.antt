-- Expressions: each way through is a law of the parser; the measure counts the steps inwards that are left, and the calls of one step.
use Prim.Native.Nat.{◌+◌, ◌*◌, ◌-◌}
use mathlib.Core.Path.{◌≡◌}
use lib.ListN.{length}
use Rattle.grammar.specs.Parse.{rest_of, exprs_of, levelled}
use Rattle.grammar.specs.Told.{tail_form, args_form}
use Rattle.grammar.proofs.Steps.{Going}
use Rattle.grammar.proofs.expressions.+args_arguments_enclosed_level_named_operand_primary_rest_unary.Given as goal

abbrev pub decreases-args : goal.decreases-args
decreases-args l = 8 * l.h + 1

abbrev pub decreases-arguments : goal.decreases-arguments
decreases-arguments l = 8 * l.h + 2

abbrev pub decreases-enclosed : goal.decreases-enclosed
decreases-enclosed l = 8 * l.h + 1

abbrev pub decreases-level : goal.decreases-level
decreases-level l = 8 * l.h

abbrev pub decreases-named : goal.decreases-named
decreases-named l = 8 * l.h + 3

abbrev pub decreases-operand : goal.decreases-operand
decreases-operand l = 8 * l.h + 1

abbrev pub decreases-primary : goal.decreases-primary
decreases-primary l = 8 * l.h + 4

abbrev pub decreases-rest : goal.decreases-rest
decreases-rest l = 8 * l.h + 2

abbrev pub decreases-unary : goal.decreases-unary
decreases-unary l = 8 * l.h + 1

abbrev pub invariant-args-loop-count : goal.invariant-args-loop-count
invariant-args-loop-count l = (Going args_form (λ tok. exprs_of tok (levelled tok l.h) 65536 l.d l.from) (λ tok. exprs_of tok (levelled tok l.h) (65536 - l.count) l.d l.i) l.ts.words.now l.ts.count l.initial.out l.from l.start l.i l.at l.count l.out) × (length l.out ≡ length l.initial.out)

abbrev pub invariant-rest-loop : goal.invariant-rest-loop
invariant-rest-loop l = (Going tail_form (λ tok. rest_of tok (levelled tok l.h) l.most l.l l.d l.from) (λ tok. rest_of tok (levelled tok l.h) (l.most - l.counter) l.l l.d l.i) l.ts.words.now l.ts.count l.initial.out l.from l.start l.i l.at 0 l.out) × (length l.out ≡ length l.initial.out)
