-- Each function of the cycle emits the code of what stands where it looks. Measures: how far the words may still go, then how many statements there are, then
-- who calls whom.
use mathlib.Core.Path.{refl, sym, ap, ◌∙◌}
use native.Mathlib.Omega.{arith}
use Rattle.flat.specs.declared.statement.Kind.TheVariants as SV
use Rattle.flat.specs.Numbers.{statement_number}
use Rattle.emission.proofs.Tapes.{after_four, after_one, after_two, untouched}
use Rattle.compiler.proofs.Numbered.{statements_apart}
use Rattle.compiler.proofs.Stating as S
use Rattle.compiler.proofs.statements.+block_choose_statement_turns.Goals as goal

pub block-returns-then-n-eq0 : goal.block-returns-then-n-eq0
block-returns-then-n-eq0 t c = untouched (S.blocks_none c.if-n-eq0.true)

pub block-statement-requires : goal.block-statement-requires
block-statement-requires t c = (omega (arith, c.decreases, c.if-n-eq1.true), record { small = c.requires.small; room = c.requires.room })

pub block-returns-then-n-eq1 : goal.block-returns-then-n-eq1
block-returns-then-n-eq1 t c = after_one c.statement.ensures (S.blocks_one c.if-n-eq1.true c.statement.ensures.says)

pub block-skip-q-requires : goal.block-skip-q-requires
block-skip-q-requires t c = c.requires.small

pub block-returns-then-q-gt-MOST_WORDS : goal.block-returns-then-q-gt-MOST_WORDS
block-returns-then-q-gt-MOST_WORDS t c = untouched (S.blocks_far (omega (arith, c.if-n-eq0.false, c.if-n-eq1.false)) c.skip-q.ensures.skips c.if-q-gt-MOST_WORDS.true)

pub block-block-requires : goal.block-block-requires
block-block-requires t c = (omega (arith, c.decreases, c.if-n-eq0.false, c.if-n-eq1.false, c.if-q-gt-MOST_WORDS.false, c.skip-q.ensures.within), record { small = omega (arith, c.if-q-gt-MOST_WORDS.false); room = c.requires.room })

pub block-block-requires-2 : goal.block-block-requires-2
block-block-requires-2 t c = (omega (arith, c.decreases, c.if-n-eq0.false, c.if-n-eq1.false), record { small = c.requires.small; room = omega (arith, c.requires.room, c.block.ensures.within) })

pub block-returns : goal.block-returns
block-returns t c = after_two c.block.ensures c.block-2.ensures (S.blocks_halves (omega arith) c.skip-q.ensures.skips c.block.ensures.says c.block-2.ensures.says)

pub choose-overflow_add-p : goal.choose-overflow_add-p
choose-overflow_add-p t c = omega (arith, c.requires.0.small, c.requires.1.1)

pub choose-returns-then-second-gt-MOST_WORDS : goal.choose-returns-then-second-gt-MOST_WORDS
choose-returns-then-second-gt-MOST_WORDS t c = untouched (S.choose_far c.requires.1.0 (omega (arith, c.requires.1.1, c.word.ensures)) c.if-second-gt-MOST_WORDS.true)

pub choose-overflow_add-p-2 : goal.choose-overflow_add-p-2
choose-overflow_add-p-2 t c = omega (arith, c.requires.0.small, c.requires.1.1)

pub choose-overflow_add-p-3 : goal.choose-overflow_add-p-3
choose-overflow_add-p-3 t c = omega (arith, c.requires.0.small, c.requires.1.1)

pub choose-block-requires : goal.choose-block-requires
choose-block-requires t c = (omega (arith, c.decreases, c.requires.0.small, c.requires.1.1, c.if-second-gt-MOST_WORDS.false, c.ranges.end), record { small = omega (arith, c.if-second-gt-MOST_WORDS.false); room = c.requires.0.room })

pub choose-pass_over-requires : goal.choose-pass_over-requires
choose-pass_over-requires t c = (c.block.ensures.within, c.requires.0.room)

pub choose-block-requires-2 : goal.choose-block-requires-2
choose-block-requires-2 t c = (omega (arith, c.decreases, c.requires.0.small, c.requires.1.1, c.ranges.end), record { small = c.requires.0.small; room = omega (arith, c.requires.0.room, c.block.ensures.within, c.pass_over.ensures.within) })

pub choose-condition-requires : goal.choose-condition-requires
choose-condition-requires t c = record { small = c.requires.0.small; ahead = omega (arith, c.pass_over.ensures.within, c.block-2.ensures.within); room = omega (arith, c.requires.0.room, c.block.ensures.within) }

pub choose-returns : goal.choose-returns
choose-returns t c = after_four c.block.ensures c.pass_over.ensures c.block-2.ensures c.condition.ensures (S.statement_choose c.requires.1.0 c.requires.1.1 (omega (arith, c.requires.1.1, c.word.ensures)) c.word-n.ensures c.word-m.ensures c.block.ensures.says c.pass_over.ensures.says c.block-2.ensures.says c.condition.ensures.says)

pub statement-returns-in_default : goal.statement-returns-in_default
statement-returns-in_default t c = untouched (S.statement_none (omega (arith, c.in_default.ensures, c.word.ensures)))

pub statement-first_end-end-requires : goal.statement-first_end-end-requires
statement-first_end-end-requires t c = c.requires.small

pub statement-returns-in-Leave : goal.statement-returns-in-Leave
statement-returns-in-Leave t c = after_one c.leaving_zero.ensures (S.statement_leave (sym c.word.ensures ∙ sym c.in-Ok.ensures ∙ ap statement_number c.in-Leave.is) c.leaving_zero.ensures.says)

pub statement-returns-then-end-gt-MOST_WORDS : goal.statement-returns-then-end-gt-MOST_WORDS
statement-returns-then-end-gt-MOST_WORDS t c = untouched (S.statement_far (statements_apart SV.Leave c.in_default-kind.not-Leave (c.in-Ok.ensures ∙ c.word.ensures)) c.first_end-end.ensures c.if-end-gt-MOST_WORDS.true)

pub statement-put-requires : goal.statement-put-requires
statement-put-requires t c = (record { small = omega (arith, c.if-end-gt-MOST_WORDS.false); room = c.requires.room }, (sym c.word.ensures ∙ sym c.in-Ok.ensures ∙ ap statement_number c.in-Put.is, c.first_end-end.ensures))

pub statement-store-requires : goal.statement-store-requires
statement-store-requires t c = (record { small = omega (arith, c.if-end-gt-MOST_WORDS.false); room = c.requires.room }, (sym c.word.ensures ∙ sym c.in-Ok.ensures ∙ ap statement_number c.in-Store.is, c.first_end-end.ensures))

pub statement-choose-requires : goal.statement-choose-requires
statement-choose-requires t c = (omega (arith, c.decreases), (record { small = omega (arith, c.if-end-gt-MOST_WORDS.false); room = c.requires.room }, (sym c.word.ensures ∙ sym c.in-Ok.ensures ∙ ap statement_number c.in-Choose.is, c.first_end-end.ensures)))

pub statement-turns-requires : goal.statement-turns-requires
statement-turns-requires t c = (omega (arith, c.decreases), (record { small = omega (arith, c.if-end-gt-MOST_WORDS.false); room = c.requires.room }, (sym c.word.ensures ∙ sym c.in-Ok.ensures ∙ ap statement_number c.in-While.is, c.first_end-end.ensures)))

pub statement-give-requires : goal.statement-give-requires
statement-give-requires t c = (record { small = omega (arith, c.if-end-gt-MOST_WORDS.false); room = c.requires.room }, (sym c.word.ensures ∙ sym c.in-Ok.ensures ∙ ap statement_number c.in-Give.is, c.first_end-end.ensures))

pub statement-emit-requires : goal.statement-emit-requires
statement-emit-requires t c = (record { small = omega (arith, c.if-end-gt-MOST_WORDS.false); room = c.requires.room }, (sym c.word.ensures ∙ sym c.in-Ok.ensures ∙ ap statement_number c.in-Emit.is, c.first_end-end.ensures))

pub statement-called-requires : goal.statement-called-requires
statement-called-requires t c = (record { small = omega (arith, c.if-end-gt-MOST_WORDS.false); room = c.requires.room }, omega (arith, c.first_end-end.ensures))

pub statement-returns-in-Put : goal.statement-returns-in-Put
statement-returns-in-Put t c = c.put.ensures

pub statement-returns-in-Store : goal.statement-returns-in-Store
statement-returns-in-Store t c = c.store.ensures

pub statement-returns-in-Choose : goal.statement-returns-in-Choose
statement-returns-in-Choose t c = c.choose.ensures

pub statement-returns-in-While : goal.statement-returns-in-While
statement-returns-in-While t c = c.turns.ensures

pub statement-returns-in-Give : goal.statement-returns-in-Give
statement-returns-in-Give t c = c.give.ensures

pub statement-returns-in-Emit : goal.statement-returns-in-Emit
statement-returns-in-Emit t c = c.emit.ensures

pub statement-returns-in-Run : goal.statement-returns-in-Run
statement-returns-in-Run t c = after_one c.called.ensures (S.statement_run (sym c.word.ensures ∙ sym c.in-Ok.ensures ∙ ap statement_number c.in-Run.is) c.first_end-end.ensures c.called.ensures.says)

pub turns-returns-then-behind-eq0 : goal.turns-returns-then-behind-eq0
turns-returns-then-behind-eq0 t c = untouched (rw c.if-behind-eq0.true (S.while_nowhere c.requires.1.0 refl))

pub turns-overflow_add-p : goal.turns-overflow_add-p
turns-overflow_add-p t c = omega (arith, c.requires.0.small, c.requires.1.1)

pub turns-block-requires : goal.turns-block-requires
turns-block-requires t c = (omega (arith, c.decreases, c.requires.0.small, c.requires.1.1, c.ranges.end), record { small = c.requires.0.small; room = omega (arith, c.requires.0.room) })

pub turns-condition-requires : goal.turns-condition-requires
turns-condition-requires t c = record { small = c.requires.0.small; ahead = omega (arith, c.block.ensures.within); room = c.requires.0.room }

pub turns-jump_back-requires : goal.turns-jump_back-requires
turns-jump_back-requires t c = (omega (arith, c.requires.0.room, c.block.ensures.within, c.condition.ensures.within), c.requires.0.room)

pub turns-returns : goal.turns-returns
turns-returns t c = record {
  says = rw c.jump_back.ensures.says.stays (S.statement_while c.requires.1.0 (omega (arith, c.if-behind-eq0.false)) c.requires.1.1 c.word-n.ensures c.block.ensures.says c.condition.ensures.says c.jump_back.ensures.says.puts);
  within = omega (arith, c.block.ensures.within, c.condition.ensures.within, c.jump_back.ensures.within);
  long = c.jump_back.ensures.long ∙ c.condition.ensures.long ∙ c.block.ensures.long;
  same = c.jump_back.ensures.same ∙ c.condition.ensures.same ∙ c.block.ensures.same;
}
