-- `same_words` meets its contract: where there are too few or too many, they are not the same.
use mathlib.Core.Path.{sym, ◌∙◌}
use native.Mathlib.Omega.{arith}
use Rattle.word.proofs.WordBytes.{words_of_bytes_length, words_of_bytes_at}
use Rattle.tokens.proofs.Scan.{same_on, same_off, same_out, same_other}
use Rattle.agreement.proofs.same_words.Goals as goal

pub returns-then-bytes-words : goal.returns-then-bytes-words
returns-then-bytes-words c = same_other _ _ (λ e. c.if-bytes-words.true (sym (words_of_bytes_length c.args.bytes.now) ∙ e))

pub returns-then-word_of-word : goal.returns-then-word_of-word
returns-then-word_of-word c = same_off _ _ _ c.loop-i.invariant (omega (arith, c.if-bytes-words.false, words_of_bytes_length c.args.bytes.now)) c.loop-i-test.true (λ e. c.if-word_of-word.true (c.word_of.ensures ∙ (sym (words_of_bytes_at c.args.bytes.now c.loop-i.i (omega (arith, c.if-bytes-words.false))) ∙ e)))

pub loop-i-preserved : goal.loop-i-preserved
loop-i-preserved c = same_on _ _ _ c.loop-i.invariant (omega (arith, c.if-bytes-words.false, words_of_bytes_length c.args.bytes.now)) c.loop-i-test.true (words_of_bytes_at c.args.bytes.now c.loop-i.i (omega (arith, c.if-bytes-words.false)) ∙ (sym c.word_of.ensures ∙ c.if-word_of-word.false))

pub returns : goal.returns
returns c = same_out _ _ _ c.loop-i.invariant (omega (arith, c.if-bytes-words.false, words_of_bytes_length c.args.bytes.now)) c.loop-i-test.false
