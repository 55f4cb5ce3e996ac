-- `same_words` meets its contract: what is left of both lists decides, from where the loop is.
use mathlib.Core.Path.{◌≡◌}
use lib.ListN.{drop}
use Rattle.word.specs.Bytes.{words_of_bytes}
use Rattle.language.specs.Tokens.{same}
use Rattle.agreement.proofs.same_words.Given as goal

abbrev pub invariant-loop-i : goal.invariant-loop-i
invariant-loop-i l = same (words_of_bytes l.bytes) l.words ≡ same (drop l.i (words_of_bytes l.bytes)) (drop l.i l.words)
