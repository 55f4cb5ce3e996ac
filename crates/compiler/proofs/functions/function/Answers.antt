-- The end, the body, the lets, the beginning.
use native.Mathlib.Omega.{arith}
use Rattle.emission.proofs.Tapes.{after_four, untouched}
use Rattle.compiler.proofs.Functioning.{function_far, function_many, function_large, function_whole}
use Rattle.compiler.proofs.functions.function.Goals as goal
use Rattle.compiler.proofs.functions.function.Goals.{then-place-gt-MOST_WORDS-via-then-place-gt-MOST_WORDS, then-place-gt-MOST_WORDS-via-else-place-gt-MOST_WORDS+then-parameters-gt-MOST_LOCALS, then-place-gt-MOST_WORDS-via-else-place-gt-MOST_WORDS+else-parameters-gt-MOST_LOCALS+then-lets-gt-MOST_LOCALS}

pub returns-then-place-gt-MOST_WORDS : goal.returns-then-place-gt-MOST_WORDS
returns-then-place-gt-MOST_WORDS c = untouched (elim c.then-place-gt-MOST_WORDS.branch [
  | then-place-gt-MOST_WORDS-via-then-place-gt-MOST_WORDS w ↦ function_far c.word-place.ensures c.word-n.ensures c.word-parameters.ensures c.word-lets.ensures w.if-place-gt-MOST_WORDS.true
  | then-place-gt-MOST_WORDS-via-else-place-gt-MOST_WORDS+then-parameters-gt-MOST_LOCALS w ↦ function_many c.word-place.ensures c.word-n.ensures c.word-parameters.ensures c.word-lets.ensures w.if-parameters-gt-MOST_LOCALS.true
  | then-place-gt-MOST_WORDS-via-else-place-gt-MOST_WORDS+else-parameters-gt-MOST_LOCALS+then-lets-gt-MOST_LOCALS w ↦ function_large c.word-place.ensures c.word-n.ensures c.word-parameters.ensures c.word-lets.ensures w.if-lets-gt-MOST_LOCALS.true
])

pub block-requires : goal.block-requires
block-requires c = record { small = omega (arith, c.if-place-gt-MOST_WORDS.false); room = omega (arith, c.requires.1, c.leaving_zero.ensures.within) }

pub clears-requires : goal.clears-requires
clears-requires c = (omega (arith, c.if-parameters-gt-MOST_LOCALS.false), omega (arith, c.if-lets-gt-MOST_LOCALS.false))

pub opening-requires : goal.opening-requires
opening-requires c = omega (arith, c.requires.1, c.leaving_zero.ensures.within, c.block.ensures.within, c.clears.ensures.within)

pub returns : goal.returns
returns c = after_four c.leaving_zero.ensures c.block.ensures c.clears.ensures c.opening.ensures (function_whole c.word-place.ensures c.word-n.ensures c.word-parameters.ensures c.word-lets.ensures c.leaving_zero.ensures.says c.block.ensures.says c.clears.ensures.says c.opening.ensures.says)
