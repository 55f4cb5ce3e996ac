-- By the body, and by whether it ends in return.
use mathlib.Core.Path.{refl, ◌∙◌}
use native.Mathlib.Omega.{arith}
use Rattle.declarations.proofs.Finishing as L
use Rattle.declarations.proofs.Rooms.{block_room, counted_more}
use mathlib.Core.Path.{ap, ◌∙◌}
use Rattle.rules.specs.Tables.{result_of}
use Rattle.rules.proofs.Valued as V
use Rattle.declarations.proofs.functions.finish.Goals as goal

pub overflow_add-site : goal.overflow_add-site
overflow_add-site c = omega (arith, c.requires.1.item)

pub overflow_add-site-2 : goal.overflow_add-site-2
overflow_add-site-2 c = omega (arith, c.requires.1.item)

pub overflow_add-first : goal.overflow_add-first
overflow_add-first c = omega (arith, c.requires.1.item)

pub overflow_mul-first : goal.overflow_mul-first
overflow_mul-first c = omega (arith, c.requires.2)

pub overflow_add-first-2 : goal.overflow_add-first-2
overflow_add-first-2 c = omega (arith, c.requires.1.item, c.requires.2)

pub block-requires : goal.block-requires
block-requires c = block_room c.requires.0 c.requires.1 c.requires.2

pub must_end-requires : goal.must_end-requires
must_end-requires c = (omega (arith, c.requires.0.words), omega (arith, c.requires.1.item, c.requires.2))

pub overflow_add-site-then-not-must_end : goal.overflow_add-site-then-not-must_end
overflow_add-site-then-not-must_end c = omega (arith, c.requires.1.item)

pub returns-then-not-must_end : goal.returns-then-not-must_end
returns-then-not-must_end c = L.finish_open _ _ _ _ _ _ _ _ _ refl (c.result_type-result.ensures ∙ ap result_of c.word.ensures) c.word-many.ensures c.block.ensures c.in_ok-count.was c.must_end.ensures c.word-then-not-must_end.ensures c.if-not-must_end.true

pub overflow_cast-entry : goal.overflow_cast-entry
overflow_cast-entry c = omega (arith, c.requires.1.item, c.requires.1.body)

pub overflow_sub-entry : goal.overflow_sub-entry
overflow_sub-entry c = counted_more c.block.ensures.bounded c.in_ok-count.was

pub write-requires : goal.write-requires
write-requires c = omega (arith, c.requires.0.for_core, c.requires.1.item, c.requires.1.entry, c.block.auto.core)

pub returns : goal.returns
returns c = L.finish_made _ _ _ _ _ _ _ _ _ refl (c.result_type-result.ensures ∙ ap result_of c.word.ensures) c.word-many.ensures c.block.ensures c.in_ok-count.was c.must_end.ensures c.if-not-must_end.false c.write.ensures

pub returns-in_err-count : goal.returns-in_err-count
returns-in_err-count c = rw (V.passed _ c.from_residual.ensures.1) (L.finish_fault _ _ _ _ _ _ _ _ _ refl (c.result_type-result.ensures ∙ ap result_of c.word.ensures) c.word-many.ensures c.block.ensures c.in_err-count.was)
