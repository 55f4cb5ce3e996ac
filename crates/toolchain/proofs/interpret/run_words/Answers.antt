-- `run_words` meets its contract, test by test.
use Rattle.toolchain.proofs.Running.{wrong_block, short_arrays, short_log, ran}
use Rattle.toolchain.specs.Interpretation.{lent}
use lib.Seq.{length-take-le}
use mathlib.Core.Path.{sym}
use native.Mathlib.Omega.{arith}
use Rattle.toolchain.proofs.interpret.run_words.Goals as goal

pub returns-then-input-elements : goal.returns-then-input-elements
returns-then-input-elements c = wrong_block c.args.core.now c.args.input.now c.elements-elements.result c.args.fuel c.args.room (lent c.args.arrays.now c.args.log.now) c.elements-elements.ensures c.if-input-elements.true

pub returns-then-arrays-elements : goal.returns-then-arrays-elements
returns-then-arrays-elements c = short_arrays c.args.core.now c.args.input.now c.elements-elements.result c.args.fuel c.args.room (lent c.args.arrays.now c.args.log.now) c.elements-elements.ensures c.if-input-elements.false c.if-arrays-elements.true

pub returns-then-log-room : goal.returns-then-log-room
returns-then-log-room c = short_log c.args.core.now c.args.input.now c.elements-elements.result c.args.fuel c.args.room (lent c.args.arrays.now c.args.log.now) c.elements-elements.ensures c.if-input-elements.false c.if-log-room.true

pub slice_bounds-run_block-end-2 : goal.slice_bounds-run_block-end-2
slice_bounds-run_block-end-2 c = sym (length-take-le c.elements-elements.result c.args.arrays.now (omega arith))

pub run_block-requires : goal.run_block-requires
run_block-requires c = (omega (arith, length-take-le c.elements-elements.result c.args.arrays.now (omega arith)), omega arith, c.requires)

pub returns : goal.returns
returns c = ran c.args.core.now c.args.input.now c.elements-elements.result c.args.fuel c.args.room (lent c.args.arrays.now c.args.log.now) c.elements-elements.ensures c.run_block.result _ _ c.if-input-elements.false (omega arith) (omega arith) (omega (arith, c.run_block.auto)) c.run_block.ensures
