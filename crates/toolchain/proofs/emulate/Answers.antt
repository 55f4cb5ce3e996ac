-- `emulate` meets its contract: a refusal touches nothing; else the parts of the lent buffers that the processor has are handed to `run_image`.
use Rattle.toolchain.proofs.Asked.{Enough, same_number, not_accepted, enough}
use Rattle.toolchain.proofs.Held.{held}
use Rattle.toolchain.specs.Emulation.{Emulates}
use Rattle.std.proofs.lemmas.Result.{err_from_is_err_and}
use lib.Seq.{length-take-le}
use mathlib.Core.Path.{refl, sym, ◌∙◌}
use native.Mathlib.Omega.{arith}
use Rattle.toolchain.proofs.emulate.Goals as goal

pub returns-in_err-answer : goal.returns-in_err-answer
unfolding Emulates
returns-in_err-answer c =
    let p = err_from_is_err_and c.from_residual.result c.from_residual.ensures.1 in
    rw (p.1, p.2) (sym c.in_err-answer.ensures ∙ sym (same_number c.in_err-answer.field-0.0), not_accepted c.in_err-answer.field-0.0, refl)

pub slice_bounds-run_image-end : goal.slice_bounds-run_image-end
slice_bounds-run_image-end c = let e : Enough _ = enough _ (sym c.in_ok-answer.ensures) in e.memory

pub slice_bounds-run_image-end-2 : goal.slice_bounds-run_image-end-2
slice_bounds-run_image-end-2 c = let e : Enough _ = enough _ (sym c.in_ok-answer.ensures) in sym (length-take-le _ c.args.memory.now e.memory)

pub slice_bounds-run_image-end-3 : goal.slice_bounds-run_image-end-3
slice_bounds-run_image-end-3 c = let e : Enough _ = enough _ (sym c.in_ok-answer.ensures) in e.registers

pub slice_bounds-run_image-end-4 : goal.slice_bounds-run_image-end-4
slice_bounds-run_image-end-4 c = let e : Enough _ = enough _ (sym c.in_ok-answer.ensures) in sym (length-take-le _ c.args.registers.now e.registers)

pub run_image-requires : goal.run_image-requires
run_image-requires c = let e : Enough _ = enough _ (sym c.in_ok-answer.ensures) in (length-take-le _ _ e.memory, length-take-le _ _ e.registers, e.code, e.input, e.log)

pub returns : goal.returns
unfolding Emulates
returns c =
    let e : Enough _ = enough _ (sym c.in_ok-answer.ensures) in
    (sym c.in_ok-answer.ensures, held _ _ _ _ _ _ refl refl (omega (arith, e.log, c.run_image.auto, c.run_image.ensures.grows.fits)) c.run_image.ensures.grows c.run_image.ensures.limit_value)
