-- `resume` meets its contract: a refusal touches nothing, a run that the limit did not stop stays as it ended, and the others go on.
use Rattle.toolchain.proofs.Asked.{Enough, same_number, not_accepted, enough, resume_refused, resume_full, resume_accepted}
use Rattle.toolchain.proofs.Held.{unchanged, not_resumed}
use Rattle.toolchain.specs.Emulation.{Resumes, buffers, steps_more}
use Rattle.std.proofs.lemmas.Result.{err_from_is_err_and}
use mathlib.Core.Path.{refl, sym, ◌∙◌}
use native.Mathlib.Omega.{arith}
use Rattle.toolchain.proofs.resume.Goals as goal

pub returns-in_err-answer : goal.returns-in_err-answer
unfolding Resumes
returns-in_err-answer c =
    let p = err_from_is_err_and c.from_residual.result c.from_residual.ensures.1 in
    rw (p.1, p.2) (resume_refused _ _ _ (same_number c.in_err-answer.field-0.0 ∙ c.in_err-answer.ensures) (not_accepted c.in_err-answer.field-0.0), not_accepted c.in_err-answer.field-0.0, refl)

pub returns-then-room-from : goal.returns-then-room-from
unfolding Resumes
returns-then-room-from c = (resume_full _ _ (sym c.in_ok-answer.ensures) c.if-room-from.true, (λ e. absurd (omega arith)), refl)

pub go_on-requires : goal.go_on-requires
go_on-requires c = let e : Enough _ = enough _ (sym c.in_ok-answer.ensures) in (e.code, e.memory, e.registers, e.log, c.if-room-from.false, c.in-Limit.is)

pub returns-in-Limit : goal.returns-in-Limit
unfolding Resumes
returns-in-Limit c = (resume_accepted _ _ (sym c.in_ok-answer.ensures) c.if-room-from.false, c.go_on.ensures)

pub returns-in_default : goal.returns-in_default
unfolding Resumes
returns-in_default c =
    let e : Enough _ = enough _ (sym c.in_ok-answer.ensures) in (
      resume_accepted _ _ (sym c.in_ok-answer.ensures) c.if-room-from.false,
      unchanged c.args.size c.args.room (steps_more c.args.limit c.args.from.steps) c.args.from (buffers c.args.memory.now c.args.registers.now c.args.log.now) (omega (arith, e.log, c.if-room-from.false))
          (not_resumed _ _ _ _ c.args.from.status c.in_default.not-Limit),
    )
