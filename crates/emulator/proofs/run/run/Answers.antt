-- `run` meets its contract: a step that goes on, a step that stops, and the limit. The arrays that are lent hold memory and the registers, and
-- the part of the log that is lent its first words.
use Prim.Native.Nat.{◌≤◌}
use Rattle.emulator.proofs.Turns.{stopped, turn, ended, no_going}
use Rattle.emulator.proofs.Log.{same_log, then_grows, joined}
use lib.ListN.{length}
use lib.Seq.{length-take-le, take-append-le, take-take}
use mathlib.Core.Path.{◌≡◌, refl}
use native.Mathlib.Nat.{sub-zero, add-zero}
use native.Mathlib.Omega.{arith}
use borrow.Author.Rules.{rules}
use Rattle.emulator.proofs.run.run.Goals as goal

pub loop-n-init : goal.loop-n-init
loop-n-init c = record { log_length = refl; grows = same_log _ _ _ (omega arith); rest = rw (sub-zero, add-zero) }

pub loop-n-preserved : goal.loop-n-preserved
loop-n-preserved c =
    let long : length c.loop-n.log ≡ c.args.room = omega (arith, c.loop-n.invariant.log_length, length-take-le c.args.room c.args.log.now (omega arith)) in
    record {
      log_length = omega arith;
      grows = then_grows c.loop-n.invariant.grows (rw long at c.in-Ok.ensures.grows);
      rest = turn c.args.size c.args.room c.args.limit c.args.before c.loop-n.n _ _ _ _ _ _ _ (search rules) (rw long at c.in-Ok.ensures.status_after) c.loop-n.invariant.rest refl;
    }

pub returns-in-Err-clause-before_value : goal.returns-in-Err-clause-before_value
returns-in-Err-clause-before_value c =
    let memory : c.in-Some.memory.now ≡ c.args.memory.now = search rules in
    let registers : c.in-Some-as_mut_array.registers.now ≡ c.args.registers.now = search rules in
    let long : length c.loop-n.log ≡ c.args.room = omega (arith, c.loop-n.invariant.log_length, length-take-le c.args.room c.args.log.now (omega arith)) in
    let within : c.step.new.logged ≤ length c.step.new.log = omega (arith, c.in-Err.ensures.grows.fits) in
    rw (← memory, ← registers, take-append-le _ _ _ within, ← take-take c.args.logged0 c.args.room c.args.log.now (omega arith), c.counted.ensures.0, c.from-status.ensures)
    (ended c.args.size c.args.room c.args.limit c.args.before c.loop-n.n _ _ _ _ _ _ _ (search rules) (rw long at c.in-Err.ensures.status_after) c.loop-n.invariant.rest (no_going c.in-Err.stop))

pub returns-in-Err-clause-grows : goal.returns-in-Err-clause-grows
returns-in-Err-clause-grows c =
    let long : length c.loop-n.log ≡ c.args.room = omega (arith, c.loop-n.invariant.log_length, length-take-le c.args.room c.args.log.now (omega arith)) in
    joined c.args.room c.args.log.now c.step.new.log (omega arith) (omega arith) (then_grows c.loop-n.invariant.grows (rw long at c.in-Err.ensures.grows))

pub returns-clause-before_value : goal.returns-clause-before_value
returns-clause-before_value c =
    let memory : c.in-Some.memory.now ≡ c.args.memory.now = search rules in
    let registers : c.in-Some-as_mut_array.registers.now ≡ c.args.registers.now = search rules in
    let all : c.loop-n.n ≡ c.args.limit = omega arith in
    let long : length c.loop-n.log ≡ c.args.room = omega (arith, c.loop-n.invariant.log_length, length-take-le c.args.room c.args.log.now (omega arith)) in
    let within : c.loop-n.logged ≤ length c.loop-n.log = omega (arith, c.loop-n.invariant.grows.fits) in
    rw (← memory, ← registers, take-append-le _ _ _ within, ← take-take c.args.logged0 c.args.room c.args.log.now (omega arith))
    (rw all at (stopped c.args.size c.args.room c.args.limit c.args.before c.loop-n.n _ _ (omega arith) c.loop-n.invariant.rest))

pub returns-clause-grows : goal.returns-clause-grows
returns-clause-grows c =
    let long : length c.loop-n.log ≡ c.args.room = omega (arith, c.loop-n.invariant.log_length, length-take-le c.args.room c.args.log.now (omega arith)) in
    joined c.args.room c.args.log.now c.loop-n.log (omega arith) long c.loop-n.invariant.grows
