-- The front page: what a run of a program's words is.
--   run_outcome : outcome, fuel, log and arrays are those of document 01 §5
--   run_log     : the log's buffer is that log, and then what stood there before
--   run_logged  : so many words were logged
use mathlib.Core.Path.{◌≡◌, refl, sym, ap, ◌∙◌}
use mathlib.Core.List.{List, [], ◌++◌}
use Prim.Native.Nat.{ℕ, ◌≤◌}
use native.Mathlib.Omega.{arith}
use lib.ListN.{length, take, drop, take-append-drop}
use lib.Seq.{length-take-le}
use Rattle.language.specs.Core.{Program}
use Rattle.language.specs.Meaning.{World, Run, ended, most_activations, run_of}
use Rattle.flat.specs.Words.{word, flat_run, words_of}
use Rattle.flat.specs.Fits.{Fits}
use Rattle.flat.proofs.Run.{flat_run_before}
use Rattle.std.specs.Prelude.{Ok, Err}
use Rattle.std.specs.Prelude as P
use Rattle.interpreter.specs.declared.Stop.{Stop}
use Rattle.interpreter.specs.declared.Stop.TheVariants.{Trapped, OutOfFuel}
use Rattle.interpreter.specs.declared.Outcome.{Outcome}
use Rattle.interpreter.specs.Post.{world, value_of, Calls, Grows, outcome_of, ended_of, Runs}

ended_as : (out : P.Result ℕ Stop) (ls : List ℕ) (w : World) → ended (value_of out ls w) ≡ record { outcome = outcome_of (ended_of out); world = w }
ended_as (Ok v) ls w = refl
ended_as (Err (Trapped t)) ls w = refl
ended_as (Err OutOfFuel) ls w = refl

-- the call of main is the run
pub ran : (t : List ℕ) (room fuel : ℕ) (arrays log : List ℕ) {main f n : ℕ} {out : P.Result ℕ Stop} {o : Outcome} {arrays' log' : List ℕ} → main ≡ word t 1 →
    Calls t room most_activations main [] (world fuel 0 log arrays) out (world f n log' arrays') → o ≡ ended_of out → Grows room 0 log n log' → Runs t room fuel arrays log o f n arrays' log'
unfolding flat_run
ran t room fuel arrays log {main} {f} {n} {out} {o} {arrays'} {log'} e x g y =
    record {
      same = rw (← e) (ap ended (x.same []) ∙ (ended_as out [] (world f n log' arrays') ∙ ap (λ (u : Outcome). record { outcome = outcome_of u; world = world f n log' arrays' }) (sym g)));
      within = y.within (omega arith);
      above = y.above;
    }

module _ (p : Program) (more : List ℕ) (fits : Fits p) {t : List ℕ} {room fuel : ℕ} {arrays log : List ℕ} {o : Outcome} {f n : ℕ} {arrays' log' : List ℕ} (e : t ≡ words_of p ++ more)
    (x : Runs t room fuel arrays log o f n arrays' log') where
  pub run_outcome : run_of p arrays fuel room ≡ record { outcome = outcome_of o; world = world f n log' arrays' }
  run_outcome = sym (flat_run_before p fits arrays fuel room more) ∙ (ap (λ (ws : List ℕ). flat_run ws arrays fuel room) (sym e) ∙ x.same)

  pub run_log : log' ≡ (run_of p arrays fuel room).world.log ++ drop n log
  run_log = sym (take-append-drop n log') ∙ (ap (λ (zs : List ℕ). take n log' ++ zs) x.above ∙ ap (λ (r : Run). r.world.log ++ drop n log) (sym run_outcome))

  pub run_logged : room ≤ length log' → length (run_of p arrays fuel room).world.log ≡ n
  run_logged l = ap (λ (r : Run). length r.world.log) run_outcome ∙ length-take-le n log' (omega (arith, x.within))
