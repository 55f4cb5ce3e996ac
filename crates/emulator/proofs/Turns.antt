-- A run, one step at a time.
use Prim.Native.Nat.{ℕ, suc, ◌+◌, ◌-◌, ◌<◌, ◌≤◌}
use mathlib.Core.Path.{◌≡◌, refl, sym, ◌∙◌, ap, subst}
use mathlib.Core.Bool.{true, false}
use mathlib.Core.List.{List}
use native.Mathlib.Omega.{arith}
use native.Mathlib.Nat.{add_assoc}
use Rattle.processor.specs.declared.Status.{Status}
use Rattle.processor.specs.declared.Status.TheVariants.{Going, Limit}
use Rattle.processor.specs.Machine.{Machine, state}
use Rattle.processor.specs.Execute.{halt}
use Rattle.processor.specs.Run.{step_of, is_going, counted, run_of, Run}
use Rattle.processor.proofs.Onward.{going_is}
use Rattle.emulator.specs.declared.stop.Stop.{Stop}
use Rattle.emulator.specs.declared.stop.Stop.TheVariants as stops
use Rattle.emulator.specs.Stands.{status_of}

-- After n of the limit's steps, and those before the run, the rest of the run is the whole.
module _ (size room limit before n : ℕ) (m : Machine) (r : List ℕ) (p : ℕ) (mm l : List ℕ) (st : Status) (all : Run) (h : n < limit)
    (e : state r p mm l st ≡ step_of size room m) (so : run_of size room (limit - n) m (before + n) ≡ all) where
  opened : run_of size room (suc (limit - (n + 1))) m (before + n) ≡ all
  opened = subst (λ (x : ℕ). run_of size room x m (before + n) ≡ all) minus so
    where
      minus : limit - n ≡ suc (limit - (n + 1))
      minus = omega arith

  -- a step that goes on
  pub turn : is_going st ≡ true → run_of size room (limit - (n + 1)) (state r p mm l Going) (before + (n + 1)) ≡ all
  unfolding run_of
  turn g = rw (← going_is st g, e, ← add_assoc before n 1) (step (sym (ap (λ (x : Machine). is_going x.status) e) ∙ g))
    where
      step : is_going (step_of size room m).status ≡ true → run_of size room (limit - (n + 1)) (step_of size room m) (before + n + 1) ≡ all
      step q = rw q at opened

  -- a step that stops
  pub ended : is_going st ≡ false → all ≡ record { machine = state r p mm l st; steps = before + n + counted st }
  unfolding run_of
  ended g = sym (rw (← e, g) at opened)

-- what stops a run is no going on
pub no_going : (stop : Stop) → is_going (status_of stop) ≡ false
no_going stops.Exit = refl
no_going (stops.Trap number) = refl
no_going (stops.Fault number) = refl

-- the limit
pub stopped : (size room limit before n : ℕ) (m : Machine) (all : Run) → limit ≤ n → run_of size room (limit - n) m (before + n) ≡ all
    → all ≡ record { machine = halt m Limit; steps = before + n }
unfolding run_of
stopped size room limit before n m all h so = sym (subst (λ (x : ℕ). run_of size room x m (before + n) ≡ all) none so)
  where
    none : limit - n ≡ 0
    none = omega arith
