-- "A run with limit a, gone on with for b more, is the run with limit a + b" (document 03 §4), and how many steps a run counts.
use Prim.Native.Nat.{ℕ, zero, suc, ◌+◌, ◌≤◌}
use mathlib.Core.Path.{◌≡◌, refl, sym, ap, subst}
use mathlib.Core.Bool.{Bool, true, false}
use native.Mathlib.Omega.{arith}
use native.Mathlib.Nat.{zero-add, suc-add}
use lib.Dec.{T, eqb}
use Rattle.word.specs.Choice.{pick}
use Rattle.processor.specs.declared.Status.{Status}
use Rattle.processor.specs.declared.Status.TheVariants.{Going, Exit, Trap, Fault, Limit}
use Rattle.processor.specs.Machine.{Machine, state}
use Rattle.processor.specs.Execute.{halt}
use Rattle.processor.specs.Run.{step_of, is_going, counted, Run, run_of, resumed, onward}
use Rattle.processor.proofs.Ways.{Stops, Ways, step_by}

-- A run as its limit grows.

pub run_zero : (size room : ℕ) (m : Machine) (k : ℕ) → run_of size room zero m k ≡ record { machine = halt m Limit; steps = k }
unfolding run_of
run_zero size room m k = refl

pub run_suc : (size room n : ℕ) (m : Machine) (k : ℕ)
    → run_of size room (suc n) m k
    ≡ pick (is_going (step_of size room m).status) (run_of size room n (step_of size room m) (k + 1)) (record { machine = step_of size room m; steps = k + counted (step_of size room m).status })
unfolding run_of
run_suc size room n m k = refl

pub going_is : (s : Status) → is_going s ≡ true → s ≡ Going
going_is Going e = refl
going_is Exit e = absurd (subst T (sym e) tt)
going_is (Trap t) e = absurd (subst T (sym e) tt)
going_is (Fault n) e = absurd (subst T (sym e) tt)
going_is Limit e = absurd (subst T (sym e) tt)

-- A step never ends with limit.

abbrev pub Unlimited : Status → Type 0
Unlimited Going = Unit {0}
Unlimited Exit = Unit {0}
Unlimited (Trap t) = Unit {0}
Unlimited (Fault n) = Unit {0}
Unlimited Limit = ⊥

stop_unlimited : (s : Status) → Stops s → Unlimited s
stop_unlimited Going t = tt
stop_unlimited Exit t = tt
stop_unlimited (Trap n) t = tt
stop_unlimited (Fault n) t = tt
stop_unlimited Limit t = t

pub step_unlimited : (size room : ℕ) (m : Machine) → Unlimited (step_of size room m).status
step_unlimited size room m = step_by room m (λ n. Unlimited n.status) ways size
  where
    ways : Ways room m (λ n. Unlimited n.status)
    ways = record { going = λ p. tt; writing = λ rd v p. tt; storing = λ s at v p e. tt; logging = λ v p l. tt; stopping = stop_unlimited }

resumed_stop : (size room b : ℕ) (r : Run) (s : Status) → Unlimited s → resumed size room b r s ≡ r
resumed_stop size room b r Going h = refl
resumed_stop size room b r Exit h = refl
resumed_stop size room b r (Trap t) h = refl
resumed_stop size room b r (Fault n) h = refl
resumed_stop size room b r Limit h = absurd h

pub run_add : (size room a b : ℕ) (m : Machine) (k : ℕ) → m.status ≡ Going → run_of size room (a + b) m k ≡ onward size room b (run_of size room a m k)
run_add size room zero b m k g =
    rw (zero-add b, run_zero size room m k) (ap (λ (s : Status). run_of size room b (state m.registers m.pc m.memory m.log s) k) g)
run_add size room (suc a) b m k g =
    rw (suc-add a b, run_suc size room (a + b) m k, run_suc size room a m k)
    (go (is_going (step_of size room m).status) refl (run_add size room a b (step_of size room m) (k + 1)))
  where
    stop : Run
    stop = record { machine = step_of size room m; steps = k + counted (step_of size room m).status }

    go : (x : Bool) → is_going (step_of size room m).status ≡ x
        → ((step_of size room m).status ≡ Going → run_of size room (a + b) (step_of size room m) (k + 1) ≡ onward size room b (run_of size room a (step_of size room m) (k + 1)))
        → pick x (run_of size room (a + b) (step_of size room m) (k + 1)) (record { machine = step_of size room m; steps = k + counted (step_of size room m).status })
        ≡ onward size room b (pick x (run_of size room a (step_of size room m) (k + 1)) (record { machine = step_of size room m; steps = k + counted (step_of size room m).status }))
    go true e rec = rec (going_is _ e)
    go false e rec = sym (resumed_stop size room b stop (step_of size room m).status (step_unlimited size room m))

-- A run counts at most as many steps as its limit says.

counted_most : (s : Status) → counted s ≤ 1
counted_most Going = omega arith
counted_most Exit = omega arith
counted_most (Trap t) = omega arith
counted_most (Fault n) = go (eqb n 1)
  where
    go : (x : Bool) → pick x 0 1 ≤ 1
    go true = omega arith
    go false = omega arith
counted_most Limit = omega arith

pub run_steps : (size room n : ℕ) (m : Machine) (k : ℕ) → (run_of size room n m k).steps ≤ k + n
run_steps size room zero m k = rw (run_zero size room m k) (omega arith)
run_steps size room (suc n) m k =
    rw (run_suc size room n m k)
    (go (is_going (step_of size room m).status) (run_steps size room n (step_of size room m) (k + 1)) (counted_most (step_of size room m).status))
  where
    go : (x : Bool) → (run_of size room n (step_of size room m) (k + 1)).steps ≤ k + 1 + n → counted (step_of size room m).status ≤ 1
        → (pick x (run_of size room n (step_of size room m) (k + 1)) (record { machine = step_of size room m; steps = k + counted (step_of size room m).status })).steps ≤ k + suc n
    go true r c = omega arith
    go false r c = omega arith
