-- The test decides the relation: two runs agree exactly where it says so.
use mathlib.Core.Path.{◌≡◌, refl, sym, ap, subst, ◌∙◌}
use mathlib.Core.Bool.{Bool, true, not}
use mathlib.Core.List.{List}
use mathlib.Core.Option.{some}
use Prim.Native.Nat.{ℕ, ◌*◌}
use native.Mathlib.Omega.{arith}
use lib.ListN.{length, drop}
use borrow.Author.Tests.{eq-eqb, eqb-true}
use Rattle.word.specs.Choice.{both}
use Rattle.language.specs.Core.{Program}
use Rattle.language.specs.Tokens.{same, begins}
use Rattle.language.specs.Meaning.{Outcome, finished, stopped, trapped, out_of_fuel, Run}
use Rattle.processor.specs.declared.Status.{Status}
use Rattle.processor.specs.declared.Status.TheVariants.{Going, Exit, Trap, Fault, Limit}
use Rattle.processor.specs.Run as M
use Rattle.processor.specs.Image.{arrays_of}
use Rattle.claims.specs.Keeps.{Costs, stop_for, Begins}
use Rattle.tokens.proofs.Lists.{clash, both_true, same_eq, same_refl, begins_append, begins_split}
use Rattle.agreement.specs.Agreement.{Agrees, exits, traps_with, faults, agrees_of, agreed}

-- The stops.

exits_true : (s : Status) → exits s ≡ true → s ≡ Exit
unfolding exits
exits_true Going e = clash (sym e)
exits_true Exit e = refl
exits_true (Trap u) e = clash (sym e)
exits_true (Fault n) e = clash (sym e)
exits_true Limit e = clash (sym e)

traps_true : (t : ℕ) (s : Status) → traps_with t s ≡ true → s ≡ Trap t
unfolding traps_with
traps_true t Going e = clash (sym e)
traps_true t Exit e = clash (sym e)
traps_true t (Trap u) e = ap Trap (sym (eqb-true t u e))
traps_true t (Fault n) e = clash (sym e)
traps_true t Limit e = clash (sym e)

no_fault : (s : Status) → not (faults s) ≡ true → (n : ℕ) → s ≡ Fault n → ⊥
unfolding faults
no_fault s e n q = clash (sym e ∙ ap (λ (x : Status). not (faults x)) q)

faultless : (s : Status) → ((n : ℕ) → s ≡ Fault n → ⊥) → not (faults s) ≡ true
unfolding faults
faultless Going h = refl
faultless Exit h = refl
faultless (Trap u) h = refl
faultless (Fault n) h = absurd (h n refl)
faultless Limit h = refl

-- What both left. The text's run has `log` and `arrays`, the image's stops with s and has l and a.

module _ (log arrays : List ℕ) (s : Status) (l a : List ℕ) where
  abbrev Left : Status → Type 0
  Left stop = (s ≡ stop) × (l ≡ log) × (a ≡ arrays)

  left : (stop : Status) (t : Bool) → (t ≡ true → s ≡ stop) → both t (both (same l log) (same a arrays)) ≡ true → Left stop
  left stop t stops e =
      let q : (t ≡ true) × (both (same l log) (same a arrays) ≡ true) = both_true t _ e in
      let k : (same l log ≡ true) × (same a arrays ≡ true) = both_true (same l log) _ q.1 in
      (stops q.0, same_eq l log k.0, same_eq a arrays k.1)

  ends : (o : Outcome) → agrees_of o log arrays s l a ≡ true → (stop : Status) → stop_for o ≡ some stop → Left stop
  unfolding agrees_of
  ends finished e stop q = left stop (exits s) (λ h. exits_true s h ∙ (cc)) e
  ends (stopped (trapped t)) e stop q = left stop (traps_with t s) (λ h. traps_true t s h ∙ (cc)) e
  ends (stopped out_of_fuel) e stop q = absurd (let z : ◌≡◌ {A = ℕ} 0 1 = cc in omega arith)

  goes_on : agrees_of (stopped out_of_fuel) log arrays s l a ≡ true → ((n : ℕ) → s ≡ Fault n → ⊥) × Begins log l
  unfolding agrees_of
  goes_on e =
      let q : (not (faults s) ≡ true) × (begins log l ≡ true) = both_true (not (faults s)) _ e in
      (no_fault s q.0, (drop (length log) l, sym (begins_split log l q.1)))

  ends_back : (o : Outcome) → ((stop : Status) → stop_for o ≡ some stop → Left stop) → (o ≡ stopped out_of_fuel → ((n : ℕ) → s ≡ Fault n → ⊥) × Begins log l) → agrees_of o log arrays s l a ≡ true
  unfolding agrees_of exits traps_with
  ends_back finished e g = let h : Left Exit = e Exit refl in rw (h.0, h.1, h.2, same_refl log, same_refl arrays)
  ends_back (stopped (trapped t)) e g = let h : Left (Trap t) = e (Trap t) refl in rw (h.0, h.1, h.2, eq-eqb t t refl, same_refl log, same_refl arrays)
  ends_back (stopped out_of_fuel) e g =
      let h : ((n : ℕ) → s ≡ Fault n → ⊥) × Begins log l = g refl in
      rw (faultless s h.0, sym h.1.1, begins_append log h.1.0)

module _ (costs : Costs) (p : Program) (image : List ℕ) (r : Run) (m : M.Run) where
  pub decides : agreed p r m ≡ true → Agrees costs p image r m
  decides e = record {
    ends = λ stop q.
        let h = ends r.world.log r.world.arrays m.machine.status m.machine.log (arrays_of (4 * p.elements) m.machine) r.outcome e stop q in
        record { stops = h.0; log = h.1; arrays = h.2 };
    goes_on = λ q.
        goes_on r.world.log r.world.arrays m.machine.status m.machine.log (arrays_of (4 * p.elements) m.machine)
        (subst (λ (o : Outcome). agrees_of o r.world.log r.world.arrays m.machine.status m.machine.log (arrays_of (4 * p.elements) m.machine) ≡ true) q e);
  }

  pub decided : Agrees costs p image r m → agreed p r m ≡ true
  decided h =
      ends_back r.world.log r.world.arrays m.machine.status m.machine.log (arrays_of (4 * p.elements) m.machine) r.outcome
      (λ stop q. let k = h.ends stop q in (k.stops, k.log, k.arrays))
      h.goes_on
