-- The whole run: what the source shows with n units of fuel, the symbolic processor shows after some m steps, and the other way round.
use mathlib.Core.Path.{◌≡◌, refl, sym, ap, ◌∙◌, subst}
use mathlib.Core.List.{List, []}
use Prim.Native.Nat.{ℕ, suc, ◌+◌, ◌*◌, ◌≤◌}
use native.Mathlib.Omega.{arith}
use lib.ListN.{length}
use Rattle.processor.specs.declared.Status.{Status}
use Rattle.processor.specs.declared.Status.TheVariants.{Going, Exit, Trap, Fault, Limit}
use Rattle.language.specs.Core.{Program}
use Rattle.language.specs.Meaning.{trapped, out_of_fuel, Result, goes, stops, Outcome, finished, stopped, Run, ended, call_at, most_activations}
use Rattle.symbolic.specs.Symbolic.{ra, sp, request, State, state, set, pos, puts, quit, initial, run}
use Rattle.symbolic.proofs.Runs.{Stopped, later}
use Rattle.symbolic.proofs.Steps.{exits}
use Rattle.symbolic.proofs.Arrays.{initial_holds}
use Rattle.symbolic.proofs.Instructions.{NoFault}
use Rattle.codegen.specs.Places.{stack_start, stack_end}
use Rattle.codegen.specs.Statements.{limit}
use Rattle.codegen.specs.Image.{entry_of, instructions_of}
use Rattle.codegen.specs.Owed.{Owed}
use Rattle.codegen.specs.Costs.{K, K0, C, C0}
use Rattle.codegen.proofs.Logic.{Arrays, Setting, Sound, sound_then, sound_step, sound_end, sound_ran, ran_none, ran_step}
use Rattle.codegen.proofs.Activation.{Linked, CallIn}
use Rattle.codegen.proofs.Operators.{one_is, zero_is}
use Rattle.codegen.proofs.Functions.{called}
use Rattle.codegen.proofs.Link.{linked, begun, placed}

-- how the symbolic processor shows an outcome: a source that is out of fuel is one that goes on
abbrev pub seen : Outcome → Status
seen finished = Exit
seen (stopped (trapped t)) = Trap t
seen (stopped out_of_fuel) = Going

module _ (p : Program) (O : Owed p) (arrays : List ℕ) (room : ℕ) (all : length arrays ≡ p.elements) where
  abbrev L : Linked
  L = linked p room O

  abbrev S : Setting
  S = L.setting

  -- the source's run with n units of fuel
  abbrev pub call : ℕ → Result ℕ
  call n = call_at room p.functions most_activations p.main [] [] (record { fuel = n; log = []; arrays = arrays })

  abbrev pub source : ℕ → Run
  source n = ended (call n)

  -- the machine after m steps
  abbrev pub after : ℕ → State
  after m = run room (instructions_of p) m (initial arrays)

  holds : Arrays p.elements arrays (initial arrays).memory
  holds = record { all = all; cell = λ i h. (initial_holds arrays).cell i (omega (arith, all)) }

  ends : (n : ℕ) → Sound S (call n) (K * n + K0) n C0 (λ _ _ w τ. (τ.status ≡ Exit) × (τ.log ≡ w.log) × Arrays p.elements w.arrays τ.memory) (initial arrays)
  ends n =
      let c = begun p in
      let σ1 : State = puts sp stack_start (initial arrays) in
      let σ2 : State = puts limit stack_end σ1 in
      let σ3 : State = puts request 1 σ2 in
      let σ4 : State = state Going (entry_of p p.main) (set ra (pos 4) σ3.registers) σ3.memory σ3.log in
      let under : CallIn L 64 = called L (λ f h. O.each f h) (placed p) 64 (omega arith) in
      sound_ran S 3 (omega arith)
      (ran_step S {τ = σ1} refl refl c.0 refl (ran_step S {τ = σ2} refl refl c.1.0 refl
      (ran_step S {τ = σ3} refl refl c.1.1.0 (ap (λ (v : ℕ). puts request v σ2) one_is) (ran_none S))))
      (sound_step S {z2 = C} {τ = σ4} refl refl c.1.1.1.0 refl (omega arith) (omega arith)
      (sound_then S {z2 = 0} (call n) 4 (omega arith) (omega arith) (omega arith)
      (under.run p.main [] [] (record { fuel = n; log = []; arrays = arrays }) 4 σ4 (record {
        on = refl;
        here = refl;
        known = O.main_known;
        arity = sym O.main_alone;
        room = refl;
        limit_is = refl;
        request_is = refl;
        ra_is = refl;
        values = λ i h. absurd (omega arith);
        log_is = refl;
        arrays = holds;
      }))
      (λ v ls w τ Z.
      let τ1 : State = puts request 0 τ in
      sound_ran S 2 (omega arith)
      (ran_step S {τ = τ1} Z.0.on Z.0.here c.1.1.1.1.0 (ap (λ (v : ℕ). puts request v τ) zero_is)
      (ran_step S {τ = quit Exit τ1} refl (ap suc Z.0.here) c.1.1.1.1.1.0 (exits room τ1 refl) (ran_none S {n = 0})))
      (sound_end S (omega arith) (omega arith) (refl, Z.0.log_is, Z.0.arrays)))))

  -- what a run of the source and a run of the machine have in common
  pub record Agree (r : Run) (σ : State) : Type 0 where
    pub same : σ.status ≡ seen r.outcome
    pub log : σ.log ≡ r.world.log
    pub blocks : Arrays p.elements r.world.arrays σ.memory

  pub record Forward (n : ℕ) : Type 0 where
    pub m : ℕ
    pub fast : m + K * (source n).world.fuel ≤ K * n + K0
    pub slow : n ≤ (source n).world.fuel + C0 + C * m
    pub agree : Agree (source n) (after m)
    pub dry : (source n).outcome ≡ stopped out_of_fuel → (source n).world.fuel ≡ 0

  conclude : (r : Result ℕ) (n : ℕ)
      → Sound S r (K * n + K0) n C0 (λ _ _ w τ. (τ.status ≡ Exit) × (τ.log ≡ w.log) × Arrays p.elements w.arrays τ.memory) (initial arrays)
      → (m : ℕ) × (m + K * (ended r).world.fuel ≤ K * n + K0) × (n ≤ (ended r).world.fuel + C0 + C * m) × Agree (ended r) (after m)
      × ((ended r).outcome ≡ stopped out_of_fuel → (ended r).world.fuel ≡ 0)
  conclude (goes a ls w) n h =
      (h.get.m, h.get.up, h.get.low, record { same = h.get.post.0; log = h.get.post.1; blocks = h.get.post.2 }, λ e. cc)
  conclude (stops (trapped t) w) n h =
      (h.get.m, h.get.up, h.get.low, record { same = h.get.post.0; log = h.get.post.1; blocks = h.get.post.2 }, λ e. cc)
  conclude (stops out_of_fuel w) n h =
      (h.get.m, h.get.up, h.get.low, record { same = h.get.post.0; log = h.get.post.1; blocks = h.get.post.2 }, λ e. h.get.post.3)

  pub forward : (n : ℕ) → Forward n
  forward n = let t = conclude (call n) n (ends n) in record { m = t.0; fast = t.1; slow = t.2; agree = t.3; dry = t.4 }

  -- stops of the two sides
  stopped_exit : (s : Status) → s ≡ Exit → Stopped s
  stopped_exit s e = subst Stopped (sym e) tt

  stopped_trap : (t : ℕ) (s : Status) → s ≡ Trap t → Stopped s
  stopped_trap t s e = subst Stopped (sym e) tt

  -- The one statement: what is seen of the source with n units of fuel is seen of the machine after some m steps, and m grows with n.
  pub record Matched (n : ℕ) : Type 0 where
    pub m : ℕ
    pub slow : n ≤ C0 + C * m
    pub agree : Agree (source n) (after m)

  pub matched : (n : ℕ) → Matched n
  matched n = go (source n).outcome refl
    where
      g : Forward n
      g = forward n

      still : Stopped (after g.m).status → Matched n
      still h =
          let e : after g.m ≡ after (g.m + n) = sym (later room (instructions_of p) g.m (g.m + n) (initial arrays) (omega arith) h) in
          record { m = g.m + n; slow = omega arith; agree = subst (λ (σ : State). Agree (source n) σ) e g.agree }

      go : (o : Outcome) → (source n).outcome ≡ o → Matched n
      go finished e = still (stopped_exit _ (g.agree.same ∙ ap seen e))
      go (stopped (trapped t)) e = still (stopped_trap t _ (g.agree.same ∙ ap seen e))
      go (stopped out_of_fuel) e = let z = g.dry e in record { m = g.m; slow = omega (arith, g.slow); agree = g.agree }

  -- fuel enough to see what the machine shows after m steps
  abbrev pub enough : ℕ → ℕ
  enough m = C * m + C0

  pub at_least : (m : ℕ) → m ≤ (matched (enough m)).m
  at_least m = omega (arith, (matched (enough m)).slow)

  pub same_then : (m : ℕ) → Stopped (after m).status → after (matched (enough m)).m ≡ after m
  same_then m h = later room (instructions_of p) m (matched (enough m)).m (initial arrays) (at_least m) h

  -- the machine never faults
  pub no_fault : (m : ℕ) → NoFault (after m).status
  no_fault m = go (after m).status refl
    where
      wrong : (t : ℕ) (o : Outcome) → seen o ≡ Fault t → ⊥
      wrong t finished e = let z : ◌≡◌ {A = ℕ} 0 1 = cc in omega arith
      wrong t (stopped (trapped x)) e = let z : ◌≡◌ {A = ℕ} 0 1 = cc in omega arith
      wrong t (stopped out_of_fuel) e = let z : ◌≡◌ {A = ℕ} 0 1 = cc in omega arith

      go : (s : Status) → (after m).status ≡ s → NoFault s
      go Going e = tt
      go Exit e = tt
      go (Trap t) e = tt
      go Limit e = tt
      go (Fault t) e =
          let g = matched (enough m) in
          absurd (wrong t (source (enough m)).outcome (sym g.agree.same ∙ ap (λ (σ : State). σ.status) (same_then m (subst Stopped (sym e) tt)) ∙ e))
