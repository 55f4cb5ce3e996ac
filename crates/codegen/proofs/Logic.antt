-- The program logic: what the source does from here, the machine does from the state σ, in at most U steps; and the source's fuel is at most L, up to a
-- debt z that the machine's steps pay.
use mathlib.Core.Path.{◌≡◌, refl, sym, ap, ◌∙◌, subst}
use mathlib.Core.List.{List}
use Prim.Native.Nat.{ℕ, zero, suc, ◌+◌, ◌-◌, ◌*◌, ◌≤◌, ◌<◌}
use native.Mathlib.Omega.{arith}
use lib.ListN.{length, get_or}
use Rattle.processor.specs.declared.Status.TheVariants.{Going, Trap}
use Rattle.processor.specs.Machine.{data_start}
use Rattle.language.specs.Meaning.{World, Stop, trapped, out_of_fuel, Result, goes, stops, Act, bind, begin, begin_on}
use Rattle.symbolic.specs.Symbolic.{Instruction, bad, State, exec1, run}
use Rattle.codegen.specs.Costs.{K, C}
use Rattle.symbolic.proofs.Runs.{run_add, step_at}

-- the elements of the arrays are in memory
pub record Arrays (elements : ℕ) (arrays : List ℕ) (memory : ℕ → ℕ) : Type 0 where
  pub all : length arrays ≡ elements
  pub cell : (i : ℕ) → i < elements → memory (data_start + 4 * i) ≡ get_or arrays i 0

-- what doesn't change during a run: the log's room, the code, and how many elements the arrays have
pub record Setting : Type 0 where
  pub room : ℕ
  pub code : List Instruction
  pub elements : ℕ

-- the world once something has begun
abbrev pub spent : ℕ → World → World
spent f w = record { fuel = f; log = w.log; arrays = w.arrays }

abbrev pub Post : Type 0 → Type 1
Post A = A → List ℕ → World → State → Type 0

module _ (S : Setting) where
  pub record Reach (U L x y : ℕ) (σ : State) (Q : State → Type 0) : Type 0 where
    pub m : ℕ
    pub up : m + x ≤ U
    pub low : L ≤ y + C * m
    pub post : Q (run S.room S.code m σ)

  abbrev pub Halt : Stop → World → State → Type 0
  Halt (trapped t) w σ = (σ.status ≡ Trap t) × (σ.log ≡ w.log) × Arrays S.elements w.arrays σ.memory
  Halt out_of_fuel w σ = (σ.status ≡ Going) × (σ.log ≡ w.log) × Arrays S.elements w.arrays σ.memory × (w.fuel ≡ 0)

  abbrev pub SoundBy : {A : Type 0} → Result A → (U L z : ℕ) → Post A → State → Type 0
  SoundBy (goes a ls w) U L z Q σ = Reach U L (K * w.fuel) (w.fuel + z) σ (Q a ls w)
  SoundBy (stops o w) U L z Q σ = Reach U L (K * w.fuel) (w.fuel + z) σ (Halt o w)

  pub record Sound {A : Type 0} (r : Result A) (U L z : ℕ) (Q : Post A) (σ : State) : Type 0 where
    pub get : SoundBy r U L z Q σ

  -- after n steps: the condition under which what is proved from there is proved from here
  sound_grow : {A : Type 0} {U L z U' L' z' : ℕ} {Q : Post A} {σ : State} (r : Result A) (n : ℕ) → U + n ≤ U' → L' + z ≤ L + C * n + z'
      → Sound r U L z Q (run S.room S.code n σ) → Sound r U' L' z' Q σ
  sound_grow (goes a ls w) n hu hl h =
      record { get = record { m = n + h.get.m; up = omega (arith, h.get.up); low = omega (arith, h.get.low); post = rw run_add h.get.post } }
  sound_grow (stops o w) n hu hl h =
      record { get = record { m = n + h.get.m; up = omega (arith, h.get.up); low = omega (arith, h.get.low); post = rw run_add h.get.post } }

  -- looser bounds
  pub sound_rates : {A : Type 0} {U L z U' L' z' : ℕ} {Q : Post A} {σ : State} (r : Result A)
      → U ≤ U' → L' + z ≤ L + z' → Sound r U L z Q σ → Sound r U' L' z' Q σ
  unfolding run
  sound_rates r hu hl h = sound_grow r 0 (omega arith) (omega arith) h

  -- first r, then what follows it, with X steps more in hand (which may count on what r leaves)
  pub sound_bind' : {A B : Type 0} {r : Result A} {k : A → Act B} {U L z z2 U' L' z' : ℕ} (X : ℕ) {Q : Post A} {R : Post B} {σ : State}
      → U ≤ U' → ((a : A) (ls : List ℕ) (w : World) (τ : State) → Q a ls w τ → U + X ≤ U') → L' ≤ L → z + z2 ≤ z'
      → Sound r U L z Q σ
      → ((a : A) (ls : List ℕ) (w : World) (τ : State) → Q a ls w τ → Sound (k a ls w) (K * w.fuel + X) w.fuel z2 R τ)
      → Sound (bind r k) U' L' z' R σ
  unfolding bind
  sound_bind' {r = r} {k = k} {U} {L} {z} {z2} {U'} {L'} {z'} X {Q} {R} {σ} hu hx hl hz h next = go r h
    where
      go : (r : Result _) → Sound r U L z Q σ → Sound (bind r k) U' L' z' R σ
      go (goes a ls w) h =
          let more = hx a ls w _ h.get.post in
          sound_grow (k a ls w) h.get.m (omega (arith, h.get.up)) (omega (arith, h.get.low)) (next a ls w _ h.get.post)
      go (stops o w) h =
          record { get = record { m = h.get.m; up = omega (arith, h.get.up); low = omega (arith, h.get.low); post = h.get.post } }

  pub sound_bind : {A B : Type 0} {r : Result A} {k : A → Act B} {U L z z2 U' L' z' : ℕ} (X : ℕ) {Q : Post A} {R : Post B} {σ : State}
      → U + X ≤ U' → L' ≤ L → z + z2 ≤ z'
      → Sound r U L z Q σ
      → ((a : A) (ls : List ℕ) (w : World) (τ : State) → Q a ls w τ → Sound (k a ls w) (K * w.fuel + X) w.fuel z2 R τ)
      → Sound (bind r k) U' L' z' R σ
  sound_bind X hu hl hz h next = sound_bind' X (omega arith) (λ _ _ _ _ _. hu) hl hz h next

  -- r, and then steps of the machine alone (which may count on what r leaves)
  pub sound_then' : {A : Type 0} {U L z z2 U' L' z' : ℕ} (r : Result A) (X : ℕ) {Q R : Post A} {σ : State}
      → U ≤ U' → ((a : A) (ls : List ℕ) (w : World) (τ : State) → Q a ls w τ → U + X ≤ U') → L' ≤ L → z + z2 ≤ z'
      → Sound r U L z Q σ
      → ((a : A) (ls : List ℕ) (w : World) (τ : State) → Q a ls w τ → Sound (goes a ls w) (K * w.fuel + X) w.fuel z2 R τ)
      → Sound r U' L' z' R σ
  sound_then' (goes a ls w) X hu hx hl hz h next =
      let more = hx a ls w _ h.get.post in
      sound_grow (goes a ls w) h.get.m (omega (arith, h.get.up)) (omega (arith, h.get.low)) (next a ls w _ h.get.post)
  sound_then' (stops o w) X hu hx hl hz h next =
      record { get = record { m = h.get.m; up = omega (arith, h.get.up); low = omega (arith, h.get.low); post = h.get.post } }

  pub sound_then : {A : Type 0} {U L z z2 U' L' z' : ℕ} (r : Result A) (X : ℕ) {Q R : Post A} {σ : State}
      → U + X ≤ U' → L' ≤ L → z + z2 ≤ z'
      → Sound r U L z Q σ
      → ((a : A) (ls : List ℕ) (w : World) (τ : State) → Q a ls w τ → Sound (goes a ls w) (K * w.fuel + X) w.fuel z2 R τ)
      → Sound r U' L' z' R σ
  sound_then r X hu hl hz h next = sound_then' r X (omega arith) (λ _ _ _ _ _. hu) hl hz h next

  -- the same steps, seen from further out
  pub sound_post : {A : Type 0} {U L z : ℕ} {Q R : Post A} {σ : State} (r : Result A)
      → ((a : A) (ls : List ℕ) (w : World) (τ : State) → Q a ls w τ → R a ls w τ) → Sound r U L z Q σ → Sound r U L z R σ
  sound_post (goes a ls w) f h = record { get = record { m = h.get.m; up = h.get.up; low = h.get.low; post = f a ls w _ h.get.post } }
  sound_post (stops o w) f h = record { get = record { m = h.get.m; up = h.get.up; low = h.get.low; post = h.get.post } }

  -- something begins: its fuel is owed
  pub sound_begin : {B : Type 0} (ls : List ℕ) (w : World) (k : Unit {0} → Act B) {U z : ℕ} {R : Post B} {σ : State}
      → σ.status ≡ Going → σ.log ≡ w.log → Arrays S.elements w.arrays σ.memory
      → ((f : ℕ) → w.fuel ≡ suc f → Sound (k tt ls (spent f w)) U f z R σ)
      → Sound (bind (begin ls w) k) U w.fuel (suc z) R σ
  unfolding run bind begin
  sound_begin {B = B} ls w k {U} {z} {R} {σ} on same there next = go w.fuel refl
    where
      go : (n : ℕ) → w.fuel ≡ n → Sound (bind (begin_on n ls w) k) U w.fuel (suc z) R σ
      go zero e = record { get = record { m = 0; up = omega arith; low = omega arith; post = (on, same, there, e) } }
      go (suc f) e = sound_rates (k tt ls (spent f w)) (omega arith) (omega arith) (next f e)

  -- steps of the machine alone, at most n
  pub record Ran (n : ℕ) (σ τ : State) : Type 0 where
    pub c : ℕ
    pub most : c ≤ n
    pub eq : run S.room S.code c σ ≡ τ

  pub ran_none : {n : ℕ} {σ : State} → Ran n σ σ
  unfolding run
  ran_none = record { c = 0; most = omega arith; eq = refl }

  pub ran_step : {n p : ℕ} {i : Instruction} {σ τ ρ : State} → σ.status ≡ Going → σ.pc ≡ p → get_or S.code p bad ≡ i
      → exec1 S.room i σ ≡ τ → Ran n τ ρ → Ran (suc n) σ ρ
  ran_step {σ = σ} {τ} {ρ} on hp here e r =
      record {
        c = 1 + r.c;
        most = omega (arith, r.most);
        eq = run_add S.room S.code 1 r.c σ ∙ ap (λ (w : State). run S.room S.code r.c w) (step_at S.room S.code σ on hp here ∙ e) ∙ r.eq;
      }

  pub ran_trans : {m n : ℕ} {σ τ ρ : State} → Ran m σ τ → Ran n τ ρ → Ran (m + n) σ ρ
  ran_trans {σ = σ} {τ} {ρ} r q =
      record {
        c = r.c + q.c;
        most = omega (arith, r.most, q.most);
        eq = run_add S.room S.code r.c q.c σ ∙ ap (λ (w : State). run S.room S.code q.c w) r.eq ∙ q.eq;
      }

  pub ran_most : {m n : ℕ} {σ τ : State} → m ≤ n → Ran m σ τ → Ran n σ τ
  ran_most h r = record { c = r.c; most = omega (arith, r.most); eq = r.eq }

  pub sound_ran : {A : Type 0} {r : Result A} {U L z : ℕ} {Q : Post A} {σ τ : State} (n : ℕ) → n ≤ U → Ran n σ τ → Sound r (U - n) L z Q τ → Sound r U L z Q σ
  sound_ran {r = r} {U} {L} {z} n hn w h = sound_grow {U = U - n} {L = L} {z = z} r w.c (omega (arith, w.most)) (omega arith) (rw w.eq h)

  -- an instruction pays what is owed, up to C
  pub sound_step : {A : Type 0} {r : Result A} {U L z2 z : ℕ} {Q : Post A} {p : ℕ} {i : Instruction} {σ τ : State}
      → σ.status ≡ Going → σ.pc ≡ p → get_or S.code p bad ≡ i → exec1 S.room i σ ≡ τ → 1 ≤ U → z2 ≤ z + C
      → Sound r (U - 1) L z2 Q τ → Sound r U L z Q σ
  sound_step {r = r} {U} {L} {z2} {z} {Q} {σ = σ} {τ} on hp here e hu hz h =
      sound_grow {U = U - 1} {L = L} {z = z2} r 1 (omega arith) (omega arith)
      (subst (λ (w : State). Sound r (U - 1) L z2 Q w) (sym (step_at S.room S.code σ on hp here ∙ e)) h)

  pub sound_end : {A : Type 0} {a : A} {ls : List ℕ} {w : World} {U L z : ℕ} {Q : Post A} {σ : State}
      → K * w.fuel ≤ U → L ≤ w.fuel + z → Q a ls w σ → Sound (goes a ls w) U L z Q σ
  unfolding run
  sound_end hu hl h = record { get = record { m = 0; up = omega arith; low = omega arith; post = h } }

  pub sound_stop : {A : Type 0} {o : Stop} {w : World} {U L z : ℕ} {Q : Post A} {σ : State}
      → K * w.fuel ≤ U → L ≤ w.fuel + z → Halt o w σ → Sound {A = A} (stops o w) U L z Q σ
  unfolding run
  sound_stop hu hl h = record { get = record { m = 0; up = omega arith; low = omega arith; post = h } }

  pub sound_pure : {A B : Type 0} {U L z : ℕ} {R : Post B} {σ : State} (a : A) (ls : List ℕ) (w : World) (k : A → Act B)
      → Sound (k a ls w) U L z R σ → Sound (bind (goes a ls w) k) U L z R σ
  unfolding bind
  sound_pure a ls w k h = h
