-- Calls: arguments go to the next frame, temporaries are saved, the function runs, temporaries are loaded.
use mathlib.Core.Path.{◌≡◌, refl, sym, ap, ◌∙◌, subst}
use mathlib.Core.Bool.{Bool, true, false}
use mathlib.Core.List.{List, [], ◌∷◌}
use Prim.Native.Nat.{ℕ, zero, suc, ◌+◌, ◌-◌, ◌*◌, ◌^◌, ◌≤◌, ◌<◌}
use native.Mathlib.Nat.{zero-add, add-zero}
use native.Mathlib.Omega.{arith}
use native.Mathlib.Decide.{ℕ_discrete}
use lib.ListN.{length, get_or}
use borrow.Author.Tests.{ltb-true, ltb-false}
use Rattle.word.specs.Choice.{pick}
use Rattle.processor.specs.declared.Status.TheVariants.{Going}
use Rattle.processor.specs.declared.Alu.TheVariants.{Add}
use Rattle.processor.specs.Execute.{alu_of}
use Rattle.language.specs.Meaning.{World, goes, call_at}
use Rattle.symbolic.specs.Symbolic.{Fixed, Scratch, Argument, Temporary, reg, ra, sp, State, state, updated, set, value, pos, puts, stores}
use Rattle.codegen.specs.Places.{Place, constant, local, temporary, in_register, frame_bytes, local_word, temporary_word, stack_start, stack_end, source, fetch, most_temporaries, in_registers}
use Rattle.codegen.specs.Expressions.{passes, saves, loads, registers_of, returning, entering, calling}
use Rattle.language.specs.Rules.{most_parameters}
use Rattle.codegen.specs.Owed.{nothing}
use Rattle.codegen.proofs.Placement.{At, at_split}
use Rattle.codegen.specs.Costs.{K, C}
use Rattle.codegen.proofs.Budgets.{entering_steps, calling_steps}
use Rattle.codegen.proofs.Logic.{Setting, Sound, sound_rates, sound_then, sound_step, sound_end, sound_ran, Ran, ran_none, ran_step, ran_trans, ran_most}
use Rattle.codegen.proofs.Numbers.{add_is, down}
use Rattle.codegen.proofs.Frame.{updated_same, updated_other, Only, only_puts, put_same, apart, value_by, value_at, There, lw_step, sw_step}
use Rattle.codegen.proofs.Macros.{fetch_ok}
use Rattle.codegen.proofs.Activation.{Linked, Activation, Back, framed, high, Cor, arrays_same}

sum_is : (a b : ℕ) → a + b < 2 ^ 32 → alu_of Add a b ≡ a + b
unfolding alu_of
sum_is a b h = add_is a b h

back_is : (b : ℕ) → b < 0x200000 → alu_of Add (b + frame_bytes) (2 ^ 32 - frame_bytes) ≡ b
unfolding alu_of
back_is b h = down b h

module _ (L : Linked) (A : Activation L) where
  abbrev S : Setting
  S = L.setting

  abbrev B : ℕ
  B = A.B

  -- places that hold arguments
  abbrev pub Held : List Place → List ℕ → State → Type 0
  Held [] [] σ = Unit {0}
  Held [] (v ∷ vs) σ = ⊥
  Held (p ∷ ps) [] σ = ⊥
  Held (p ∷ ps) (v ∷ vs) σ = There p × (value_at p B σ ≡ v) × Held ps vs σ

  value_kept : (pl : Place) (σ τ : State) → There pl → ((j : ℕ) → τ.registers Temporary j ≡ σ.registers Temporary j)
      → ((a : ℕ) → a < B + frame_bytes → τ.memory a ≡ σ.memory a) → value_at pl B τ ≡ value_at pl B σ
  value_kept (constant k) σ τ h ht hm = refl
  value_kept (local y) σ τ h ht hm = hm _ (omega arith)
  value_kept (temporary j) σ τ h ht hm = go (in_register j)
    where
      go : (t : Bool) → value_by t j B τ ≡ value_by t j B σ
      go true = ht j
      go false = hm _ (omega arith)

  held_kept : (ps : List Place) (vs : List ℕ) (σ τ : State) → ((j : ℕ) → τ.registers Temporary j ≡ σ.registers Temporary j)
      → ((a : ℕ) → a < B + frame_bytes → τ.memory a ≡ σ.memory a) → Held ps vs σ → Held ps vs τ
  held_kept [] [] σ τ ht hm h = tt
  held_kept [] (v ∷ vs) σ τ ht hm h = h
  held_kept (p ∷ ps) [] σ τ ht hm h = h
  held_kept (p ∷ ps) (v ∷ vs) σ τ ht hm h = (h.0, value_kept p σ τ h.0 ht hm ∙ h.1, held_kept ps vs σ τ ht hm h.2)

  record Passed (i : ℕ) (ps : List Place) (vs : List ℕ) (q : ℕ) (σ τ : State) : Type 0 where
    on : τ.status ≡ Going
    here : τ.pc ≡ q
    fixed : (j : ℕ) → τ.registers Fixed j ≡ σ.registers Fixed j
    arguments : (j : ℕ) → τ.registers Argument j ≡ σ.registers Argument j
    temporaries : (j : ℕ) → τ.registers Temporary j ≡ σ.registers Temporary j
    log : τ.log ≡ σ.log
    len : length vs ≡ length ps
    values : (j : ℕ) → j < length ps → τ.memory (B + (frame_bytes + 4 * local_word (i + j))) ≡ get_or vs j 0
    other : (a : ℕ) → a < B + (frame_bytes + 4 * local_word i) → τ.memory a ≡ σ.memory a

  passed : (ps : List Place) (vs : List ℕ) (i p q : ℕ) (σ : State) → i + length ps ≤ most_parameters → Held ps vs σ → σ.registers Fixed 1 ≡ B → At S.code p (passes ps i) q
      → σ.status ≡ Going → σ.pc ≡ p → (τ : State) × Ran S (3 * length ps) σ τ × Passed i ps vs q σ τ
  unfolding passes
  passed [] [] i p q σ hi h hs c on hp = (
    σ,
    ran_none S,
    record {
      on = on;
      here = hp ∙ c;
      fixed = λ j. refl;
      arguments = λ j. refl;
      temporaries = λ j. refl;
      log = refl;
      len = refl;
      values = λ j k. absurd (omega arith);
      other = λ a k. refl;
    },
  )
  passed [] (v ∷ vs) i p q σ hi h hs c on hp = absurd h
  passed (pl ∷ ps) [] i p q σ hi h hs c on hp = absurd h
  passed (pl ∷ ps) (v ∷ vs) i p q σ hi h hs c on hp =
      let t = at_split S.code p (fetch pl 0) _ q c in
      let g = fetch_ok S pl 0 p t.0 σ (framed L A) h.0 hs t.1 on hp in
      let n : ℕ = frame_bytes + 4 * local_word i in
      let τ1 : State = stores (B + n) (value g.0 (source pl 0)) g.0 in
      let z = passed ps vs (suc i) (suc t.0) q τ1 (omega arith)
      (held_kept ps vs σ τ1 (λ j. g.2.other Temporary j refl) (λ a k. updated_other g.0.memory (B + n) (value g.0 (source pl 0)) a (λ e. omega arith) ∙ g.2.memory a) h.2)
      (g.2.other Fixed 1 refl ∙ hs) t.2.1 refl (ap suc g.2.here) in (
        z.0,
        ran_most S (omega arith) (ran_trans S g.1 (ran_step S {τ = τ1} g.2.on g.2.here t.2.0
            (sw_step S.room (source pl 0) n g.0 (framed L A) (omega arith) (omega arith) (g.2.other Fixed 1 refl ∙ hs)) z.1)),
        more z.0 g.0 g.2 g.3 z.2,
      )
    where
      more : {r : ℕ} (τ γ : State) → Only Scratch 0 r σ γ → value γ (source pl 0) ≡ value_at pl B σ
          → Passed (suc i) ps vs q (stores (B + (frame_bytes + 4 * local_word i)) (value γ (source pl 0)) γ) τ → Passed i (pl ∷ ps) (v ∷ vs) q σ τ
      more τ γ o e z = record {
        on = z.on;
        here = z.here;
        fixed = λ j. z.fixed j ∙ o.other Fixed j refl;
        arguments = λ j. z.arguments j ∙ o.other Argument j refl;
        temporaries = λ j. z.temporaries j ∙ o.other Temporary j refl;
        log = z.log ∙ o.log;
        len = ap suc z.len;
        values = λ j k. each j k;
        other = λ a k. z.other a (omega arith) ∙ updated_other γ.memory (B + (frame_bytes + 4 * local_word i)) (value γ (source pl 0)) a (λ e. omega arith) ∙ o.memory a;
      }
        where
          each : (j : ℕ) → j < suc (length ps) → τ.memory (B + (frame_bytes + 4 * local_word (i + j))) ≡ get_or (v ∷ vs) j 0
          each zero k =
              ap (λ (n : ℕ). τ.memory (B + (frame_bytes + 4 * local_word n))) (add-zero i)
              ∙ z.other (B + (frame_bytes + 4 * local_word i)) (omega arith) ∙ updated_same γ.memory (B + (frame_bytes + 4 * local_word i)) (value γ (source pl 0)) ∙ e ∙ h.1
          each (suc j) k = ap (λ (n : ℕ). τ.memory (B + (frame_bytes + 4 * local_word n))) (let y : i + suc j ≡ suc i + j = omega arith in y) ∙ z.values j (omega arith)

  abbrev slot : ℕ → ℕ
  slot j = B + 4 * temporary_word j

  record Saved (n q : ℕ) (σ τ : State) : Type 0 where
    on : τ.status ≡ Going
    here : τ.pc ≡ q
    registers : τ.registers ≡ σ.registers
    log : τ.log ≡ σ.log
    values : (i : ℕ) → i < n → τ.memory (slot i) ≡ σ.registers Temporary i
    other : (a : ℕ) → ((i : ℕ) → i < n → a ≡ slot i → ⊥) → τ.memory a ≡ σ.memory a

  pub upto : (Z : ℕ → Type 0) (n : ℕ) → ((i : ℕ) → i < n → Z i) → Z n → (i : ℕ) → i < suc n → Z i
  upto Z n h z i hi = go (ℕ_discrete i n)
    where
      go : Dec (i ≡ n) → Z i
      go (yes e) = subst Z (sym e) z
      go (no k) = h i (omega arith)

  saved : (n p q : ℕ) (σ : State) → n ≤ in_registers → σ.registers Fixed 1 ≡ B → At S.code p (saves n) q → σ.status ≡ Going → σ.pc ≡ p
      → (τ : State) × Ran S n σ τ × Saved n q σ τ
  unfolding saves
  saved zero p q σ hf hs c on hp =
      (σ, ran_none S, record { on = on; here = hp ∙ c; registers = refl; log = refl; values = λ i k. absurd (omega arith); other = λ a k. refl })
  saved (suc n) p q σ hf hs c on hp =
      let t = at_split S.code p (saves n) _ q c in
      let z = saved n p t.0 σ (omega arith) hs t.1 on hp in (
        stores (slot n) (z.0.registers Temporary n) z.0,
        ran_most S (omega arith) (ran_trans S z.1 (ran_step S z.2.on z.2.here t.2.0
            (sw_step S.room (reg Temporary n) (4 * temporary_word n) z.0 (framed L A) (omega arith) (omega arith) (ap (λ g. g Fixed 1) z.2.registers ∙ hs)) (ran_none S {n = 0}))),
        more z.0 t.0 z.2 t.2.1,
      )
    where
      more : (τ : State) (r : ℕ) → Saved n r σ τ → suc r ≡ q → Saved (suc n) q σ (stores (slot n) (τ.registers Temporary n) τ)
      more τ r z e = record {
        on = refl;
        here = ap suc z.here ∙ e;
        registers = z.registers;
        log = z.log;
        values = upto (λ (i : ℕ). updated τ.memory (slot n) (τ.registers Temporary n) (slot i) ≡ σ.registers Temporary i) n
            (λ i k. updated_other τ.memory (slot n) (τ.registers Temporary n) (slot i) (λ e. omega arith) ∙ z.values i k)
            (updated_same τ.memory (slot n) (τ.registers Temporary n) ∙ ap (λ g. g Temporary n) z.registers);
        other = λ a k. updated_other τ.memory (slot n) (τ.registers Temporary n) a (λ e. k n (omega arith) e) ∙ z.other a (λ i h e. k i (omega arith) e);
      }

  record Loaded (n q : ℕ) (σ τ : State) : Type 0 where
    on : τ.status ≡ Going
    here : τ.pc ≡ q
    fixed : (j : ℕ) → τ.registers Fixed j ≡ σ.registers Fixed j
    arguments : (j : ℕ) → τ.registers Argument j ≡ σ.registers Argument j
    memory : (a : ℕ) → τ.memory a ≡ σ.memory a
    log : τ.log ≡ σ.log
    values : (i : ℕ) → i < n → τ.registers Temporary i ≡ σ.memory (slot i)

  loaded : (n p q : ℕ) (σ : State) → n ≤ in_registers → σ.registers Fixed 1 ≡ B → At S.code p (loads n) q → σ.status ≡ Going → σ.pc ≡ p
      → (τ : State) × Ran S n σ τ × Loaded n q σ τ
  unfolding loads
  loaded zero p q σ hf hs c on hp =
      (σ, ran_none S, record { on = on; here = hp ∙ c; fixed = λ j. refl; arguments = λ j. refl; memory = λ a. refl; log = refl; values = λ i k. absurd (omega arith) })
  loaded (suc n) p q σ hf hs c on hp =
      let t = at_split S.code p (loads n) _ q c in
      let z = loaded n p t.0 σ (omega arith) hs t.1 on hp in (
        puts (reg Temporary n) (z.0.memory (slot n)) z.0,
        ran_most S (omega arith) (ran_trans S z.1 (ran_step S z.2.on z.2.here t.2.0
            (lw_step S.room (reg Temporary n) (4 * temporary_word n) z.0 (framed L A) (omega arith) (omega arith) (z.2.fixed 1 ∙ hs)) (ran_none S {n = 0}))),
        more z.0 t.0 z.2 t.2.1,
      )
    where
      more : (τ : State) (r : ℕ) → Loaded n r σ τ → suc r ≡ q → Loaded (suc n) q σ (puts (reg Temporary n) (τ.memory (slot n)) τ)
      more τ r z e =
          let o = only_puts Temporary n (τ.memory (slot n)) q τ (ap suc z.here ∙ e) in
          record {
            on = refl;
            here = ap suc z.here ∙ e;
            fixed = z.fixed;
            arguments = z.arguments;
            memory = z.memory;
            log = z.log;
            values = upto (λ (i : ℕ). (puts (reg Temporary n) (τ.memory (slot n)) τ).registers Temporary i ≡ σ.memory (slot i)) n
                (λ i k. o.other Temporary i (apart Temporary n i (λ e. omega arith)) ∙ z.values i k)
                (put_same Temporary n (τ.memory (slot n)) τ ∙ z.memory (slot n));
          }

  registers_most : (d : ℕ) → (registers_of d ≤ d) × (registers_of d ≤ in_registers)
  registers_most d = go (in_register d) refl
    where
      go : (t : Bool) → in_register d ≡ t → (pick t d 7 ≤ d) × (pick t d 7 ≤ in_registers)
      go true e = let h : d < 7 = ltb-true d 7 e in (omega arith, omega arith)
      go false e = let h : 7 ≤ d = ltb-false d 7 e in (omega arith, omega arith)

  registers_in : (d j : ℕ) → j < d → j < 7 → j < registers_of d
  registers_in d j h k = go (in_register d)
    where
      go : (t : Bool) → j < pick t d 7
      go true = h
      go false = k

  -- everything is in place for the call
  record Prepared (d r : ℕ) (vs : List ℕ) (w : World) (τ ω : State) : Type 0 where
    on : ω.status ≡ Going
    here : ω.pc ≡ r
    fixed : (j : ℕ) → ω.registers Fixed j ≡ τ.registers Fixed j
    arguments : (j : ℕ) → ω.registers Argument j ≡ τ.registers Argument j
    log : ω.log ≡ τ.log
    values : (i : ℕ) → i < length vs → ω.memory (B + (frame_bytes + 4 * local_word i)) ≡ get_or vs i 0
    slots : (j : ℕ) → j < d → ω.memory (slot j) ≡ value_at (temporary j) B τ
    low : (a : ℕ) → a < B + 4 * temporary_word 0 → ω.memory a ≡ τ.memory a

  -- back from the call, at the instruction behind it
  pub record Returned (τ : State) (d q : ℕ) (ls₀ : List ℕ) (f v : ℕ) (ls : List ℕ) (w : World) (ρ : State) : Type 0 where
    pub on : ρ.status ≡ Going
    pub here : ρ.pc ≡ q
    pub cor : Cor L A ls w ρ
    pub is : ρ.registers Argument 0 ≡ v
    pub keep : (j : ℕ) → j < d → value_at (temporary j) B ρ ≡ value_at (temporary j) B τ
    pub locals : ls ≡ ls₀
    pub less : w.fuel ≤ f

  comes : (d r₀ r q v f : ℕ) (ls₀ ls : List ℕ) (w w2 : World) (τ ω ρ : State) → d ≤ most_temporaries → Cor L A ls₀ w τ → ls ≡ ls₀ → Prepared d r₀ [] w τ ω
      → At S.code r (returning d) q → Back S.elements (B + frame_bytes) r ω.memory f v w2 ρ
      → Sound S (goes v ls w2) (K * w2.fuel + 10) w2.fuel 0 (Returned τ d q ls₀ f) ρ
  comes d r₀ r q v f ls₀ ls w w2 τ ω ρ hd c he Y hc Z =
      let cm = registers_most d in
      let F = framed L A in
      let sp_back : alu_of Add (ρ.registers Fixed 1) (2 ^ 32 - frame_bytes) ≡ B =
      ap (λ (n : ℕ). alu_of Add n (2 ^ 32 - frame_bytes)) Z.sp_is ∙ back_is B (omega (arith, F.top)) in
      let ρ1 : State = puts sp (alu_of Add (ρ.registers Fixed 1) (2 ^ 32 - frame_bytes)) ρ in
      let g = loaded (registers_of d) (suc r) q ρ1 cm.1 sp_back hc.1 refl (ap suc Z.here) in
      sound_ran S 8 (omega arith) (ran_most S (omega arith) (ran_step S {τ = ρ1} Z.on Z.here hc.0 refl g.1))
      (done g.0 g.2 sp_back)
    where
      done : (γ : State) → Loaded (registers_of d) q (puts sp (alu_of Add (ρ.registers Fixed 1) (2 ^ 32 - frame_bytes)) ρ) γ
          → alu_of Add (ρ.registers Fixed 1) (2 ^ 32 - frame_bytes) ≡ B
          → Sound S (goes v ls w2) (K * w2.fuel + 10 - 8) w2.fuel 0 (Returned τ d q ls₀ f) γ
      done γ g sp_back =
          let keeps : (a : ℕ) → stack_start ≤ a → a < B + 4 * temporary_word 0 → γ.memory a ≡ τ.memory a =
          λ a h1 h2. g.memory a ∙ Z.below a h1 (omega arith) ∙ Y.low a h2 in
          sound_end S (omega arith) (omega arith) (record {
            on = g.on;
            here = g.here;
            is = g.arguments 0 ∙ Z.is;
            keep = λ j hj. spot j hj (in_register j) refl;
            locals = he;
            less = Z.less;
            cor = record {
              sp_is = g.fixed 1 ∙ sp_back;
              limit_is = g.fixed 2 ∙ Z.limit_is;
              request_is = g.arguments 7 ∙ Z.request_is;
              log_is = g.log ∙ Z.log_is;
              arrays = arrays_same L A (λ a h. g.memory a) Z.arrays;
              many = ap length he ∙ c.many;
              locals = λ y h. keeps _ (omega (arith, high L A)) (omega (arith, A.few)) ∙ c.locals y h ∙ ap (λ (l : List ℕ). get_or l y 0) (sym he);
              ra_is = keeps _ (omega (arith, high L A)) (omega arith) ∙ c.ra_is;
              below = λ a h1 h2. keeps a h1 (omega arith) ∙ c.below a h1 h2;
            };
          })
        where
          spot : (j : ℕ) → j < d → (t : Bool) → in_register j ≡ t → value_at (temporary j) B γ ≡ value_at (temporary j) B τ
          spot j hj true e =
              ap (λ (t : Bool). value_by t j B γ) e ∙ g.values j (registers_in d j hj (ltb-true j 7 e)) ∙ Z.below (slot j) (omega (arith, high L A)) (omega arith) ∙ Y.slots j hj
          spot j hj false e =
              ap (λ (t : Bool). value_by t j B γ) e ∙ g.memory (slot j) ∙ Z.below (slot j) (omega (arith, high L A)) (omega arith) ∙ Y.slots j hj

  enters : (f : ℕ) (vs : List ℕ) (d r q : ℕ) (ls : List ℕ) (w : World) (τ ω : State) → d ≤ most_temporaries → Cor L A ls w τ → Prepared d r vs w τ ω
      → f < length L.functions → length vs ≡ (get_or L.functions f nothing).parameters → At S.code r (entering (L.entry f) d) q
      → Sound S (call_at S.room L.functions A.left f vs ls w) (K * w.fuel + entering_steps) w.fuel 0 (Returned τ d q ls w.fuel) ω
  enters f vs d r q ls w τ ω hd c Y hf har hc =
      let F = framed L A in
      let sp_is : alu_of Add (ω.registers Fixed 1) frame_bytes ≡ B + frame_bytes =
      ap (λ (n : ℕ). alu_of Add n frame_bytes) (Y.fixed 1 ∙ c.sp_is) ∙ sum_is B frame_bytes (omega (arith, F.top)) in
      let ω1 : State = puts sp (alu_of Add (ω.registers Fixed 1) frame_bytes) ω in
      let ω2 : State = state Going (L.entry f) (set ra (pos (suc ω1.pc)) ω1.registers) ω.memory ω.log in
      sound_ran S 1 (omega arith) (ran_step S {τ = ω1} Y.on Y.here hc.0 refl (ran_none S))
      (sound_step S {z2 = C} {τ = ω2} refl (ap suc Y.here) hc.1.0 refl (omega arith) (omega arith)
      (sound_then S {z2 = 0} (call_at S.room L.functions A.left f vs ls w) 10 (omega arith) (omega arith) (omega arith)
      (A.under.run f vs ls w (suc (suc r)) ω2 (record {
        on = refl;
        here = refl;
        known = hf;
        arity = har;
        room = ap (λ (n : ℕ). n + frame_bytes * A.left) sp_is ∙ (let y : B + frame_bytes + frame_bytes * A.left ≡ stack_end = omega (arith, A.room) in y);
        limit_is = Y.fixed 2 ∙ c.limit_is;
        request_is = Y.arguments 7 ∙ c.request_is;
        ra_is = ap (λ (n : ℕ). pos (suc (suc n))) Y.here;
        values = λ i k. ap (λ (n : ℕ). ω.memory (n + 4 * local_word i)) sp_is ∙ ap (λ (n : ℕ). ω.memory n) (let y : B + frame_bytes + 4 * local_word i ≡ B + (frame_bytes + 4 * local_word i) = omega arith in y) ∙ Y.values i k;
        log_is = Y.log ∙ c.log_is;
        arrays = arrays_same L A (λ a h. Y.low a (omega (arith, high L A))) c.arrays;
      }))
      (λ v ls' w2 ρ Z. comes d r (suc (suc r)) q v w.fuel ls ls' w w2 τ ω ρ hd c Z.1
      (record { on = Y.on; here = Y.here; fixed = Y.fixed; arguments = Y.arguments; log = Y.log; values = λ i k. absurd (omega arith); slots = Y.slots; low = Y.low })
      hc.1.1 (subst (λ (n : ℕ). Back S.elements n (suc (suc r)) ω.memory w.fuel v w2 ρ) sp_is Z.0))))

  pub calls : (f : ℕ) (vs : List ℕ) (ps : List Place) (d p q : ℕ) (ls : List ℕ) (w : World) (τ : State) → d ≤ most_temporaries → τ.status ≡ Going → τ.pc ≡ p → Cor L A ls w τ
      → Held ps vs τ → f < length L.functions → length ps ≡ (get_or L.functions f nothing).parameters → length ps ≤ most_parameters → At S.code p (calling (L.entry f) ps d) q
      → Sound S (call_at S.room L.functions A.left f vs ls w) (K * w.fuel + calling_steps) w.fuel 0 (Returned τ d q ls w.fuel) τ
  calls f vs ps d p q ls w τ hd on hp c held hf har few hc =
      let cm = registers_most d in
      let t = at_split S.code p (passes ps 0) _ q hc in
      let u = at_split S.code t.0 (saves (registers_of d)) _ q t.2 in
      let g = passed ps vs 0 p t.0 τ (omega arith) held c.sp_is t.1 on hp in
      let h = saved (registers_of d) t.0 u.0 g.0 cm.1 (g.2.fixed 1 ∙ c.sp_is) u.1 g.2.on g.2.here in
      sound_ran S 31 (omega arith) (ran_most S (omega arith) (ran_trans S g.1 h.1))
      (sound_rates S (call_at S.room L.functions A.left f vs ls w) (omega arith) (omega arith)
      (enters f vs d u.0 q ls w τ h.0 hd c (prepared g.0 h.0 t.0 u.0 g.2 h.2) hf (g.2.len ∙ har) u.2))
    where
      prepared : (γ ω : State) (k r : ℕ) → Passed 0 ps vs k τ γ → Saved (registers_of d) r γ ω → Prepared d r vs w τ ω
      prepared γ ω k r g h =
          let cm = registers_most d in
          record {
            on = h.on;
            here = h.here;
            fixed = λ j. ap (λ x. x Fixed j) h.registers ∙ g.fixed j;
            arguments = λ j. ap (λ x. x Argument j) h.registers ∙ g.arguments j;
            log = h.log ∙ g.log;
            values = λ i hi. h.other _ (λ j hj e. omega arith) ∙ ap (λ (n : ℕ). γ.memory (B + (frame_bytes + 4 * local_word n))) (sym (zero-add i)) ∙ g.values i (omega (arith, g.len));
            slots = λ j hj. spot j hj (in_register j) refl;
            low = λ a ha. h.other a (λ i hi e. omega arith) ∙ g.other a (omega arith);
          }
        where
          spot : (j : ℕ) → j < d → (t : Bool) → in_register j ≡ t → ω.memory (slot j) ≡ value_at (temporary j) B τ
          spot j hj true e = h.values j (registers_in d j hj (ltb-true j 7 e)) ∙ g.temporaries j ∙ sym (ap (λ (t : Bool). value_by t j B τ) e)
          spot j hj false e =
              let k : 7 ≤ j = ltb-false j 7 e in
              let cm = registers_most d in
              h.other (slot j) (λ i hi e. omega arith) ∙ g.other (slot j) (omega arith) ∙ sym (ap (λ (t : Bool). value_by t j B τ) e)
