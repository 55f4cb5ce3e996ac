-- The state of one activation: what its frame, its registers and the world have to do with each other; what a call of a function does.
use mathlib.Core.Path.{◌≡◌, sym, ap, ◌∙◌}
use mathlib.Core.Bool.{Bool, true, false}
use mathlib.Core.List.{List}
use Prim.Native.Nat.{ℕ, zero, suc, ◌+◌, ◌*◌, ◌^◌, ◌≤◌, ◌<◌}
use native.Mathlib.Omega.{arith}
use lib.ListN.{length, get_or}
use Rattle.processor.specs.declared.Status.TheVariants.{Going}
use Rattle.processor.specs.Machine.{data_start}
use Rattle.language.specs.Core.{Function}
use Rattle.language.specs.Meaning.{World, call_at, most_activations}
use Rattle.symbolic.specs.Symbolic.{Fixed, Argument, State, pos}
use Rattle.codegen.specs.Places.{Place, constant, local, temporary, above, frame_bytes, local_word, stack_start, stack_end, most_temporaries, most_locals}
use Rattle.codegen.specs.Operators.{stub, trapping}
use Rattle.language.specs.Rules.{most_elements_in_all}
use Rattle.codegen.specs.Owed.{nothing}
use Rattle.codegen.proofs.Placement.{At}
use Rattle.codegen.specs.Costs.{K, C}
use Rattle.codegen.proofs.Budgets.{activation_steps}
use Rattle.codegen.proofs.Logic.{Arrays, Setting, spent, Sound}
use Rattle.codegen.proofs.Frame.{Framed, Same, value_at, There, Stable, value_same}

-- The code of a program: where each function begins, and the traps.
pub record Linked : Type 0 where
  pub setting : Setting
  pub entry : ℕ → ℕ
  pub functions : List Function
  pub few : setting.elements ≤ most_elements_in_all
  pub trap_1 : At setting.code (stub 1) (trapping 1) 9
  pub trap_2 : At setting.code (stub 2) (trapping 2) 12
  pub trap_3 : At setting.code (stub 3) (trapping 3) 15

-- The activation's state: B is the frame, R is where to return to, N locals there are, m₀ is the memory when the function began. Its parts are given apart,
-- so that what changes none of them changes nothing here.
pub record Core (elements B R N : ℕ) (m₀ : ℕ → ℕ) (ls : List ℕ) (w : World) (fixed arguments memory : ℕ → ℕ) (log : List ℕ) : Type 0 where
  pub sp_is : fixed 1 ≡ B
  pub limit_is : fixed 2 ≡ stack_end
  pub request_is : arguments 7 ≡ 1
  pub log_is : log ≡ w.log
  pub arrays : Arrays elements w.arrays memory
  pub many : length ls ≡ N
  pub locals : (y : ℕ) → y < N → memory (B + 4 * local_word y) ≡ get_or ls y 0
  pub ra_is : memory (B + 0) ≡ pos R
  pub below : (a : ℕ) → stack_start ≤ a → a < B → memory a ≡ m₀ a

-- The function has come back, with v in the register of results.
pub record Back (elements B R : ℕ) (m₀ : ℕ → ℕ) (f v : ℕ) (w : World) (τ : State) : Type 0 where
  pub on : τ.status ≡ Going
  pub here : τ.pc ≡ R
  pub sp_is : τ.registers Fixed 1 ≡ B
  pub limit_is : τ.registers Fixed 2 ≡ stack_end
  pub request_is : τ.registers Argument 7 ≡ 1
  pub is : τ.registers Argument 0 ≡ v
  pub log_is : τ.log ≡ w.log
  pub arrays : Arrays elements w.arrays τ.memory
  pub below : (a : ℕ) → stack_start ≤ a → a < B → τ.memory a ≡ m₀ a
  pub less : w.fuel ≤ f

-- the machine is at a function's first instruction, with the arguments in its frame, and `left` more activations may begin
pub record Entered (L : Linked) (left f : ℕ) (vs : List ℕ) (w : World) (R : ℕ) (σ : State) : Type 0 where
  pub on : σ.status ≡ Going
  pub here : σ.pc ≡ L.entry f
  pub known : f < length L.functions
  pub arity : length vs ≡ (get_or L.functions f nothing).parameters
  pub room : σ.registers Fixed 1 + frame_bytes * left ≡ stack_end
  pub limit_is : σ.registers Fixed 2 ≡ stack_end
  pub request_is : σ.registers Argument 7 ≡ 1
  pub ra_is : σ.registers Fixed 0 ≡ pos R
  pub values : (i : ℕ) → i < length vs → σ.memory (σ.registers Fixed 1 + 4 * local_word i) ≡ get_or vs i 0
  pub log_is : σ.log ≡ w.log
  pub arrays : Arrays L.setting.elements w.arrays σ.memory

-- a call, from the function's first instruction on
pub record CallIn (L : Linked) (left : ℕ) : Type 0 where
  pub run : (f : ℕ) (vs ls : List ℕ) (w : World) (R : ℕ) (σ : State) → Entered L left f vs w R σ
      → Sound L.setting (call_at L.setting.room L.functions left f vs ls w) (K * w.fuel + activation_steps) w.fuel C
      (λ v ls' w' τ. Back L.setting.elements (σ.registers Fixed 1) R σ.memory w.fuel v w' τ × (ls' ≡ ls)) σ

-- One activation: of a function with N locals, at B, from where so many more may begin.
pub record Activation (L : Linked) : Type 0 where
  pub near : Bool
  pub N : ℕ
  pub B : ℕ
  pub R : ℕ
  pub left : ℕ
  pub m₀ : ℕ → ℕ
  pub few : N ≤ most_locals
  pub room : B + frame_bytes * suc left ≡ stack_end
  pub most : left < most_activations
  pub under : CallIn L left

module _ (L : Linked) (A : Activation L) where
  abbrev pub S : Setting
  S = L.setting

  abbrev pub B : ℕ
  B = A.B

  pub framed : Framed B
  framed = record { low = omega (arith, A.room, A.most); even = omega (arith, A.room); top = omega (arith, A.room) }

  pub high : stack_start ≤ B
  high = omega (arith, A.room, A.most)

  abbrev pub Cor : List ℕ → World → State → Type 0
  Cor ls w σ = Core S.elements B A.R A.N A.m₀ ls w (σ.registers Fixed) (σ.registers Argument) σ.memory σ.log

  pub core_spent : {ls : List ℕ} {w : World} {fixed arguments memory : ℕ → ℕ} {log : List ℕ} (f : ℕ)
      → Core S.elements B A.R A.N A.m₀ ls w fixed arguments memory log → Core S.elements B A.R A.N A.m₀ ls (spent f w) fixed arguments memory log
  core_spent f c = record {
    sp_is = c.sp_is;
    limit_is = c.limit_is;
    request_is = c.request_is;
    log_is = c.log_is;
    arrays = c.arrays;
    many = c.many;
    locals = c.locals;
    ra_is = c.ra_is;
    below = c.below;
  }

  pub arrays_same : {xs : List ℕ} {m m' : ℕ → ℕ} → ((a : ℕ) → a < stack_start → m' a ≡ m a) → Arrays S.elements xs m → Arrays S.elements xs m'
  arrays_same h c = record { all = c.all; cell = λ i k. h (data_start + 4 * i) (omega (arith, L.few)) ∙ c.cell i k }

  pub core_same : {d q : ℕ} {ls : List ℕ} {w : World} {σ τ : State} → Cor ls w σ → Same B d q σ τ → Cor ls w τ
  core_same c G = record {
    sp_is = G.fixed 1 ∙ c.sp_is;
    limit_is = G.fixed 2 ∙ c.limit_is;
    request_is = G.arguments 7 ∙ c.request_is;
    log_is = G.log ∙ c.log_is;
    arrays = arrays_same (λ a h. G.memory a (omega (arith, high))) c.arrays;
    many = c.many;
    locals = λ y h. G.memory _ (omega (arith, A.few)) ∙ c.locals y h;
    ra_is = G.memory _ (omega arith) ∙ c.ra_is;
    below = λ a h k. G.memory a (omega arith) ∙ c.below a h k;
  }

  -- an expression's value is at its place
  pub record ExprPost (σ : State) (d q : ℕ) (pl : Place) (ls₀ : List ℕ) (f v : ℕ) (ls : List ℕ) (w : World) (τ : State) : Type 0 where
    pub on : τ.status ≡ Going
    pub here : τ.pc ≡ q
    pub cor : Cor ls w τ
    pub is : value_at pl B τ ≡ v
    pub keep : (j : ℕ) → j < d → value_at (temporary j) B τ ≡ value_at (temporary j) B σ
    pub locals : ls ≡ ls₀
    pub less : w.fuel < f

  -- a place that holds an expression's value
  abbrev pub Fit : Place → ℕ → Type 0
  Fit (constant k) d = k < 2 ^ 32
  Fit (local y) d = y < A.N
  Fit (temporary j) d = (j ≡ d) × (d < most_temporaries)

  pub there : (pl : Place) (d : ℕ) → Fit pl d → There pl
  there (constant k) d h = h
  there (local y) d h = omega (arith, A.few)
  there (temporary j) d h = omega (arith, h.0, h.1)

  pub stable : (pl : Place) (d e : ℕ) → Fit pl d → d < e → Stable pl e
  stable (constant k) d e w h = tt
  stable (local y) d e w h = omega (arith, A.few)
  stable (temporary j) d e w h = omega (arith, w.0)

  pub above_le : (pl : Place) (d : ℕ) → d ≤ above pl d
  above_le (constant k) d = omega arith
  above_le (local y) d = omega arith
  above_le (temporary j) d = omega arith

  pub above_most : (pl : Place) (d : ℕ) → above pl d ≤ suc d
  above_most (constant k) d = omega arith
  above_most (local y) d = omega arith
  above_most (temporary j) d = omega arith

  -- an operand keeps its value while what follows it runs
  pub still : (pl : Place) (d v : ℕ) (ls ls' : List ℕ) (w w' : World) (τ ρ : State) → Fit pl d → value_at pl B τ ≡ v → Cor ls w τ → Cor ls' w' ρ → ls' ≡ ls
      → ((j : ℕ) → j < above pl d → value_at (temporary j) B ρ ≡ value_at (temporary j) B τ) → value_at pl B ρ ≡ v
  still (constant k) d v ls ls' w w' τ ρ f h c c' he hk = h
  still (local y) d v ls ls' w w' τ ρ f h c c' he hk = c'.locals y f ∙ ap (λ (g : List ℕ). get_or g y 0) he ∙ sym (c.locals y f) ∙ h
  still (temporary j) d v ls ls' w w' τ ρ f h c c' he hk = hk j (omega (arith, f.0)) ∙ h

  -- the end of an expression whose value is temporary d
  pub finish : {d q v f : ℕ} {ls₀ ls : List ℕ} {w : World} {σ ρ τ : State} → Cor ls w ρ → Same B d q ρ τ → value_at (temporary d) B τ ≡ v
      → ((j : ℕ) → j < d → value_at (temporary j) B ρ ≡ value_at (temporary j) B σ) → ls ≡ ls₀ → w.fuel < f → ExprPost σ d q (temporary d) ls₀ f v ls w τ
  finish c G hv hk he hl = record {
    on = G.on;
    here = G.here;
    cor = core_same c G;
    is = hv;
    keep = λ j h. value_same (temporary j) h G ∙ hk j h;
    locals = he;
    less = hl;
  }

  -- a condition has jumped, or not
  abbrev pub aim : Bool → ℕ → ℕ → ℕ → ℕ
  aim true zero q k = q
  aim true (suc v) q k = q + k
  aim false zero q k = q + k
  aim false (suc v) q k = q

  pub record CondPost (t : Bool) (σ : State) (d q k : ℕ) (ls₀ : List ℕ) (f v : ℕ) (ls : List ℕ) (w : World) (τ : State) : Type 0 where
    pub on : τ.status ≡ Going
    pub here : τ.pc ≡ aim t v q k
    pub cor : Cor ls w τ
    pub keep : (j : ℕ) → j < d → value_at (temporary j) B τ ≡ value_at (temporary j) B σ
    pub locals : ls ≡ ls₀
    pub less : w.fuel < f
