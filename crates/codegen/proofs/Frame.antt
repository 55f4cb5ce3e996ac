-- Frames and what pieces of code leave as it was: relations between states, not exact states.
use mathlib.Core.Path.{◌≡◌, refl, ap, ◌∙◌}
use mathlib.Core.Bool.{Bool, true, false}
use Prim.Native.Nat.{ℕ, suc, ◌+◌, ◌*◌, ◌%◌, ◌^◌, ◌≤◌, ◌<◌}
use native.Mathlib.Omega.{arith}
use lib.Dec.{eqb}
use borrow.Author.Tests.{eq-eqb, ne_eqb}
use Rattle.word.specs.Choice.{pick, both}
use Rattle.word.specs.Word.{add_w}
use Rattle.processor.specs.declared.Status.TheVariants.{Going, Fault}
use Rattle.processor.specs.declared.Width.TheVariants.{Word}
use Rattle.processor.specs.Execute.{reaches}
use Rattle.symbolic.specs.Symbolic.{Bank, Fixed, Scratch, Argument, Temporary, first, Reg, reg, sp, lw, sw, State, updated, value, quit, puts, stores, exec1}
use Rattle.codegen.specs.Places.{Place, constant, local, temporary, in_register, local_word, temporary_word, most_temporaries, most_locals}
use Rattle.codegen.proofs.Numbers.{add_is, in_data}

pub updated_same : {A : Type 0} (f : ℕ → A) (k : ℕ) (v : A) → updated f k v k ≡ v
updated_same f k v = ap (λ (b : Bool). pick b v (f k)) (eq-eqb k k refl)

pub updated_other : {A : Type 0} (f : ℕ → A) (k : ℕ) (v : A) (j : ℕ) → (j ≡ k → ⊥) → updated f k v j ≡ f j
updated_other f k v j h = ap (λ (b : Bool). pick b v (f j)) (ne_eqb j k h)

-- A frame that lies in memory, and the first words of the next one.
pub record Framed (B : ℕ) : Type 0 where
  pub low : 0x100000 ≤ B
  pub even : B % 4 ≡ 0
  pub top : B + 2400 ≤ 0x200000

-- register m of bank b is not register j of bank c
abbrev pub Apart : Bank → ℕ → Bank → ℕ → Type 0
Apart b m c j = both (eqb (first c) (first b)) (eqb j m) ≡ false

-- only register m of bank b may have changed
pub record Only (b : Bank) (m q : ℕ) (σ τ : State) : Type 0 where
  pub on : τ.status ≡ Going
  pub here : τ.pc ≡ q
  pub other : (c : Bank) (j : ℕ) → Apart b m c j → τ.registers c j ≡ σ.registers c j
  pub memory : (a : ℕ) → τ.memory a ≡ σ.memory a
  pub log : τ.log ≡ σ.log

pub only_puts : (b : Bank) (m v q : ℕ) (σ : State) → suc σ.pc ≡ q → Only b m q σ (puts (reg b m) v σ)
only_puts b m v q σ h =
    record { on = refl; here = h; other = λ c j e. ap (λ (t : Bool). pick t v (σ.registers c j)) e; memory = λ a. refl; log = refl }

pub only_none : {b : Bank} {m q : ℕ} {σ : State} → σ.status ≡ Going → σ.pc ≡ q → Only b m q σ σ
only_none on h = record { on = on; here = h; other = λ c j e. refl; memory = λ a. refl; log = refl }

pub only_trans : {b : Bank} {m q r : ℕ} {σ τ ρ : State} → Only b m q σ τ → Only b m r τ ρ → Only b m r σ ρ
only_trans s t = record { on = t.on; here = t.here; other = λ c j e. t.other c j e ∙ s.other c j e; memory = λ a. t.memory a ∙ s.memory a; log = t.log ∙ s.log }

bank_same : (b : Bank) → eqb (first b) (first b) ≡ true
bank_same b = eq-eqb (first b) (first b) refl

pub put_same : (b : Bank) (m v : ℕ) (σ : State) → (puts (reg b m) v σ).registers b m ≡ v
put_same b m v σ =
    ap (λ (t : Bool). pick (both t (eqb m m)) v (σ.registers b m)) (bank_same b) ∙ ap (λ (t : Bool). pick t v (σ.registers b m)) (eq-eqb m m refl)

pub apart : (b : Bank) (m j : ℕ) → (j ≡ m → ⊥) → Apart b m b j
apart b m j h = ap (λ (t : Bool). both t (eqb j m)) (bank_same b) ∙ ne_eqb j m h

-- what code leaves as it was where d temporaries are in use, and B is the frame
pub record Same (B d q : ℕ) (σ τ : State) : Type 0 where
  pub on : τ.status ≡ Going
  pub here : τ.pc ≡ q
  pub fixed : (j : ℕ) → τ.registers Fixed j ≡ σ.registers Fixed j
  pub arguments : (j : ℕ) → τ.registers Argument j ≡ σ.registers Argument j
  pub temporaries : (j : ℕ) → j < d → τ.registers Temporary j ≡ σ.registers Temporary j
  pub memory : (a : ℕ) → a < B + 4 * temporary_word d → τ.memory a ≡ σ.memory a
  pub log : τ.log ≡ σ.log

pub only_same : {B d w q : ℕ} {σ τ : State} → Only Scratch w q σ τ → Same B d q σ τ
only_same o = record {
  on = o.on;
  here = o.here;
  fixed = λ j. o.other Fixed j refl;
  arguments = λ j. o.other Argument j refl;
  temporaries = λ j h. o.other Temporary j refl;
  memory = λ a h. o.memory a;
  log = o.log;
}

pub same_trans : {B d e p q : ℕ} {σ τ ρ : State} → d ≤ e → Same B d p σ τ → Same B e q τ ρ → Same B d q σ ρ
same_trans h s t = record {
  on = t.on;
  here = t.here;
  fixed = λ j. t.fixed j ∙ s.fixed j;
  arguments = λ j. t.arguments j ∙ s.arguments j;
  temporaries = λ j k. t.temporaries j (omega arith) ∙ s.temporaries j k;
  memory = λ a k. t.memory a (omega arith) ∙ s.memory a k;
  log = t.log ∙ s.log;
}

pub same_join : {B d p q : ℕ} {σ τ ρ : State} → Same B d p σ τ → Same B d q τ ρ → Same B d q σ ρ
same_join s t = same_trans (omega arith) s t

pub same_less : {B d e q : ℕ} {σ τ : State} → d ≤ e → Same B e q σ τ → Same B d q σ τ
same_less h s = record {
  on = s.on;
  here = s.here;
  fixed = s.fixed;
  arguments = s.arguments;
  temporaries = λ j k. s.temporaries j (omega arith);
  memory = λ a k. s.memory a (omega arith);
  log = s.log;
}

-- The value at a place.

abbrev pub value_by : Bool → ℕ → ℕ → State → ℕ
value_by true d B σ = σ.registers Temporary d
value_by false d B σ = σ.memory (B + 4 * temporary_word d)

abbrev pub value_at : Place → ℕ → State → ℕ
value_at (constant n) B σ = n
value_at (local y) B σ = σ.memory (B + 4 * local_word y)
value_at (temporary d) B σ = value_by (in_register d) d B σ

-- a place that is there, and one that code leaves where d temporaries are in use
abbrev pub There : Place → Type 0
There (constant n) = n < 2 ^ 32
There (local y) = y < most_locals
There (temporary d) = d < most_temporaries

abbrev pub Stable : Place → ℕ → Type 0
Stable (constant n) d = Unit {0}
Stable (local y) d = y < most_locals
Stable (temporary j) d = j < d

pub value_same : {B d q : ℕ} {σ τ : State} (p : Place) → Stable p d → Same B d q σ τ → value_at p B τ ≡ value_at p B σ
value_same (constant n) h s = refl
value_same (local y) h s = s.memory _ (omega arith)
value_same {B} {d} {q} {σ} {τ} (temporary j) h s = go (in_register j)
  where
    go : (t : Bool) → value_by t j B τ ≡ value_by t j B σ
    go true = s.temporaries j h
    go false = s.memory _ (omega arith)

-- Words of the frame: the offset n from sp.
module _ (room : ℕ) where
  pub lw_step : {B : ℕ} (r : Reg) (n : ℕ) (σ : State) → Framed B → n + 4 ≤ 2400 → n % 4 ≡ 0 → σ.registers Fixed 1 ≡ B
      → exec1 room (lw r sp n) σ ≡ puts r (σ.memory (B + n)) σ
  lw_step {B} r n σ F hn he hs =
      ap (λ (b : ℕ). pick (reaches Word (add_w b n)) (puts r (σ.memory (add_w b n)) σ) (quit (Fault 3) σ)) hs
      ∙ ap (λ (a : ℕ). pick (reaches Word a) (puts r (σ.memory a) σ) (quit (Fault 3) σ)) (add_is B n (omega (arith, F.top)))
      ∙ ap (λ (t : Bool). pick t (puts r (σ.memory (B + n)) σ) (quit (Fault 3) σ))
      (in_data (B + n) (omega (arith, F.low)) (omega (arith, F.top)) (omega (arith, F.even)))

  pub sw_step : {B : ℕ} (r : Reg) (n : ℕ) (σ : State) → Framed B → n + 4 ≤ 2400 → n % 4 ≡ 0 → σ.registers Fixed 1 ≡ B
      → exec1 room (sw r sp n) σ ≡ stores (B + n) (value σ r) σ
  sw_step {B} r n σ F hn he hs =
      ap (λ (b : ℕ). pick (reaches Word (add_w b n)) (stores (add_w b n) (value σ r) σ) (quit (Fault 3) σ)) hs
      ∙ ap (λ (a : ℕ). pick (reaches Word a) (stores a (value σ r) σ) (quit (Fault 3) σ)) (add_is B n (omega (arith, F.top)))
      ∙ ap (λ (t : Bool). pick t (stores (B + n) (value σ r) σ) (quit (Fault 3) σ))
      (in_data (B + n) (omega (arith, F.low)) (omega (arith, F.top)) (omega (arith, F.even)))
