-- What the instructions whose meaning tests something do where that test is known: loads, stores, returns, and what an ecall asks for.
use Prim.Native.Nat.{ℕ, ◌<◌, ◌≤◌}
use mathlib.Core.Path.{◌≡◌, refl, sym, ap, ◌∙◌}
use mathlib.Core.Bool.{Bool, true}
use lib.Dec.{eqb}
use lib.ListN.{length}
use borrow.Author.Tests.{lt-ltb, le-ltb, eq-eqb, ne_eqb}
use Rattle.word.specs.Choice.{pick}
use Rattle.word.specs.Word.{add_w}
use Rattle.processor.specs.declared.Width.TheVariants.{Word}
use Rattle.processor.specs.declared.Status.TheVariants.{Exit, Trap, Fault}
use Rattle.processor.specs.Execute.{reaches}
use Rattle.symbolic.specs.Symbolic.{Reg, ra, request, answer, lw, sw, ret, ecall, State, value, updated, pos, position_of, quit, goto, puts, stores, logs, ecall_of, exec1}
use Rattle.symbolic.proofs.Distances.{position_is}

-- a map at the place that was changed, and elsewhere
pub updated_same : {A : Type 0} (f : ℕ → A) (k : ℕ) (v : A) → updated f k v k ≡ v
updated_same f k v = ap (λ (b : Bool). pick b v (f k)) (eq-eqb k k refl)

pub updated_other : {A : Type 0} (f : ℕ → A) (k : ℕ) (v : A) (j : ℕ) → (j ≡ k → ⊥) → updated f k v j ≡ f j
updated_other f k v j h = ap (λ (b : Bool). pick b v (f j)) (ne_eqb j k h)

module _ (room : ℕ) (σ : State) where
  pub load_at : (r q : Reg) (n a : ℕ) → add_w (value σ q) n ≡ a → reaches Word a ≡ true → exec1 room (lw r q n) σ ≡ puts r (σ.memory a) σ
  load_at r q n a e h = go (add_w (value σ q) n) e
    where
      go : (b : ℕ) → b ≡ a → pick (reaches Word b) (puts r (σ.memory b) σ) (quit (Fault 3) σ) ≡ puts r (σ.memory a) σ
      go b e = rw (e, h) refl

  pub store_at : (r q : Reg) (n a : ℕ) → add_w (value σ q) n ≡ a → reaches Word a ≡ true → exec1 room (sw r q n) σ ≡ stores a (value σ r) σ
  store_at r q n a e h = go (add_w (value σ q) n) e
    where
      go : (b : ℕ) → b ≡ a → pick (reaches Word b) (stores b (value σ r) σ) (quit (Fault 3) σ) ≡ stores a (value σ r) σ
      go b e = rw (e, h) refl

  pub return_to : (t : ℕ) → value σ ra ≡ pos t → exec1 room ret σ ≡ goto t σ
  return_to t e = go (value σ ra) e
    where
      go : (a : ℕ) → a ≡ pos t → pick (eqb (pos (position_of a)) a) (goto (position_of a) σ) (quit (Fault 1) σ) ≡ goto t σ
      go a e =
          let p : position_of a ≡ t = ap position_of e ∙ position_is t in
          rw (p, eq-eqb (pos t) a (sym e)) refl

  -- x17 is 0: exit; 1: the value is logged, or trap 4 where the log is full; 2: trap
  pub exits : value σ request ≡ 0 → exec1 room ecall σ ≡ quit Exit σ
  unfolding ecall_of
  exits e = rw (ap (λ (w : ℕ). eqb w 0) e) refl

  pub emits : value σ request ≡ 1 → length σ.log < room → exec1 room ecall σ ≡ logs (value σ answer) σ
  unfolding ecall_of
  emits e h = rw (ap (λ (w : ℕ). eqb w 0) e, ap (λ (w : ℕ). eqb w 1) e, lt-ltb (length σ.log) room h) refl

  pub emits_full : value σ request ≡ 1 → room ≤ length σ.log → exec1 room ecall σ ≡ quit (Trap 4) σ
  unfolding ecall_of
  emits_full e h = rw (ap (λ (w : ℕ). eqb w 0) e, ap (λ (w : ℕ). eqb w 1) e, le-ltb (length σ.log) room h) refl

  pub traps : value σ request ≡ 2 → exec1 room ecall σ ≡ quit (Trap (value σ answer)) σ
  unfolding ecall_of
  traps e = rw (ap (λ (w : ℕ). eqb w 0) e, ap (λ (w : ℕ). eqb w 1) e, ap (λ (w : ℕ). eqb w 2) e) refl
