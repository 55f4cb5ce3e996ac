-- Short pieces of code, each with one lemma: from such a state the machine comes to such a one in at most so many steps.
use mathlib.Core.Path.{◌≡◌, refl, ap, ◌∙◌}
use mathlib.Core.Bool.{Bool, true, false, not}
use mathlib.Core.List.{[], ◌∷◌}
use Prim.Native.Nat.{ℕ, zero, suc, ◌+◌, ◌*◌, ◌^◌, ◌≤◌, ◌<◌}
use native.Mathlib.Omega.{arith}
use lib.ListN.{get_or}
use Rattle.word.specs.Choice.{pick}
use Rattle.processor.specs.declared.Status.TheVariants.{Going, Trap}
use Rattle.processor.specs.declared.Alu.TheVariants.{Add}
use Rattle.processor.specs.declared.Cond.{Cond}
use Rattle.processor.specs.Execute.{alu_of, cond_of}
use Rattle.language.specs.Meaning.{World, trapped, stops}
use Rattle.symbolic.specs.Symbolic.{Bank, Fixed, Scratch, Argument, Temporary, Reg, reg, ra, sp, answer, scratch, Instruction, mv, lw, sw, call, bad, State, state, set, value, pos, quit, goto, puts, stores, ecall_of, exec1}
use Rattle.codegen.specs.Places.{Place, constant, local, temporary, in_register, local_word, temporary_word, short, upper_of, lower_of, constant_by, constant_to, source, fetch, target, keep, bring, most_temporaries}
use Rattle.codegen.specs.Operators.{stub, trapping, skip}
use Rattle.codegen.proofs.Placement.{At}
use Rattle.codegen.specs.Costs.{K}
use Rattle.codegen.proofs.Logic.{Arrays, Setting, Post, Sound, sound_stop, sound_ran, Ran, ran_none, ran_step}
use Rattle.codegen.proofs.Numbers.{add_none, parts, opposite_is}
use Rattle.codegen.proofs.Frame.{updated_same, updated_other, Framed, Only, only_puts, only_none, only_trans, put_same, apart, Same, only_same, same_trans, value_by, value_at, There, lw_step, sw_step}

-- what an instruction's sum with x0 is
add_zero_is : (n : ℕ) → n < 2 ^ 32 → alu_of Add 0 n ≡ n
unfolding alu_of
add_zero_is n h = add_none n h

add_parts : (n : ℕ) → n < 2 ^ 32 → alu_of Add (upper_of n) (lower_of n) ≡ n
unfolding alu_of
add_parts n h = parts n h

module _ (S : Setting) where
  -- a constant comes to a register
  pub constant_ok : (b : Bank) (m n p q : ℕ) (σ : State) → n < 2 ^ 32 → At S.code p (constant_to (reg b m) n) q → σ.status ≡ Going → σ.pc ≡ p
      → (τ : State) × Ran S 2 σ τ × Only b m q σ τ × (τ.registers b m ≡ n)
  constant_ok b m n p q σ hn c on hp = go (short n) c
    where
      go : (t : Bool) → At S.code p (constant_by t (reg b m) n) q → (τ : State) × Ran S 2 σ τ × Only b m q σ τ × (τ.registers b m ≡ n)
      go true c = (
        puts (reg b m) (alu_of Add 0 n) σ,
        ran_step S on hp c.0 refl (ran_none S),
        only_puts b m _ q σ (ap suc hp ∙ c.1),
        put_same b m (alu_of Add 0 n) σ ∙ add_zero_is n hn,
      )
      go false c =
          let τ : State = puts (reg b m) (upper_of n) σ in
          let v : ℕ = alu_of Add (τ.registers b m) (lower_of n) in (
            puts (reg b m) v τ,
            ran_step S {τ = τ} on hp c.0 refl (ran_step S refl (ap suc hp) c.1.0 refl (ran_none S)),
            only_trans (only_puts b m (upper_of n) (suc σ.pc) σ refl) (only_puts b m v q τ (ap (λ (k : ℕ). suc (suc k)) hp ∙ c.1.1)),
            put_same b m v τ ∙ ap (λ (k : ℕ). alu_of Add k (lower_of n)) (put_same b m (upper_of n) σ) ∙ add_parts n hn,
          )

  -- an operand is fetched
  pub fetch_ok : {B : ℕ} (pl : Place) (w p q : ℕ) (σ : State) → Framed B → There pl → σ.registers Fixed 1 ≡ B → At S.code p (fetch pl w) q
      → σ.status ≡ Going → σ.pc ≡ p
      → (τ : State) × Ran S 2 σ τ × Only Scratch w q σ τ × (value τ (source pl w) ≡ value_at pl B σ)
  fetch_ok (constant zero) w p q σ F th hs c on hp = (σ, ran_none S, only_none on (hp ∙ c), refl)
  fetch_ok (constant (suc n)) w p q σ F th hs c on hp = constant_ok Scratch w (suc n) p q σ th c on hp
  fetch_ok {B} (local y) w p q σ F th hs c on hp = (
    puts (scratch w) (σ.memory (B + 4 * local_word y)) σ,
    ran_step S on hp c.0 (lw_step S.room (scratch w) (4 * local_word y) σ F (omega arith) (omega arith) hs) (ran_none S),
    only_puts Scratch w _ q σ (ap suc hp ∙ c.1),
    put_same Scratch w _ σ,
  )
  fetch_ok {B} (temporary d) w p q σ F th hs c on hp = go (in_register d) c
    where
      go : (t : Bool) → At S.code p (pick t [] (lw (scratch w) sp (4 * temporary_word d) ∷ [])) q
          → (τ : State) × Ran S 2 σ τ × Only Scratch w q σ τ × (value τ (pick t (reg Temporary d) (scratch w)) ≡ value_by t d B σ)
      go true c = (σ, ran_none S, only_none on (hp ∙ c), refl)
      go false c = (
        puts (scratch w) (σ.memory (B + 4 * temporary_word d)) σ,
        ran_step S on hp c.0 (lw_step S.room (scratch w) (4 * temporary_word d) σ F (omega arith) (omega arith) hs) (ran_none S),
        only_puts Scratch w _ q σ (ap suc hp ∙ c.1),
        put_same Scratch w _ σ,
      )

  -- what was fetched to scratch register 0 stays while another is written
  pub source_only : {q : ℕ} {σ τ : State} (pl : Place) → Only Scratch 1 q σ τ → value τ (source pl 0) ≡ value σ (source pl 0)
  source_only (constant zero) o = refl
  source_only (constant (suc n)) o = o.other Scratch 0 refl
  source_only (local y) o = o.other Scratch 0 refl
  source_only {q} {σ} {τ} (temporary d) o = go (in_register d)
    where
      go : (t : Bool) → value τ (pick t (reg Temporary d) (scratch 0)) ≡ value σ (pick t (reg Temporary d) (scratch 0))
      go true = o.other Temporary d refl
      go false = o.other Scratch 0 refl

  -- a value comes to the register of results
  pub bring_ok : {B : ℕ} (pl : Place) (p q : ℕ) (σ : State) → Framed B → There pl → σ.registers Fixed 1 ≡ B → At S.code p (bring pl) q
      → σ.status ≡ Going → σ.pc ≡ p
      → (τ : State) × Ran S 2 σ τ × Only Argument 0 q σ τ × (τ.registers Argument 0 ≡ value_at pl B σ)
  bring_ok (constant n) p q σ F th hs c on hp = constant_ok Argument 0 n p q σ th c on hp
  bring_ok {B} (local y) p q σ F th hs c on hp = (
    puts answer (σ.memory (B + 4 * local_word y)) σ,
    ran_step S on hp c.0 (lw_step S.room answer (4 * local_word y) σ F (omega arith) (omega arith) hs) (ran_none S),
    only_puts Argument 0 _ q σ (ap suc hp ∙ c.1),
    put_same Argument 0 _ σ,
  )
  bring_ok {B} (temporary d) p q σ F th hs c on hp = go (in_register d) c
    where
      go : (t : Bool) → At S.code p (pick t (mv answer (reg Temporary d) ∷ []) (lw answer sp (4 * temporary_word d) ∷ [])) q
          → (τ : State) × Ran S 2 σ τ × Only Argument 0 q σ τ × (τ.registers Argument 0 ≡ value_by t d B σ)
      go true c =
          (puts answer (σ.registers Temporary d) σ, ran_step S on hp c.0 refl (ran_none S), only_puts Argument 0 _ q σ (ap suc hp ∙ c.1), put_same Argument 0 _ σ)
      go false c = (
        puts answer (σ.memory (B + 4 * temporary_word d)) σ,
        ran_step S on hp c.0 (lw_step S.room answer (4 * temporary_word d) σ F (omega arith) (omega arith) hs) (ran_none S),
        only_puts Argument 0 _ q σ (ap suc hp ∙ c.1),
        put_same Argument 0 _ σ,
      )

  -- the register of temporary d is written
  pub same_target : (B d v q : ℕ) (σ : State) → suc σ.pc ≡ q → Same B d q σ (puts (target d) v σ)
  same_target B d v q σ h = go (in_register d)
    where
      go : (t : Bool) → Same B d q σ (puts (pick t (reg Temporary d) (scratch 0)) v σ)
      go true = record {
        on = refl;
        here = h;
        fixed = λ j. refl;
        arguments = λ j. refl;
        temporaries = λ j k. (only_puts Temporary d v q σ h).other Temporary j (apart Temporary d j (λ e. omega arith));
        memory = λ a k. refl;
        log = refl;
      }
      go false = only_same (only_puts Scratch 0 v q σ h)

  pub value_target : (d v : ℕ) (σ : State) → value (puts (target d) v σ) (target d) ≡ v
  value_target d v σ = go (in_register d)
    where
      go : (t : Bool) → value (puts (pick t (reg Temporary d) (scratch 0)) v σ) (pick t (reg Temporary d) (scratch 0)) ≡ v
      go true = put_same Temporary d v σ
      go false = put_same Scratch 0 v σ

  -- what is in the register of temporary d is kept
  pub keep_ok : {B : ℕ} (d v p q : ℕ) (σ : State) → Framed B → d < most_temporaries → σ.registers Fixed 1 ≡ B → At S.code p (keep d) q
      → σ.status ≡ Going → σ.pc ≡ p → value σ (target d) ≡ v
      → (τ : State) × Ran S 1 σ τ × Same B d q σ τ × (value_at (temporary d) B τ ≡ v)
  keep_ok {B} d v p q σ F hd hs c on hp hv = go (in_register d) c hv
    where
      go : (t : Bool) → At S.code p (pick t [] (sw (scratch 0) sp (4 * temporary_word d) ∷ [])) q → value σ (pick t (reg Temporary d) (scratch 0)) ≡ v
          → (τ : State) × Ran S 1 σ τ × Same B d q σ τ × (value_by t d B τ ≡ v)
      go true c hv = (σ, ran_none S, only_same (only_none {b = Scratch} {m = 0} on (hp ∙ c)), hv)
      go false c hv = (
        stores (B + 4 * temporary_word d) (σ.registers Scratch 0) σ,
        ran_step S on hp c.0 (sw_step S.room (scratch 0) (4 * temporary_word d) σ F (omega arith) (omega arith) hs) (ran_none S),
        record {
          on = refl;
          here = ap suc hp ∙ c.1;
          fixed = λ j. refl;
          arguments = λ j. refl;
          temporaries = λ j k. refl;
          memory = λ a k. updated_other σ.memory (B + 4 * temporary_word d) (σ.registers Scratch 0) a (λ e. omega arith);
          log = refl;
        },
        updated_same σ.memory (B + 4 * temporary_word d) (σ.registers Scratch 0) ∙ hv,
      )

  -- an instruction gives temporary d its value
  pub put_ok : {B : ℕ} (d v p q : ℕ) (i : Instruction) (σ : State) → Framed B → d < most_temporaries → σ.registers Fixed 1 ≡ B → At S.code p (i ∷ keep d) q
      → σ.status ≡ Going → σ.pc ≡ p → exec1 S.room i σ ≡ puts (target d) v σ
      → (τ : State) × Ran S 2 σ τ × Same B d q σ τ × (value_at (temporary d) B τ ≡ v)
  put_ok {B} d v p q i σ F hd hs c on hp e =
      let τ : State = puts (target d) v σ in
      let G : Same B d (suc p) σ τ = same_target B d v (suc p) σ (ap suc hp) in
      let h = keep_ok d v (suc p) q τ F hd (G.fixed 1 ∙ hs) c.1 G.on G.here (value_target d v σ) in
      (h.0, ran_step S on hp c.0 e h.1, same_trans (omega arith) G h.2, h.3)

  -- a jump where a comparison holds
  pub skip_ok : (near : Bool) (c : Cond) (r s : Reg) (k p q : ℕ) (σ : State) → At S.code p (skip near c r s k) q → σ.status ≡ Going → σ.pc ≡ p
      → (t : Bool) → cond_of c (value σ r) (value σ s) ≡ t → Ran S 2 σ (goto (pick t (q + k) q) σ)
  skip_ok true c r s k p q σ hc on hp true e =
      ran_step S on hp hc.0 (ap (λ (t : Bool). goto (pick t (σ.pc + suc k) (suc σ.pc)) σ) e ∙ ap (λ (a : ℕ). goto a σ) (let y : σ.pc + suc k ≡ q + k = omega (arith, hc.1) in y)) (ran_none S)
  skip_ok true c r s k p q σ hc on hp false e =
      ran_step S on hp hc.0 (ap (λ (t : Bool). goto (pick t (σ.pc + suc k) (suc σ.pc)) σ) e ∙ ap (λ (a : ℕ). goto a σ) (let y : suc σ.pc ≡ q = omega (arith, hc.1) in y)) (ran_none S)
  skip_ok false c r s k p q σ hc on hp true e =
      ran_step S {τ = goto (suc σ.pc) σ} on hp hc.0
      (ap (λ (t : Bool). goto (pick t (σ.pc + 2) (suc σ.pc)) σ) (opposite_is c (value σ r) (value σ s) ∙ ap not e))
      (ran_step S refl (ap suc hp) hc.1.0 (ap (λ (a : ℕ). goto a σ) (let y : suc σ.pc + suc k ≡ q + k = omega (arith, hc.1.1) in y)) (ran_none S))
  skip_ok false c r s k p q σ hc on hp false e =
      ran_step S on hp hc.0
      (ap (λ (t : Bool). goto (pick t (σ.pc + 2) (suc σ.pc)) σ) (opposite_is c (value σ r) (value σ s) ∙ ap not e)
      ∙ ap (λ (a : ℕ). goto a σ) (let y : σ.pc + 2 ≡ q = omega (arith, hc.1.1) in y)) (ran_none S)

  -- a trap stops the run
  trap_ecall : (t : ℕ) (σ : State) → σ.registers Argument 7 ≡ 2 → σ.registers Argument 0 ≡ t → ecall_of S.room σ ≡ quit (Trap t) σ
  unfolding ecall_of
  trap_ecall t σ h e = rw (h, e) refl

  pub trap_ok : {X : Type 0} {U L z : ℕ} {Q : Post X} (t p q : ℕ) (w : World) (σ : State) → t < 2 ^ 32 → At S.code (stub t) (trapping t) q
      → get_or S.code p bad ≡ call (stub t) → σ.status ≡ Going → σ.pc ≡ p
      → K * w.fuel + 4 ≤ U → L ≤ w.fuel + z → σ.log ≡ w.log → Arrays S.elements w.arrays σ.memory
      → Sound S {A = X} (stops (trapped t) w) U L z Q σ
  trap_ok {U = U} t p q w σ ht hc here on hp hu hl hlog harr =
      sound_ran S 4 (omega arith)
      (ran_step S {τ = state Going (stub t) (set ra (pos (suc σ.pc)) σ.registers) σ.memory σ.log} on hp here refl
      (ran_step S refl refl hc.0 refl
      (ran_step S refl refl hc.1.0 refl
      (ran_step S refl refl hc.1.1.0 (trap_ecall t _ (add_zero_is 2 (omega arith)) (add_zero_is t ht)) (ran_none S)))))
      (sound_stop S (omega arith) (omega arith) (refl, hlog, harr))
