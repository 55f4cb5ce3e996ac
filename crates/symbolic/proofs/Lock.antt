-- In step: a run of the symbolic processor that doesn't fault is a run of document 03's, step for step.
use Prim.Native.Nat.{ℕ, zero, suc, ◌+◌, ◌*◌, ◌%◌, ◌≤◌, ◌<◌}
use mathlib.Core.Path.{◌≡◌, refl, sym, ap, ◌∙◌, subst}
use mathlib.Core.Bool.{true, false}
use mathlib.Core.List.{List}
use native.Mathlib.Omega.{arith}
use native.Mathlib.Decide.{dec_lt}
use lib.ListN.{length, get_or, get_or-eq_default}
use borrow.Author.Tests.{lt-ltb, le-leb, eq-eqb}
use Rattle.processor.specs.declared.Status.{Status}
use Rattle.processor.specs.declared.Status.TheVariants.{Going, Exit, Trap, Fault, Limit}
use Rattle.processor.specs.Machine.{Machine, word_at, code_start}
use Rattle.processor.specs.Run.{in_code, step_of, is_going, counted, Run, run_of}
use Rattle.processor.proofs.Fetch.{step_at}
use Rattle.symbolic.specs.Symbolic.{Instruction, bad, State, pos, exec1, step_by, step, run, count_by, count}
use Rattle.symbolic.specs.Real.{real}
use Rattle.symbolic.specs.Fine.{AllFine, most_instructions}
use Rattle.symbolic.proofs.AllFine.{fine_at}
use Rattle.symbolic.proofs.Shown.{shown}
use Rattle.symbolic.proofs.Encodable.{encodable}
use Rattle.symbolic.proofs.Match.{Match, Alike}
use Rattle.symbolic.proofs.Instructions.{NoFault, executes}
use Rattle.symbolic.proofs.Runs.{Stopped, rests}

module _ (room : ℕ) (code : List Instruction) (short : length code ≤ most_instructions) (fine : AllFine code) where
  -- the size of the code, in bytes
  abbrev pub size : ℕ
  size = 4 * length code

  in_code_lem : (k : ℕ) → k < length code → in_code size (pos k) ≡ true
  unfolding in_code
  in_code_lem k h = rw (eq-eqb (pos k % 4) 0 (omega arith), le-leb code_start (pos k) (omega arith), lt-ltb (pos k) (code_start + size) (omega arith)) refl

  pub step_lock : (σ : State) (m : Machine) → σ.status ≡ Going → Match code σ m → NoFault (step room code σ).status → Alike code (step room code σ) (step_of size room m)
  unfolding step
  step_lock σ m on c safe =
      let e : step_by room σ.status code σ ≡ exec1 room (get_or code σ.pc bad) σ = ap (λ (s : Status). step_by room s code σ) on in
      subst (λ (τ : State). Alike code τ (step_of size room m)) (sym e) (go (dec_lt σ.pc (length code)) (subst (λ (τ : State). NoFault τ.status) e safe))
    where
      go : Dec (σ.pc < length code) → NoFault (exec1 room (get_or code σ.pc bad) σ).status → Alike code (exec1 room (get_or code σ.pc bad) σ) (step_of size room m)
      go (yes h) safe =
          let f = fine_at code σ.pc fine h in
          subst (λ (n : Machine). Alike code (exec1 room (get_or code σ.pc bad) σ) n)
          (sym (step_at size room m (real σ.pc (get_or code σ.pc bad)) (encodable σ.pc (get_or code σ.pc bad) (omega arith) f)
          (ap (λ (p : ℕ). in_code size p) c.pc ∙ in_code_lem σ.pc h) (ap (λ (p : ℕ). word_at m.memory p) c.pc ∙ c.memory.code_in σ.pc h)))
          (executes room short σ m (omega arith) c (get_or code σ.pc bad) f safe)
      go (no h) safe = absurd (subst (λ (i : Instruction). NoFault (exec1 room i σ).status) (get_or-eq_default code bad (omega arith)) safe)

  -- what a run with a limit of n steps, after k of them, has come to
  pub record Ran (n k : ℕ) (σ : State) (r : Run) : Type 0 where
    pub status : r.machine.status ≡ shown (run room code n σ).status
    pub match : Match code (run room code n σ) r.machine
    pub steps : r.steps ≡ k + count room code n σ

  pub run_lock : (n : ℕ) (σ : State) (m : Machine) (k : ℕ) → σ.status ≡ Going → Match code σ m → NoFault (run room code n σ).status → Ran n k σ (run_of size room n m k)
  unfolding run count run_of
  run_lock zero σ m k on c safe = record {
    status = sym (ap shown on);
    match = record { pc = c.pc; registers = c.registers; memory = c.memory; log = c.log };
    steps = omega arith;
  }
  run_lock (suc n) σ m k on c safe = go (λ on' c'. run_lock n (step room code σ) (step_of size room m) (k + 1) on' c' safe) (step room code σ).status refl
    where
      halted : Stopped (step room code σ).status → NoFault (step room code σ).status
      halted h = subst (λ (τ : State). NoFault τ.status) (rests room code n (step room code σ) h) safe

      -- it stops here
      ends : (s : Status) → (step room code σ).status ≡ s → Stopped s → is_going s ≡ false → shown s ≡ s → counted s ≡ count_by room s (count room code n (step room code σ))
          → Ran (suc n) k σ (run_of size room (suc n) m k)
      ends s e stop off same once =
          let a = step_lock σ m on c (halted (subst Stopped (sym e) stop)) in
          let q = rests room code n (step room code σ) (subst Stopped (sym e) stop) in
          rw (ap is_going (a.status ∙ e) ∙ off)
          (record {
            status = a.status ∙ e ∙ sym same ∙ ap shown (sym e ∙ ap (λ (τ : State). τ.status) (sym q));
            match = subst (λ (τ : State). Match code τ (step_of size room m)) (sym q) a.match;
            steps = ap (λ (x : ℕ). k + x) (ap counted (a.status ∙ e) ∙ once ∙ ap (λ (x : Status). count_by room x (count room code n (step room code σ))) (sym e));
          })

      go : ((step room code σ).status ≡ Going → Match code (step room code σ) (step_of size room m) → Ran n (k + 1) (step room code σ) (run_of size room n (step_of size room m) (k + 1)))
          → (s : Status) → (step room code σ).status ≡ s → Ran (suc n) k σ (run_of size room (suc n) m k)
      go rec Going e =
          let a = step_lock σ m on c (subst NoFault (sym e) tt) in
          let r = rec e a.match in
          rw (ap is_going (a.status ∙ e))
          (record {
            status = r.status;
            match = r.match;
            steps = r.steps ∙ more k (count room code n (step room code σ)) ∙ ap (λ (x : Status). k + count_by room x (count room code n (step room code σ))) (sym e);
          })
        where
          more : (k c : ℕ) → k + 1 + c ≡ k + suc c
          more k c = omega arith
      go rec Exit e = ends Exit e tt refl refl refl
      go rec (Trap t) e = ends (Trap t) e tt refl refl refl
      go rec (Fault x) e = absurd (subst NoFault e (halted (subst Stopped (sym e) tt)))
      go rec Limit e = ends Limit e tt refl refl refl
