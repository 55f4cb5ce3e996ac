-- Runs of the symbolic processor by itself: one after the other, after a stop, at a known instruction; the log only grows.
use Prim.Native.Nat.{ℕ, zero, suc, ◌+◌, ◌-◌, ◌≤◌}
use mathlib.Core.Path.{◌≡◌, refl, sym, ap, ◌∙◌, subst}
use mathlib.Core.Bool.{Bool, true, false}
use mathlib.Core.List.{List, [], ◌∷◌, ◌++◌, append-nil, append_assoc}
use native.Mathlib.Nat.{zero-add, suc-add}
use native.Mathlib.Omega.{arith}
use lib.Dec.{ltb, eqb}
use lib.ListN.{length, get_or}
use Rattle.word.specs.Choice.{pick}
use Rattle.word.specs.Word.{add_w}
use Rattle.processor.specs.declared.Width.TheVariants.{Word}
use Rattle.processor.specs.declared.Status.{Status}
use Rattle.processor.specs.declared.Status.TheVariants.{Going, Exit, Trap, Fault, Limit}
use Rattle.processor.specs.Execute.{reaches}
use Rattle.symbolic.specs.Symbolic.{Instruction, lui, opi, shift, mv, op, lw, sw, branch, branch_back, jump, jump_back, call, ret, ecall, bad, State, value, ra, request, answer, pos, position_of, ecall_of, exec1, step_by, step, run, count_by, count}

-- a state that doesn't go on
abbrev pub Stopped : Status → Type 0
Stopped Going = ⊥
Stopped Exit = Unit {0}
Stopped (Trap t) = Unit {0}
Stopped (Fault n) = Unit {0}
Stopped Limit = Unit {0}

-- a log of which the other is the beginning, or the whole
abbrev pub Begins : List ℕ → List ℕ → Type 0
Begins l m = (rest : List ℕ) × (l ++ rest ≡ m)

begins_same : {l : List ℕ} → Begins l l
begins_same {l} = ([], append-nil l)

begins_pick : (t : Bool) (σ τ : State) (l : List ℕ) → Begins l σ.log → Begins l τ.log → Begins l (pick t σ τ).log
begins_pick true σ τ l h k = h
begins_pick false σ τ l h k = k

begins_trans : (a : List ℕ) {b c : List ℕ} → Begins a b → Begins b c → Begins a c
begins_trans a h k = (h.0 ++ k.0, sym (append_assoc a h.0 k.0) ∙ ap (λ (l : List ℕ). l ++ k.0) h.1 ∙ k.1)

module _ (room : ℕ) (code : List Instruction) where
  pub run_add : (a b : ℕ) (σ : State) → run room code (a + b) σ ≡ run room code b (run room code a σ)
  unfolding run
  run_add zero b σ = rw zero-add
  run_add (suc a) b σ = rw suc-add (run_add a b (step room code σ))

  -- one step at a known instruction
  pub step_at : {p : ℕ} {i : Instruction} (σ : State) → σ.status ≡ Going → σ.pc ≡ p → get_or code p bad ≡ i → run room code 1 σ ≡ exec1 room i σ
  unfolding run step
  step_at σ on at is = ap (λ (s : Status). step_by room s code σ) on ∙ ap (λ (k : ℕ). exec1 room (get_or code k bad) σ) at ∙ ap (λ (j : Instruction). exec1 room j σ) is

  stops_by : (s : Status) (σ : State) → Stopped s → step_by room s code σ ≡ σ
  stops_by Going σ h = absurd h
  stops_by Exit σ h = refl
  stops_by (Trap t) σ h = refl
  stops_by (Fault n) σ h = refl
  stops_by Limit σ h = refl

  -- what stopped stays
  pub rests : (n : ℕ) (σ : State) → Stopped σ.status → run room code n σ ≡ σ
  unfolding run step
  rests zero σ h = refl
  rests (suc n) σ h = ap (λ (τ : State). run room code n τ) (stops_by σ.status σ h) ∙ rests n σ h

  pub later : (m n : ℕ) (σ : State) → m ≤ n → Stopped (run room code m σ).status → run room code n σ ≡ run room code m σ
  later m n σ h k =
      let e : n ≡ m + (n - m) = omega arith in
      ap (λ (i : ℕ). run room code i σ) e ∙ run_add m (n - m) σ ∙ rests (n - m) (run room code m σ) k

  exec_log : (i : Instruction) (σ : State) → Begins σ.log (exec1 room i σ).log
  unfolding ecall_of
  exec_log (lui r n) σ = begins_same
  exec_log (opi o r q n) σ = begins_same
  exec_log (shift o r q n) σ = begins_same
  exec_log (mv r q) σ = begins_same
  exec_log (op o r p q) σ = begins_same
  exec_log (lw r q n) σ = begins_pick (reaches Word (add_w (value σ q) n)) _ _ σ.log begins_same begins_same
  exec_log (sw r q n) σ = begins_pick (reaches Word (add_w (value σ q) n)) _ _ σ.log begins_same begins_same
  exec_log (branch c p q n) σ = begins_same
  exec_log (branch_back c p q n) σ = begins_same
  exec_log (jump n) σ = begins_same
  exec_log (jump_back n) σ = begins_same
  exec_log (call t) σ = begins_same
  exec_log ret σ = begins_pick (eqb (pos (position_of (value σ ra))) (value σ ra)) _ _ σ.log begins_same begins_same
  exec_log ecall σ =
      begins_pick (eqb (value σ request) 0) _ _ σ.log begins_same
      (begins_pick (eqb (value σ request) 1) _ _ σ.log (begins_pick (ltb (length σ.log) room) _ _ σ.log (value σ answer ∷ [], refl) begins_same)
      (begins_pick (eqb (value σ request) 2) _ _ σ.log begins_same begins_same))
  exec_log bad σ = begins_same

  step_log : (s : Status) (σ : State) → Begins σ.log (step_by room s code σ).log
  step_log Going σ = exec_log (get_or code σ.pc bad) σ
  step_log Exit σ = begins_same
  step_log (Trap t) σ = begins_same
  step_log (Fault n) σ = begins_same
  step_log Limit σ = begins_same

  pub log_grows : (n : ℕ) (σ : State) → Begins σ.log (run room code n σ).log
  unfolding run step
  log_grows zero σ = begins_same
  log_grows (suc n) σ = begins_trans σ.log (step_log σ.status σ) (log_grows n (step_by room σ.status code σ))

  -- steps are counted up to a stop: at most n of n, and n where the machine still goes on
  count_by_lem : (s : Status) (n k : ℕ) → k ≤ n → count_by room s k ≤ suc n
  count_by_lem Going n k h = omega arith
  count_by_lem Exit n k h = omega arith
  count_by_lem (Trap t) n k h = omega arith
  count_by_lem (Fault f) n k h = omega arith
  count_by_lem Limit n k h = omega arith

  pub count_most : (n : ℕ) (σ : State) → count room code n σ ≤ n
  unfolding count
  count_most zero σ = omega arith
  count_most (suc n) σ = count_by_lem (step room code σ).status n (count room code n (step room code σ)) (count_most n (step room code σ))

  -- and none after it
  count_same : (s : Status) (a b : ℕ) → (s ≡ Going → a ≡ b) → count_by room s a ≡ count_by room s b
  count_same Going a b h = ap suc (h refl)
  count_same Exit a b h = refl
  count_same (Trap t) a b h = refl
  count_same (Fault f) a b h = refl
  count_same Limit a b h = refl

  pub count_later : (m n : ℕ) (σ : State) → σ.status ≡ Going → Stopped (run room code m σ).status → count room code (m + n) σ ≡ count room code m σ
  unfolding run count
  count_later zero n σ on h = absurd (subst Stopped on h)
  count_later (suc m) n σ on h =
      rw suc-add (count_same (step room code σ).status (count room code (m + n) (step room code σ)) (count room code m (step room code σ)) (λ on'. count_later m n (step room code σ) on' h))
