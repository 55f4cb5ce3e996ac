-- Functions: from the first instruction to the return, for every number of activations that may yet begin.
use mathlib.Core.Path.{◌≡◌, refl, sym, ap, ◌∙◌, subst}
use mathlib.Core.Bool.{Bool, true, false, not}
use mathlib.Core.List.{List, [], ◌∷◌, ◌++◌}
use Prim.Native.Nat.{ℕ, zero, suc, ◌+◌, ◌-◌, ◌*◌, ◌≤◌, ◌<◌}
use native.Mathlib.Nat.{zero-add}
use native.Mathlib.Omega.{arith}
use native.Mathlib.Decide.{dec_lt}
use lib.Dec.{eqb}
use lib.ListN.{length, get_or, replicate, length-append, length-replicate, get_or-append}
use borrow.Author.Tests.{eq-eqb, ne_eqb}
use Rattle.word.specs.Choice.{pick}
use Rattle.processor.specs.declared.Status.TheVariants.{Going}
use Rattle.processor.specs.declared.Alu.TheVariants.{Add}
use Rattle.processor.specs.declared.Cond.TheVariants.{Ne}
use Rattle.processor.specs.Execute.{cond_of}
use Rattle.language.specs.Core.{Function}
use Rattle.language.specs.Meaning.{World, Result, goes, stops, bind, Flow, next, returned, result, back, call_at, most_activations}
use Rattle.symbolic.specs.Symbolic.{Fixed, Argument, Registers, x0, ra, sp, answer, opi, branch, State, updated, goto, puts, stores, exec1}
use Rattle.codegen.specs.Places.{local_word, stack_end, most_locals}
use Rattle.codegen.specs.Statements.{limit, leaving, block, clears, function_by, near_in, function}
use Rattle.codegen.specs.Owed.{nothing, RunsAll, Proper}
use Rattle.codegen.proofs.Placement.{At, at_split}
use Rattle.codegen.specs.Costs.{K, C}
use Rattle.codegen.proofs.Budgets.{activation_steps}
use Rattle.codegen.proofs.Logic.{Setting, Sound, sound_bind, sound_end, sound_ran, Ran, ran_none, ran_step, ran_trans, ran_most}
use Rattle.codegen.proofs.Frame.{updated_same, updated_other, Framed, only_puts, sw_step}
use Rattle.codegen.proofs.Macros.{trap_ok}
use Rattle.codegen.proofs.Activation.{Linked, Activation, Back, Entered, CallIn, framed, high, Cor, arrays_same}
use Rattle.codegen.proofs.Operators.{zero_is}
use Rattle.codegen.proofs.Statements.{StmtPost, exs, blk, leaves, core_answer}

-- a call's end as a sequence
back_is : (room : ℕ) (ls : List ℕ) (r : Result Flow) → back room ls r ≡ bind r (λ f ls' w. goes (result room f) ls w)
unfolding back bind
back_is room ls (goes f ls' w) = refl
back_is room ls (stops o w) = refl

-- the locals: the arguments, then the lets
get_d_zeros : (n i : ℕ) → get_or {A = ℕ} (replicate n 0) i 0 ≡ 0
get_d_zeros zero i = refl
get_d_zeros (suc n) zero = refl
get_d_zeros (suc n) (suc i) = get_d_zeros n i

get_d_right : (vs zs : List ℕ) (j : ℕ) → get_or (vs ++ zs) (length vs + j) 0 ≡ get_or zs j 0
get_d_right [] zs j = ap (λ (n : ℕ). get_or zs n 0) (zero-add j)
get_d_right (v ∷ vs) zs j = ap (λ (n : ℕ). get_or (v ∷ (vs ++ zs)) n 0) (let y : suc (length vs) + j ≡ suc (length vs + j) = omega arith in y) ∙ get_d_right vs zs j

differs : (a b : ℕ) → cond_of Ne a b ≡ not (eqb a b)
unfolding cond_of
differs a b = refl

module _ (L : Linked) where
  abbrev S : Setting
  S = L.setting

  -- a branch at the function's beginning
  enough : (σ : State) (t : Bool) → eqb (σ.registers Fixed 1) (σ.registers Fixed 2) ≡ t → exec1 S.room (branch Ne sp limit 2) σ ≡ goto (pick (not t) (σ.pc + 2) (suc σ.pc)) σ
  enough σ t e = ap (λ (b : Bool). goto (pick b (σ.pc + 2) (suc σ.pc)) σ) (differs (σ.registers Fixed 1) (σ.registers Fixed 2) ∙ ap not e)

  -- the lets are cleared
  record Cleared (B first n q : ℕ) (σ τ : State) : Type 0 where
    on : τ.status ≡ Going
    here : τ.pc ≡ q
    registers : τ.registers ≡ σ.registers
    log : τ.log ≡ σ.log
    values : (i : ℕ) → i < n → τ.memory (B + 4 * local_word (first + i)) ≡ 0
    other : (a : ℕ) → ((i : ℕ) → i < n → a ≡ B + 4 * local_word (first + i) → ⊥) → τ.memory a ≡ σ.memory a

  cleared : (B first n p q : ℕ) (σ : State) → Framed B → first + n ≤ most_locals → σ.registers Fixed 1 ≡ B → At S.code p (clears first n) q → σ.status ≡ Going → σ.pc ≡ p
      → (τ : State) × Ran S n σ τ × Cleared B first n q σ τ
  unfolding clears
  cleared B first zero p q σ F hf hs c on hp =
      (σ, ran_none S, record { on = on; here = hp ∙ c; registers = refl; log = refl; values = λ i k. absurd (omega arith); other = λ a k. refl })
  cleared B first (suc n) p q σ F hf hs c on hp =
      let t = at_split S.code p (clears first n) _ q c in
      let z = cleared B first n p t.0 σ F (omega arith) hs t.1 on hp in (
        stores (B + 4 * local_word (first + n)) 0 z.0,
        ran_most S (omega arith) (ran_trans S z.1 (ran_step S z.2.on z.2.here t.2.0
            (sw_step S.room x0 (4 * local_word (first + n)) z.0 F (omega arith) (omega arith) (ap (λ g. g Fixed 1) z.2.registers ∙ hs)) (ran_none S {n = 0}))),
        more z.0 t.0 z.2 t.2.1,
      )
    where
      more : (τ : State) (r : ℕ) → Cleared B first n r σ τ → suc r ≡ q → Cleared B first (suc n) q σ (stores (B + 4 * local_word (first + n)) 0 τ)
      more τ r z e = record {
        on = refl;
        here = ap suc z.here ∙ e;
        registers = z.registers;
        log = z.log;
        values = λ i k. go i k (dec_lt i n);
        other = λ a k. updated_other τ.memory (B + 4 * local_word (first + n)) 0 a (λ e. k n (omega arith) e) ∙ z.other a (λ i h e. k i (omega arith) e);
      }
        where
          go : (i : ℕ) → i < suc n → Dec (i < n) → updated τ.memory (B + 4 * local_word (first + n)) 0 (B + 4 * local_word (first + i)) ≡ 0
          go i k (yes h) = updated_other τ.memory (B + 4 * local_word (first + n)) 0 (B + 4 * local_word (first + i)) (λ e. omega arith) ∙ z.values i h
          go i k (no h) =
              subst (λ (m : ℕ). updated τ.memory (B + 4 * local_word (first + n)) 0 (B + 4 * local_word (first + m)) ≡ 0) (let y : n ≡ i = omega arith in y)
              (updated_same τ.memory (B + 4 * local_word (first + n)) 0)

  module _ (proper : (f : ℕ) → f < length L.functions → Proper L.functions S.elements (get_or L.functions f nothing))
      (placed : (f : ℕ) → f < length L.functions → (q : ℕ) × At S.code (L.entry f) (function L.entry (get_or L.functions f nothing)) q) where
    -- a call that may not be made
    full : (f : ℕ) (vs ls : List ℕ) (w : World) (R : ℕ) (σ : State) → Entered L 0 f vs w R σ
        → Sound S (call_at S.room L.functions 0 f vs ls w) (K * w.fuel + activation_steps) w.fuel C
        (λ v ls' w' τ. Back S.elements (σ.registers Fixed 1) R σ.memory w.fuel v w' τ × (ls' ≡ ls)) σ
    unfolding call_at function function_by
    full f vs ls w R σ E =
        let hc = (placed f E.known).1 in
        let e : σ.registers Fixed 1 ≡ σ.registers Fixed 2 = (let y : σ.registers Fixed 1 ≡ stack_end = omega (arith, E.room) in y) ∙ sym E.limit_is in
        sound_ran S 1 (omega arith) (ran_step S {τ = goto (suc σ.pc) σ} E.on E.here hc.0 (enough σ true (eq-eqb _ _ e)) (ran_none S))
        (trap_ok S 3 (suc (L.entry f)) 15 w (goto (suc σ.pc) σ) (omega arith) L.trap_3 hc.1.0 refl (ap suc E.here) (omega arith) (omega arith) E.log_is E.arrays)

    -- the body, and what follows it
    whole : (f : ℕ) (vs ls : List ℕ) (w : World) (A : Activation L) (σ : State) → A.near ≡ near_in (get_or L.functions f nothing)
        → A.N ≡ (get_or L.functions f nothing).parameters + (get_or L.functions f nothing).lets → A.B ≡ σ.registers Fixed 1 → A.m₀ ≡ σ.memory
        → Entered L (suc A.left) f vs w A.R σ
        → Sound S (call_at S.room L.functions (suc A.left) f vs ls w) (K * w.fuel + activation_steps) w.fuel C
        (λ v ls' w' τ. Back S.elements A.B A.R A.m₀ w.fuel v w' τ × (ls' ≡ ls)) σ
    unfolding call_at function function_by
    whole f vs ls w A σ hn hN hB hm E =
        let g : Function = get_or L.functions f nothing in
        let P = proper f E.known in
        let loc = P.locals in
        let rm = A.room in
        let mst = A.most in
        let q : ℕ = (placed f E.known).0 in
        let hc = (placed f E.known).1 in
        let p : ℕ = L.entry f in
        let ne : σ.registers Fixed 1 ≡ σ.registers Fixed 2 → ⊥ = λ e. omega (arith, E.limit_is, E.room, e) in
        let t = at_split S.code (suc (suc (suc p))) (clears g.parameters g.lets) (block L.entry (near_in g) g.body ++ (opi Add answer x0 0 ∷ leaving)) q hc.1.1.1 in
        let u = at_split S.code t.0 (block L.entry (near_in g) g.body) (opi Add answer x0 0 ∷ leaving) q t.2 in
        let σ1 : State = goto (suc (suc p)) σ in
        let σ2 : State = stores (A.B + 0) (σ.registers Fixed 0) σ1 in
        let z = cleared A.B g.parameters g.lets (suc (suc (suc p))) t.0 σ2 (framed L A) loc (sym hB) t.1 refl refl in
        subst (λ (r : Result ℕ). Sound S r (K * w.fuel + activation_steps) w.fuel C (λ v ls' w' τ. Back S.elements A.B A.R A.m₀ w.fuel v w' τ × (ls' ≡ ls)) σ)
        (sym (back_is S.room ls (exs L A g.body (vs ++ replicate g.lets 0) w)))
        (sound_ran S 66 (omega arith)
        (ran_most S (omega arith) (ran_step S {τ = σ1} E.on E.here hc.0
        (enough σ false (ne_eqb _ _ ne) ∙ ap (λ (a : ℕ). goto a σ) (let y : σ.pc + 2 ≡ suc (suc p) = omega (arith, E.here) in y))
        (ran_step S {τ = σ2} refl refl hc.1.1.0 (sw_step S.room ra 0 σ1 (framed L A) (omega arith) refl (sym hB)) z.1)))
        (sound_bind S {z2 = 0} 6 (omega arith) (omega arith) (let k = P.short in omega (arith, k))
        ((blk L A (λ h k. (proper h k).few) g.body t.0 u.0 (subst (λ (n : ℕ). RunsAll L.functions S.elements n g.body) (sym hN) P.body) P.short
        (subst (λ (b : Bool). At S.code t.0 (block L.entry b g.body) u.0) (sym hn) u.1)
        ).run (vs ++ replicate g.lets 0) w z.0 z.2.on z.2.here (core0 z.0 t.0 z.2))
        (λ fl ls2 w2 τ Q. ends fl ls2 w2 τ u.0 q u.2 Q)))
      where
        core0 : (τ : State) (r : ℕ) → Cleared A.B (get_or L.functions f nothing).parameters (get_or L.functions f nothing).lets r
            (stores (A.B + 0) (σ.registers Fixed 0) (goto (suc (suc (L.entry f))) σ)) τ
            → Cor L A (vs ++ replicate (get_or L.functions f nothing).lets 0) w τ
        core0 τ r z =
            let n : ℕ = (get_or L.functions f nothing).parameters in
            let k : ℕ = (get_or L.functions f nothing).lets in
            let hB2 = high L A in
            let old : (a : ℕ) → a < A.B → τ.memory a ≡ σ.memory a =
            λ a h. z.other a (λ i k e. omega arith) ∙ updated_other σ.memory (A.B + 0) (σ.registers Fixed 0) a (λ e. omega arith) in
            record {
              sp_is = ap (λ (x : Registers). x Fixed 1) z.registers ∙ sym hB;
              limit_is = ap (λ (x : Registers). x Fixed 2) z.registers ∙ E.limit_is;
              request_is = ap (λ (x : Registers). x Argument 7) z.registers ∙ E.request_is;
              log_is = z.log ∙ E.log_is;
              arrays = arrays_same L A (λ a h. old a (omega arith)) E.arrays;
              many = length-append vs (replicate k 0) ∙ (let a = length-replicate {A = ℕ} k 0 in let b = E.arity in let y : length vs + length (replicate k 0) ≡ A.N = omega (arith, a, b, hN) in y);
              locals = λ y h. each y h (dec_lt y n);
              ra_is = z.other (A.B + 0) (λ i k e. omega arith) ∙ updated_same σ.memory (A.B + 0) (σ.registers Fixed 0) ∙ E.ra_is;
              below = λ a h1 h2. old a h2 ∙ ap (λ (m : ℕ → ℕ). m a) (sym hm);
            }
          where
            each : (y : ℕ) → y < A.N → Dec (y < (get_or L.functions f nothing).parameters)
                → τ.memory (A.B + 4 * local_word y) ≡ get_or (vs ++ replicate (get_or L.functions f nothing).lets 0) y 0
            each y h (yes k) =
                let hv : y < length vs = omega (arith, E.arity) in
                z.other (A.B + 4 * local_word y) (λ i k e. omega arith) ∙ updated_other σ.memory (A.B + 0) (σ.registers Fixed 0) (A.B + 4 * local_word y) (λ e. omega arith)
                ∙ ap (λ (b : ℕ). σ.memory (b + 4 * local_word y)) hB ∙ E.values y hv ∙ sym (get_or-append vs (replicate (get_or L.functions f nothing).lets 0) 0 y hv)
            each y h (no k) =
                let n : ℕ = (get_or L.functions f nothing).parameters in
                let e1 : y ≡ n + (y - n) = omega arith in
                let e2 : y ≡ length vs + (y - n) = omega (arith, E.arity) in
                ap (λ (i : ℕ). τ.memory (A.B + 4 * local_word i)) e1 ∙ z.values (y - n) (omega (arith, hN))
                ∙ sym (ap (λ (i : ℕ). get_or (vs ++ replicate (get_or L.functions f nothing).lets 0) i 0) e2 ∙ get_d_right vs (replicate (get_or L.functions f nothing).lets 0) (y - n)
                ∙ get_d_zeros (get_or L.functions f nothing).lets (y - n))

        ends : {z : ℕ} (fl : Flow) (ls2 : List ℕ) (w2 : World) (τ : State) (r q : ℕ) → At S.code r (opi Add answer x0 0 ∷ leaving) q → StmtPost L A r w.fuel fl ls2 w2 τ
            → Sound S (goes (result S.room fl) ls w2) (K * w2.fuel + 6) w2.fuel z (λ v ls' w' τ'. Back S.elements A.B A.R A.m₀ w.fuel v w' τ' × (ls' ≡ ls)) τ
        ends next ls2 w2 τ r q hc Z =
            let ω : State = puts answer 0 τ in
            let h = leaves L A 0 (suc r) q w.fuel ls2 w2 ω hc.1 refl (ap suc Z.here) (core_answer L A Z.cor (only_puts Argument 0 0 (suc τ.pc) τ refl)) refl Z.less in
            sound_ran S 3 (omega arith) (ran_step S {τ = ω} Z.on Z.here hc.0 (ap (λ (n : ℕ). puts answer n τ) zero_is) h.1)
            (sound_end S (omega arith) (omega arith) (h.2, refl))
        ends (returned v) ls2 w2 τ r q hc Z = sound_end S (omega arith) (omega arith) (Z, refl)

    pub called : (left : ℕ) → left ≤ most_activations → CallIn L left
    called zero h = record { run = full }
    called (suc left) h = record {
      run = λ f vs ls w R σ E.
          let g : Function = get_or L.functions f nothing in
          let P = proper f E.known in
          whole f vs ls w (record {
            near = near_in g;
            N = g.parameters + g.lets;
            B = σ.registers Fixed 1;
            R = R;
            left = left;
            m₀ = σ.memory;
            few = P.locals;
            room = E.room;
            most = omega arith;
            under = called left (omega arith);
          }) σ refl refl refl refl E;
    }
