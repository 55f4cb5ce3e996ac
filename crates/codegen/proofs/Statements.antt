-- Statements and blocks: what they do in the source, their code does. One case of the language is one lemma.
use mathlib.Core.Path.{◌≡◌, refl, sym, ap, ◌∙◌, subst}
use mathlib.Core.Bool.{Bool, true, false}
use mathlib.Core.List.{List, [], ◌∷◌, ◌++◌}
use Prim.Native.Nat.{ℕ, zero, suc, ◌+◌, ◌-◌, ◌*◌, ◌≤◌, ◌<◌}
use native.Mathlib.Omega.{arith}
use native.Mathlib.Decide.{ℕ_discrete}
use lib.Dec.{ltb, eqb}
use lib.ListN.{length, get_or, set, length-set}
use borrow.Author.Tests.{ltb-true, eq-eqb}
use Rattle.word.specs.Choice.{pick}
use Rattle.word.specs.Word.{add_w}
use Rattle.processor.specs.declared.Status.TheVariants.{Going, Exit, Trap, Fault}
use Rattle.processor.specs.declared.Alu.TheVariants.{Add}
use Rattle.processor.specs.declared.Width.TheVariants.{Word}
use Rattle.processor.specs.Execute.{reaches}
use Rattle.processor.specs.Machine.{data_start}
use Rattle.language.specs.Core.{Array, Expr, Args, Stmt, Block}
use Rattle.language.specs.Core as C
use Rattle.language.specs.Meaning.{World, trapped, Result, goes, stops, Act, bind, begin, value as gives, trap, branch, write, assign, append, Flow, next, returned, followed, rounds, call_at, eval, exec, block as block_of}
use Rattle.symbolic.specs.Symbolic.{Fixed, Scratch, Argument, x0, ra, sp, answer, scratch, opi, sw, jump, jump_back, ret, ecall, bad, State, updated, value, pos, position_of, quit, goto, puts, stores, logs, ecall_of, exec1}
use Rattle.codegen.specs.Places.{Place, above, local_word, source, fetch, bring, most_temporaries}
use Rattle.codegen.specs.Operators.{address, locate, offset, writing}
use Rattle.codegen.specs.Expressions.{place_of, places_of, calling, code, codes, condition}
use Rattle.codegen.specs.Statements.{leaving, over, otherwise, brought, answering, statement, block}
use Rattle.language.specs.Rules.{most_parameters}
use Rattle.codegen.specs.Owed.{nodes, nodes_of, size, size_of, nothing, Fits, Tests, Runs, RunsAll}
use Rattle.codegen.proofs.Placement.{At, at_split, at_len}
use Rattle.codegen.specs.Costs.{K, C}
use Rattle.codegen.proofs.Budgets.{answer_spare, call_share}
use Rattle.codegen.proofs.Logic.{Setting, spent, Sound, sound_rates, sound_bind, sound_bind', sound_then, sound_then', sound_post, sound_begin, sound_step, sound_end, sound_stop, sound_ran, Ran, ran_none, ran_step, ran_trans}
use Rattle.codegen.proofs.Numbers.{in_data}
use Rattle.codegen.proofs.Frame.{updated_same, updated_other, Only, only_puts, only_same, value_at, There, Stable, value_same, lw_step, sw_step}
use Rattle.codegen.proofs.Macros.{fetch_ok, bring_ok, trap_ok}
use Rattle.codegen.proofs.Elements.{Located, located}
use Rattle.codegen.proofs.Activation.{Linked, Activation, Core, Back, framed, high, Cor, core_same, core_spent, arrays_same, Fit, there, stable, still, CondPost}
use Rattle.codegen.proofs.Operators.{zero_is}
use Rattle.codegen.proofs.Calls.{calls}
use Rattle.codegen.proofs.Expressions.{ExprIn, CondIn, ArgsIn, fit_of, left_of, places_count, ev, evs, expr, args, cond}

-- a list with one element set
pub set_same : (l : List ℕ) (i v : ℕ) → i < length l → get_or (set l i v) i 0 ≡ v
set_same [] i v h = absurd (omega arith)
set_same (x ∷ l) zero v h = refl
set_same (x ∷ l) (suc i) v h = set_same l i v (omega arith)

pub set_other : (l : List ℕ) (i v j : ℕ) → (j ≡ i → ⊥) → get_or (set l i v) j 0 ≡ get_or l j 0
set_other [] i v j h = refl
set_other (x ∷ l) zero v zero h = absurd (h refl)
set_other (x ∷ l) zero v (suc j) h = refl
set_other (x ∷ l) (suc i) v zero h = refl
set_other (x ∷ l) (suc i) v (suc j) h = set_other l i v j (λ e. h (ap suc e))

-- an element written, a value logged
abbrev written : Array → ℕ → ℕ → List ℕ → World → Result (Unit {0})
written a i v ls w = goes tt ls (record { fuel = w.fuel; log = w.log; arrays = set w.arrays (a.offset + i) v })

abbrev logged : ℕ → List ℕ → World → Result (Unit {0})
logged v ls w = goes tt ls (record { fuel = w.fuel; log = w.log ++ (v ∷ []); arrays = w.arrays })

ret_is : (room R : ℕ) (σ : State) → σ.registers Fixed 0 ≡ pos R → exec1 room ret σ ≡ goto R σ
ret_is room R σ h =
    ap (λ (n : ℕ). pick (eqb (pos (position_of n)) n) (goto (position_of n) σ) (quit (Fault 1) σ)) h
    ∙ ap (λ (n : ℕ). pick (eqb (pos n) (pos R)) (goto n σ) (quit (Fault 1) σ)) (let y : position_of (pos R) ≡ R = omega arith in y)
    ∙ ap (λ (t : Bool). pick t (goto R σ) (quit (Fault 1) σ)) (eq-eqb (pos R) (pos R) refl)

emit_is : (room : ℕ) (σ : State) → σ.registers Argument 7 ≡ 1 → ecall_of room σ ≡ pick (ltb (length σ.log) room) (logs (σ.registers Argument 0) σ) (quit (Trap 4) σ)
unfolding ecall_of
emit_is room σ h = ap (λ (n : ℕ). pick (eqb n 0) (quit Exit σ) (pick (eqb n 1) (pick (ltb (length σ.log) room) (logs (σ.registers Argument 0) σ) (quit (Trap 4) σ))
    (pick (eqb n 2) (quit (Trap (σ.registers Argument 0)) σ) (quit (Fault 5) σ)))) h

module _ (L : Linked) (A : Activation L) where
  abbrev S : Setting
  S = L.setting

  abbrev B : ℕ
  B = A.B

  -- the next statement follows
  pub record NextPost (q f : ℕ) (ls : List ℕ) (w : World) (τ : State) : Type 0 where
    pub on : τ.status ≡ Going
    pub here : τ.pc ≡ q
    pub cor : Cor L A ls w τ
    pub less : w.fuel ≤ f

  abbrev pub StmtPost : ℕ → ℕ → Flow → List ℕ → World → State → Type 0
  StmtPost q f next ls w τ = NextPost q f ls w τ
  StmtPost q f (returned v) ls w τ = Back S.elements B A.R A.m₀ f v w τ

  pub record StmtIn (m : Act Flow) (z p q : ℕ) : Type 0 where
    pub run : (ls : List ℕ) (w : World) (σ : State) → σ.status ≡ Going → σ.pc ≡ p → Cor L A ls w σ
        → Sound S (m ls w) (K * w.fuel) w.fuel z (StmtPost q w.fuel) σ

  pub post_less : (q f g : ℕ) (fl : Flow) (ls : List ℕ) (w : World) (τ : State) → f ≤ g → StmtPost q f fl ls w τ → StmtPost q g fl ls w τ
  post_less q f g next ls w τ h Q = record { on = Q.on; here = Q.here; cor = Q.cor; less = omega (arith, Q.less) }
  post_less q f g (returned v) ls w τ h Q = record {
    on = Q.on;
    here = Q.here;
    sp_is = Q.sp_is;
    limit_is = Q.limit_is;
    request_is = Q.request_is;
    is = Q.is;
    log_is = Q.log_is;
    arrays = Q.arrays;
    below = Q.below;
    less = omega (arith, Q.less);
  }

  -- a statement's result, seen from further out
  pub outer : {U L₀ z U' L' z' : ℕ} (r : Result Flow) (q f g : ℕ) (σ : State) → f ≤ g → U ≤ U' → L' + z ≤ L₀ + z'
      → Sound S r U L₀ z (StmtPost q f) σ → Sound S r U' L' z' (StmtPost q g) σ
  outer r q f g σ h hu hl k = sound_rates S r hu hl (sound_post S r (λ fl ls w τ Q. post_less q f g fl ls w τ h Q) k)

  follow : {U L₀ z : ℕ} (fl : Flow) (m : Act Flow) (r q f g : ℕ) (ls : List ℕ) (w : World) (τ : State) → K * w.fuel ≤ U → L₀ ≤ w.fuel + z → f ≤ g → StmtPost r f fl ls w τ
      → (NextPost r f ls w τ → Sound S (m ls w) U L₀ z (StmtPost q g) τ) → Sound S (followed fl m ls w) U L₀ z (StmtPost q g) τ
  follow next m r q f g ls w τ hu hl h Q k = k Q
  follow (returned v) m r q f g ls w τ hu hl h Q k = sound_end S hu hl (post_less q f g (returned v) ls w τ h Q)

  -- Blocks.

  end_in : (p : ℕ) → StmtIn (gives next) 0 p p
  end_in p = record { run = λ ls w σ on hp c. sound_end S (omega arith) (omega arith) (record { on = on; here = hp; cor = c; less = omega arith }) }

  then_in : (m n : Act Flow) (y z p r q : ℕ) → StmtIn m y p r → StmtIn n z r q → StmtIn (λ ls w. bind (m ls w) (λ f. followed f n)) (y + z) p q
  then_in m n y z p r q I J = record {
    run = λ ls w σ on hp c.
        sound_bind S {z2 = z} 0 (omega arith) (omega arith) (omega arith) (I.run ls w σ on hp c)
        (λ fl ls2 w2 τ Q. follow fl n r q w.fuel w.fuel ls2 w2 τ (omega arith) (omega arith) (omega arith) Q
        (λ Q. outer (n ls2 w2) q w2.fuel w.fuel τ Q.less (omega arith) (omega arith) (J.run ls2 w2 τ Q.on Q.here Q.cor)));
  }

  -- `let` and assignment
  core_set : {ls : List ℕ} {w : World} (σ : State) (x v : ℕ) → x < A.N → Cor L A ls w σ
      → Core S.elements B A.R A.N A.m₀ (set ls x v) w (σ.registers Fixed) (σ.registers Argument) (updated σ.memory (B + 4 * local_word x) v) σ.log
  core_set {ls} {w} σ x v hx c = record {
    sp_is = c.sp_is;
    limit_is = c.limit_is;
    request_is = c.request_is;
    log_is = c.log_is;
    arrays = arrays_same L A (λ a k. updated_other σ.memory (B + 4 * local_word x) v a (λ e. omega (arith, high L A))) c.arrays;
    many = length-set ls x v ∙ c.many;
    locals = λ y k. go y k (ℕ_discrete y x);
    ra_is = updated_other σ.memory (B + 4 * local_word x) v _ (λ e. omega arith) ∙ c.ra_is;
    below = λ a k1 k2. updated_other σ.memory (B + 4 * local_word x) v a (λ e. omega arith) ∙ c.below a k1 k2;
  }
    where
      go : (y : ℕ) → y < A.N → Dec (y ≡ x) → updated σ.memory (B + 4 * local_word x) v (B + 4 * local_word y) ≡ get_or (set ls x v) y 0
      go y k (yes e) =
          subst (λ (n : ℕ). updated σ.memory (B + 4 * local_word x) v (B + 4 * local_word n) ≡ get_or (set ls x v) n 0) (sym e)
          (updated_same σ.memory (B + 4 * local_word x) v ∙ sym (set_same ls x v (let h = c.many in omega (arith, h))))
      go y k (no e) = updated_other σ.memory (B + 4 * local_word x) v (B + 4 * local_word y) (λ q. e (omega arith)) ∙ c.locals y k ∙ sym (set_other ls x v y e)

  put_in : (m : Act ℕ) (x z p r q : ℕ) (pl : Place) → Fit L A pl 0 → x < A.N → ExprIn L A m z 0 p r pl
      → At S.code r (fetch pl 0 ++ (sw (source pl 0) sp (4 * local_word x) ∷ [])) q
      → StmtIn (λ ls w. bind (begin ls w) (λ _ ls w. bind (m ls w) (λ v ls w. bind (assign x v ls w) (λ _. gives next)))) (suc z) p q
  unfolding assign bind
  put_in m x z p r q pl hf hx I hc = record {
    run = λ ls w σ on hp c. sound_begin S ls w _ on c.log_is c.arrays (λ f e.
        sound_bind S {z2 = 0} K (omega arith) (omega arith) (omega arith) (I.run ls (spent f w) σ on hp (core_spent L A f c))
        (λ v ls2 w2 τ Q.
        let t = at_split S.code r (fetch pl 0) (sw (source pl 0) sp (4 * local_word x) ∷ []) q hc in
        let h = fetch_ok S pl 0 r t.0 τ (framed L A) (there L A pl 0 hf) Q.cor.sp_is t.1 Q.on Q.here in
        let c2 : Cor L A ls2 w2 h.0 = core_same L A Q.cor (only_same {B = B} {d = 0} h.2) in
        let few = A.few in
        sound_ran S 3 (omega arith)
        (ran_trans S h.1 (ran_step S {τ = stores (B + 4 * local_word x) v h.0} h.2.on h.2.here t.2.0
        (sw_step S.room (source pl 0) (4 * local_word x) h.0 (framed L A) (omega arith) (omega arith) c2.sp_is
        ∙ ap (λ (n : ℕ). stores (B + 4 * local_word x) n h.0) (h.3 ∙ Q.is)) (ran_none S {n = 0})))
        (sound_end S (omega arith) (omega arith) (record {
          on = refl;
          here = ap suc h.2.here ∙ t.2.1;
          cor = core_set h.0 x v hx c2;
          less = omega (arith, Q.less);
        }))));
  }

  -- a store to an array
  core_write : {ls : List ℕ} {w : World} (σ : State) (a : Array) (i v : ℕ) → i < a.size → a.offset + a.size ≤ S.elements → Cor L A ls w σ
      → Core S.elements B A.R A.N A.m₀ ls (record { fuel = w.fuel; log = w.log; arrays = set w.arrays (a.offset + i) v })
      (σ.registers Fixed) (σ.registers Argument) (updated σ.memory (address a i) v) σ.log
  core_write {ls} {w} σ a i v hi ha c =
      let few = L.few in
      let hB = high L A in
      record {
        sp_is = c.sp_is;
        limit_is = c.limit_is;
        request_is = c.request_is;
        log_is = c.log_is;
        many = c.many;
        arrays = record { all = length-set w.arrays (a.offset + i) v ∙ c.arrays.all; cell = λ j h. cell j h (ℕ_discrete j (a.offset + i)) };
        locals = λ y k. updated_other σ.memory (address a i) v _ (λ e. omega arith) ∙ c.locals y k;
        ra_is = updated_other σ.memory (address a i) v _ (λ e. omega arith) ∙ c.ra_is;
        below = λ b k1 k2. updated_other σ.memory (address a i) v b (λ e. omega arith) ∙ c.below b k1 k2;
      }
    where
      cell : (j : ℕ) → j < S.elements → Dec (j ≡ a.offset + i) → updated σ.memory (address a i) v (data_start + 4 * j) ≡ get_or (set w.arrays (a.offset + i) v) j 0
      cell j h (yes e) =
          subst (λ (n : ℕ). updated σ.memory (address a i) v (data_start + 4 * n) ≡ get_or (set w.arrays (a.offset + i) v) n 0) (sym e)
          (updated_same σ.memory (address a i) v ∙ sym (set_same w.arrays (a.offset + i) v (let k = c.arrays.all in omega (arith, k))))
      cell j h (no e) = updated_other σ.memory (address a i) v (data_start + 4 * j) (λ q. e (omega arith)) ∙ c.arrays.cell j h ∙ sym (set_other w.arrays (a.offset + i) v j e)

  writes : (a : Array) (i v d e p q f : ℕ) (pl pv : Place) (ls : List ℕ) (w : World) (ρ : State) → There pl → There pv → Stable pv e → a.offset + a.size ≤ S.elements
      → Cor L A ls w ρ → ρ.status ≡ Going → ρ.pc ≡ p → value_at pl B ρ ≡ i → value_at pv B ρ ≡ v → At S.code p (writing a pl pv) q → w.fuel ≤ f
      → Sound S (bind (write a i v ls w) (λ _. gives next)) (K * w.fuel + 100) w.fuel 0 (StmtPost q f) ρ
  unfolding write bind
  writes a i v d e p q f pl pv ls w ρ tl tv sv ha c on hp hi hv hc hf =
      let t = at_split S.code p (locate a pl) (fetch pv 1 ++ (sw (source pv 1) (scratch 0) (offset a pl) ∷ [])) q hc in
      go t.0 t.2 (ltb i a.size) refl
      (located S a pl e p t.0 i ρ (framed L A) tl c.sp_is (omega (arith, L.few)) t.1 on hp hi (ltb i a.size) refl)
    where
      go : (r : ℕ) → At S.code r (fetch pv 1 ++ (sw (source pv 1) (scratch 0) (offset a pl) ∷ [])) q → (b : Bool) → ltb i a.size ≡ b → Located S b B e r (offset a pl) i a ρ
          → Sound S (bind (pick b (λ ls w. written a i v ls w) (trap 2) ls w) (λ _. gives next))
          (K * w.fuel + 100) w.fuel 0 (StmtPost q f) ρ
      go r hc false eb F =
          let cr = core_same L A c F.same in
          sound_ran S 8 (omega arith) F.ran
          (trap_ok S 2 F.at 12 w F.to (omega arith) L.trap_2 F.here F.same.on F.same.here (omega arith) (omega arith) cr.log_is cr.arrays)
      go r hc true eb F =
          let k : i < a.size = ltb-true _ _ eb in
          let few = L.few in
          let cr = core_same L A c F.same in
          let u = at_split S.code r (fetch pv 1) (sw (source pv 1) (scratch 0) (offset a pl) ∷ []) q hc in
          let h = fetch_ok S pv 1 r u.0 F.to (framed L A) tv cr.sp_is u.1 F.same.on F.same.here in
          let c2 : Cor L A ls w h.0 = core_same L A cr (only_same {B = B} {d = 0} h.2) in
          sound_ran S 11 (omega arith)
          (ran_trans S F.ran (ran_trans S h.1 (ran_step S {τ = stores (address a i) v h.0} h.2.on h.2.here u.2.0
          (ap (λ (n : ℕ). pick (reaches Word n) (stores n (value h.0 (source pv 1)) h.0) (quit (Fault 3) h.0))
          (ap (λ (n : ℕ). add_w n (offset a pl)) (h.2.other Scratch 0 refl) ∙ F.is)
          ∙ ap (λ (b : Bool). pick b (stores (address a i) (value h.0 (source pv 1)) h.0) (quit (Fault 3) h.0)) (in_data (address a i) (omega arith) (omega arith) (omega arith))
          ∙ ap (λ (n : ℕ). stores (address a i) n h.0) (h.3 ∙ value_same pv sv F.same ∙ hv)) (ran_none S {n = 0}))))
          (sound_end S (omega arith) (omega arith) (record { on = refl; here = ap suc h.2.here ∙ u.2.1; cor = core_write h.0 a i v k ha c2; less = hf }))

  store_in : (ma mb : Act ℕ) (a : Array) (za zb p r u q : ℕ) (pa pb : Place) → Fit L A pa 0 → Fit L A pb (above pa 0) → a.offset + a.size ≤ S.elements
      → ExprIn L A ma za 0 p r pa → ExprIn L A mb zb (above pa 0) r u pb → At S.code u (writing a pa pb) q
      → StmtIn (λ ls w. bind (begin ls w) (λ _ ls w. bind (ma ls w) (λ i ls w. bind (mb ls w) (λ v ls w. bind (write a i v ls w) (λ _. gives next))))) (suc (za + zb)) p q
  store_in ma mb a za zb p r u q pa pb fa fb ha I J hc = record {
    run = λ ls w σ on hp c. sound_begin S ls w _ on c.log_is c.arrays (λ f e.
        sound_bind S {z2 = zb} K (omega arith) (omega arith) (omega arith) (I.run ls (spent f w) σ on hp (core_spent L A f c))
        (λ i ls2 w2 τ Q. sound_bind S {z2 = 0} 100 (omega arith) (omega arith) (omega arith) (J.run ls2 w2 τ Q.on Q.here Q.cor)
        (λ v ls3 w3 ρ Z. writes a i v 0 (suc (above pa 0)) u q w.fuel pa pb ls3 w3 ρ (there L A pa 0 fa) (there L A pb (above pa 0) fb)
        (stable L A pb (above pa 0) (suc (above pa 0)) fb (omega arith)) ha Z.cor Z.on Z.here
        (still L A pa 0 i ls2 ls3 w2 w3 τ ρ fa Q.is Q.cor Z.cor Z.locals Z.keep) Z.is hc (omega (arith, Q.less, Z.less)))));
  }

  -- Conditions: over a block, or to the one behind it.

  choose_end : (m : Act ℕ) (n : Act Flow) (y z p r q k : ℕ) → k ≡ q - r → r ≤ q → CondIn L A m y false 0 p r k → StmtIn n z r q
      → StmtIn (λ ls w. bind (begin ls w) (λ _ ls w. bind (m ls w) (λ v. branch v n (gives next)))) (suc (y + (z + 0))) p q
  choose_end m n y z p r q k hk hr I J = record {
    run = λ ls w σ on hp c. sound_begin S ls w _ on c.log_is c.arrays (λ f e.
        sound_bind S {z2 = z} K (omega arith) (omega arith) (omega arith) (I.run ls (spent f w) σ on hp (core_spent L A f c))
        (λ v ls2 w2 τ Q. go v ls ls2 w2 f w.fuel σ τ (omega arith) Q));
  }
    where
      go : (v : ℕ) (ls ls2 : List ℕ) (w2 : World) (f g : ℕ) (σ τ : State) → f ≤ g → CondPost L A false σ 0 r k ls f v ls2 w2 τ
          → Sound S (branch v n (gives next) ls2 w2) (K * w2.fuel + K) w2.fuel z (StmtPost q g) τ
      go zero ls ls2 w2 f g σ τ h Q =
          sound_end S (omega arith) (omega arith) (record { on = Q.on; here = Q.here ∙ (let y : r + k ≡ q = omega arith in y); cor = Q.cor; less = omega (arith, Q.less) })
      go (suc v) ls ls2 w2 f g σ τ h Q = outer (n ls2 w2) q w2.fuel g τ (omega (arith, Q.less)) (omega arith) (omega arith) (J.run ls2 w2 τ Q.on Q.here Q.cor)

  -- over the other block
  hop : (fl : Flow) (r q k f g : ℕ) (ls : List ℕ) (w : World) (ρ : State) → f ≤ g → StmtPost r f fl ls w ρ → get_or S.code r bad ≡ jump k → r + k ≡ q
      → Sound S (goes fl ls w) (K * w.fuel + 100) w.fuel 0 (StmtPost q g) ρ
  hop next r q k f g ls w ρ h Z here e =
      sound_ran S 1 (omega arith) (ran_step S {τ = goto (ρ.pc + k) ρ} Z.on Z.here here refl (ran_none S {n = 0}))
      (sound_end S (omega arith) (omega arith) (record { on = refl; here = (let y : ρ.pc + k ≡ q = omega (arith, Z.here) in y); cor = Z.cor; less = omega (arith, Z.less) }))
  hop (returned v) r q k f g ls w ρ h Z here e = sound_end S (omega arith) (omega arith) (post_less q f g (returned v) ls w ρ h Z)

  choose_else : (m : Act ℕ) (na nb : Act Flow) (y za zb p r u q k j : ℕ) → k ≡ suc (u - r) → r ≤ u → u + j ≡ q → CondIn L A m y false 0 p r k → StmtIn na za r u
      → get_or S.code u bad ≡ jump j → StmtIn nb zb (suc u) q
      → StmtIn (λ ls w. bind (begin ls w) (λ _ ls w. bind (m ls w) (λ v. branch v na nb))) (suc (y + (za + zb))) p q
  choose_else m na nb y za zb p r u q k j hk hr hj I J hc J2 = record {
    run = λ ls w σ on hp c. sound_begin S ls w _ on c.log_is c.arrays (λ f e.
        sound_bind S {z2 = za + zb} K (omega arith) (omega arith) (omega arith) (I.run ls (spent f w) σ on hp (core_spent L A f c))
        (λ v ls2 w2 τ Q. go v ls ls2 w2 f w.fuel σ τ (omega arith) Q));
  }
    where
      go : (v : ℕ) (ls ls2 : List ℕ) (w2 : World) (f g : ℕ) (σ τ : State) → f ≤ g → CondPost L A false σ 0 r k ls f v ls2 w2 τ
          → Sound S (branch v na nb ls2 w2) (K * w2.fuel + K) w2.fuel (za + zb) (StmtPost q g) τ
      go zero ls ls2 w2 f g σ τ h Q =
          outer (nb ls2 w2) q w2.fuel g τ (omega (arith, Q.less)) (omega arith) (omega arith)
          (J2.run ls2 w2 τ Q.on (Q.here ∙ (let y : r + k ≡ suc u = omega arith in y)) Q.cor)
      go (suc v) ls ls2 w2 f g σ τ h Q =
          sound_then S {z2 = 0} (na ls2 w2) 100 (omega arith) (omega arith) (omega arith) (J.run ls2 w2 τ Q.on Q.here Q.cor)
          (λ fl ls3 w3 ρ Z. hop fl u q j w2.fuel g ls3 w3 ρ (omega (arith, Q.less)) Z hc hj)

  -- Rounds of a loop: its condition stands from p to r, its body from there to u, where the jump back is.
  loop : (m : Act ℕ) (n : Act Flow) (y z p r u q k j : ℕ) → y + z ≤ C → k ≡ suc (u - r) → r ≤ u → p + j ≡ u → q ≡ suc u → CondIn L A m y false 0 p r k → StmtIn n z r u
      → get_or S.code u bad ≡ jump_back j
      → (g : ℕ) (ls : List ℕ) (w : World) (σ : State) → w.fuel ≤ g → σ.status ≡ Going → σ.pc ≡ p → Cor L A ls w σ
      → Sound S (rounds g m n ls w) (K * w.fuel + 8) w.fuel (y + z) (StmtPost q w.fuel) σ
  unfolding rounds
  loop m n y z p r u q k j hs hk hr hj hq I J hc zero ls w σ hg on hp c = sound_stop S (omega arith) (omega arith) (on, c.log_is, c.arrays, (let e : w.fuel ≡ 0 = omega arith in e))
  loop m n y z p r u q k j hs hk hr hj hq I J hc (suc g) ls w σ hg on hp c =
      sound_bind' S {z2 = z} 12 (omega arith) (λ _ _ _ _ Q. omega (arith, Q.less)) (omega arith) (omega arith) (I.run ls w σ on hp c)
      (λ v ls2 w2 τ Q. go v ls ls2 w w2 σ τ hg Q
      (λ ls3 w3 ρ h2 on2 hp2 c3. loop m n y z p r u q k j hs hk hr hj hq I J hc g ls3 w3 ρ h2 on2 hp2 c3))
    where
      go : (v : ℕ) (ls ls2 : List ℕ) (w w2 : World) (σ τ : State) → w.fuel ≤ suc g → CondPost L A false σ 0 r k ls w.fuel v ls2 w2 τ
          → ((ls3 : List ℕ) (w3 : World) (ρ : State) → w3.fuel ≤ g → ρ.status ≡ Going → ρ.pc ≡ p → Cor L A ls3 w3 ρ
          → Sound S (rounds g m n ls3 w3) (K * w3.fuel + 8) w3.fuel (y + z) (StmtPost q w3.fuel) ρ)
          → Sound S (branch v (λ ls w. bind (n ls w) (λ f. followed f (rounds g m n))) (gives next) ls2 w2) (K * w2.fuel + 12) w2.fuel z (StmtPost q w.fuel) τ
      go zero ls ls2 w w2 σ τ hg Q again =
          sound_end S (omega arith) (omega arith) (record { on = Q.on; here = Q.here ∙ (let y : r + k ≡ q = omega arith in y); cor = Q.cor; less = omega (arith, Q.less) })
      go (suc v) ls ls2 w w2 σ τ hg Q again =
          sound_bind S {z2 = 0} 12 (omega arith) (omega arith) (omega arith) (J.run ls2 w2 τ Q.on Q.here Q.cor)
          (λ fl ls3 w3 ρ Z. follow fl (rounds g m n) u q w2.fuel w.fuel ls3 w3 ρ (omega arith) (omega arith) (omega (arith, Q.less)) Z
          (λ Z. sound_step S {z2 = y + z} {τ = goto p ρ} Z.on Z.here hc (ap (λ (a : ℕ). goto a ρ) (let e : ρ.pc - j ≡ p = omega (arith, Z.here) in e)) (omega arith) (omega arith)
          (outer (rounds g m n ls3 w3) q w3.fuel w.fuel (goto p ρ) (omega (arith, Z.less, Q.less)) (omega arith) (omega arith)
          (again ls3 w3 (goto p ρ) (omega (arith, Z.less, Q.less)) refl refl Z.cor))))

  while_in : (m : Act ℕ) (n : Act Flow) (y z p r u q k j : ℕ) → y + z ≤ C → k ≡ suc (u - r) → r ≤ u → p + j ≡ u → q ≡ suc u → CondIn L A m y false 0 p r k → StmtIn n z r u
      → get_or S.code u bad ≡ jump_back j → StmtIn (λ ls w. bind (begin ls w) (λ _ ls w. rounds w.fuel m n ls w)) (suc (y + z)) p q
  while_in m n y z p r u q k j hs hk hr hj hq I J hc = record {
    run = λ ls w σ on hp c. sound_begin S ls w _ on c.log_is c.arrays (λ f e.
        outer (rounds f m n ls (spent f w)) q f w.fuel σ (omega arith) (omega arith) (omega arith)
        (loop m n y z p r u q k j hs hk hr hj hq I J hc f ls (spent f w) σ (omega arith) on hp (core_spent L A f c)));
  }

  -- The function returns.

  pub leaves : (v p q f : ℕ) (ls : List ℕ) (w : World) (σ : State) → At S.code p leaving q → σ.status ≡ Going → σ.pc ≡ p → Cor L A ls w σ → σ.registers Argument 0 ≡ v → w.fuel ≤ f
      → (τ : State) × Ran S 2 σ τ × Back S.elements B A.R A.m₀ f v w τ
  leaves v p q f ls w σ hc on hp c hv hf =
      let τ : State = puts ra (σ.memory (B + 0)) σ in (
        goto A.R τ,
        ran_step S {τ = τ} on hp hc.0 (lw_step S.room ra 0 σ (framed L A) (omega arith) refl c.sp_is)
            (ran_step S {τ = goto A.R τ} refl (ap suc hp) hc.1.0 (ret_is S.room A.R τ c.ra_is) (ran_none S {n = 0})),
        record {
          on = refl;
          here = refl;
          sp_is = c.sp_is;
          limit_is = c.limit_is;
          request_is = c.request_is;
          is = hv;
          log_is = c.log_is;
          arrays = c.arrays;
          below = c.below;
          less = hf;
        },
      )

  -- the register of results is written, nothing else that matters
  pub core_answer : {q : ℕ} {ls : List ℕ} {w : World} {σ τ : State} → Cor L A ls w σ → Only Argument 0 q σ τ → Cor L A ls w τ
  core_answer c o = record {
    sp_is = o.other Fixed 1 refl ∙ c.sp_is;
    limit_is = o.other Fixed 2 refl ∙ c.limit_is;
    request_is = o.other Argument 7 refl ∙ c.request_is;
    log_is = o.log ∙ c.log_is;
    arrays = arrays_same L A (λ a h. o.memory a) c.arrays;
    many = c.many;
    locals = λ y h. o.memory _ ∙ c.locals y h;
    ra_is = o.memory _ ∙ c.ra_is;
    below = λ a h k. o.memory a ∙ c.below a h k;
  }

  leave_in : (p q : ℕ) → At S.code p (opi Add answer x0 0 ∷ leaving) q → StmtIn (λ ls w. bind (begin ls w) (λ _. gives (returned 0))) 1 p q
  leave_in p q hc = record {
    run = λ ls w σ on hp c. sound_begin S ls w _ on c.log_is c.arrays (λ f e.
        let τ : State = puts answer 0 σ in
        let h = leaves 0 (suc p) q w.fuel ls (spent f w) τ hc.1 refl (ap suc hp) (core_spent L A f (core_answer c (only_puts Argument 0 0 (suc σ.pc) σ refl))) refl (omega arith) in
        sound_ran S 3 (omega arith) (ran_step S {τ = τ} on hp hc.0 (ap (λ (n : ℕ). puts answer n σ) zero_is) h.1)
        (sound_end S (omega arith) (omega arith) h.2));
  }

  -- a value is in the register of results
  pub record AnswerPost (q f v : ℕ) (ls : List ℕ) (w : World) (τ : State) : Type 0 where
    pub on : τ.status ≡ Going
    pub here : τ.pc ≡ q
    pub cor : Cor L A ls w τ
    pub is : τ.registers Argument 0 ≡ v
    pub less : w.fuel < f

  pub record AnswerIn (m : Act ℕ) (z p q : ℕ) : Type 0 where
    pub run : (ls : List ℕ) (w : World) (σ : State) → σ.status ≡ Going → σ.pc ≡ p → Cor L A ls w σ
        → Sound S (m ls w) (K * w.fuel - answer_spare) w.fuel z (AnswerPost q w.fuel) σ

  brought_in : (m : Act ℕ) (z p r q : ℕ) (pl : Place) → Fit L A pl 0 → ExprIn L A m z 0 p r pl → At S.code r (bring pl) q → AnswerIn m z p q
  brought_in m z p r q pl hf I hb = record {
    run = λ ls w σ on hp c.
        sound_then' S {z2 = 0} (m ls w) 2 (omega arith) (λ _ _ _ _ Q. omega (arith, Q.less)) (omega arith) (omega arith) (I.run ls w σ on hp c)
        (λ v ls2 w2 τ Q.
        let h = bring_ok S pl r q τ (framed L A) (there L A pl 0 hf) Q.cor.sp_is hb Q.on Q.here in
        sound_ran S 2 (omega arith) h.1
        (sound_end S (omega arith) (omega arith) (record { on = h.2.on; here = h.2.here; cor = core_answer Q.cor h.2; is = h.3 ∙ Q.is; less = Q.less })));
  }

  -- a call's result is there already
  answered_call : (m : Act (List ℕ)) (f z p r q : ℕ) (ps : List Place) → f < length L.functions → length ps ≡ (get_or L.functions f nothing).parameters → length ps ≤ most_parameters
      → ArgsIn L A m z 0 p r ps → At S.code r (calling (L.entry f) ps 0) q
      → AnswerIn (λ ls w. bind (begin ls w) (λ _ ls w. bind (m ls w) (λ vs. call_at S.room L.functions A.left f vs))) (suc z) p q
  answered_call m f z p r q ps hf har few I hc = record {
    run = λ ls w σ on hp c. sound_begin S ls w _ on c.log_is c.arrays (λ g e.
        sound_bind S {z2 = 0} call_share (omega arith) (omega arith) (omega arith) (I.run ls (spent g w) σ on hp (core_spent L A g c))
        (λ vs ls2 w2 τ Q. sound_then S {z2 = 0} (call_at S.room L.functions A.left f vs ls2 w2) 0 (omega arith) (omega arith) (omega arith)
        (calls L A f vs ps 0 r q ls2 w2 τ (omega arith) Q.on Q.here Q.cor Q.held hf har few hc)
        (λ v ls3 w3 ρ Z. sound_end S (omega arith) (omega arith) (record { on = Z.on; here = Z.here; cor = Z.cor; is = Z.is; less = omega (arith, Z.less, Q.less) }))));
  }

  give_in : (m : Act ℕ) (z p s q : ℕ) → AnswerIn m z p s → At S.code s leaving q
      → StmtIn (λ ls w. bind (begin ls w) (λ _ ls w. bind (m ls w) (λ v. gives (returned v)))) (suc z) p q
  give_in m z p s q I hc = record {
    run = λ ls w σ on hp c. sound_begin S ls w _ on c.log_is c.arrays (λ f e.
        sound_bind S {z2 = 0} K (omega arith) (omega arith) (omega arith) (I.run ls (spent f w) σ on hp (core_spent L A f c))
        (λ v ls2 w2 τ Q.
        let g = leaves v s q w.fuel ls2 w2 τ hc Q.on Q.here Q.cor Q.is (omega (arith, Q.less)) in
        sound_ran S 2 (omega arith) g.1 (sound_end S (omega arith) (omega arith) g.2)));
  }

  -- a value is logged
  emits : (v p q f : ℕ) (ls : List ℕ) (w : World) (σ : State) → At S.code p (ecall ∷ []) q → σ.status ≡ Going → σ.pc ≡ p → Cor L A ls w σ → σ.registers Argument 0 ≡ v → w.fuel ≤ f
      → Sound S (bind (append S.room v ls w) (λ _. gives next)) (K * w.fuel + 100) w.fuel 0 (StmtPost q f) σ
  unfolding append bind
  emits v p q f ls w σ hc on hp c hv hf = go (ltb (length w.log) S.room) refl
    where
      does : (b : Bool) → ltb (length w.log) S.room ≡ b → ecall_of S.room σ ≡ pick b (logs v σ) (quit (Trap 4) σ)
      does b e = emit_is S.room σ c.request_is ∙ ap (λ (n : ℕ). pick (ltb (length σ.log) S.room) (logs n σ) (quit (Trap 4) σ)) hv
          ∙ ap (λ (t : Bool). pick t (logs v σ) (quit (Trap 4) σ)) (ap (λ (l : List ℕ). ltb (length l) S.room) c.log_is ∙ e)

      go : (b : Bool) → ltb (length w.log) S.room ≡ b
          → Sound S (bind (pick b (logged v ls w) (stops (trapped 4) w)) (λ _. gives next))
          (K * w.fuel + 100) w.fuel 0 (StmtPost q f) σ
      go true e =
          sound_ran S 1 (omega arith) (ran_step S {τ = logs v σ} on hp hc.0 (does true e) (ran_none S))
          (sound_end S (omega arith) (omega arith) (record {
            on = refl;
            here = ap suc hp ∙ hc.1;
            less = hf;
            cor = record {
              sp_is = c.sp_is;
              limit_is = c.limit_is;
              request_is = c.request_is;
              log_is = ap (λ (l : List ℕ). l ++ (v ∷ [])) c.log_is;
              arrays = c.arrays;
              many = c.many;
              locals = c.locals;
              ra_is = c.ra_is;
              below = c.below;
            };
          }))
      go false e =
          sound_ran S 1 (omega arith) (ran_step S {τ = quit (Trap 4) σ} on hp hc.0 (does false e) (ran_none S))
          (sound_stop S (omega arith) (omega arith) (refl, c.log_is, c.arrays))

  emit_in : (m : Act ℕ) (z p s q : ℕ) → AnswerIn m z p s → At S.code s (ecall ∷ []) q
      → StmtIn (λ ls w. bind (begin ls w) (λ _ ls w. bind (m ls w) (λ v ls w. bind (append S.room v ls w) (λ _. gives next)))) (suc z) p q
  emit_in m z p s q I hc = record {
    run = λ ls w σ on hp c. sound_begin S ls w _ on c.log_is c.arrays (λ f e.
        sound_bind S {z2 = 0} K (omega arith) (omega arith) (omega arith) (I.run ls (spent f w) σ on hp (core_spent L A f c))
        (λ v ls2 w2 τ Q. sound_rates S (bind (append S.room v ls2 w2) (λ _. gives next)) (omega arith) (omega arith)
        (emits v s q w.fuel ls2 w2 τ hc Q.on Q.here Q.cor Q.is (omega (arith, Q.less)))));
  }

  -- a call whose result is dropped
  run_in : (m : Act (List ℕ)) (f z p r q : ℕ) (ps : List Place) → f < length L.functions → length ps ≡ (get_or L.functions f nothing).parameters → length ps ≤ most_parameters
      → ArgsIn L A m z 0 p r ps → At S.code r (calling (L.entry f) ps 0) q
      → StmtIn (λ ls w. bind (begin ls w) (λ _ ls w. bind (m ls w) (λ vs ls w. bind (call_at S.room L.functions A.left f vs ls w) (λ _. gives next)))) (suc z) p q
  run_in m f z p r q ps hf har few I hc = record {
    run = λ ls w σ on hp c. sound_begin S ls w _ on c.log_is c.arrays (λ g e.
        sound_bind S {z2 = 0} K (omega arith) (omega arith) (omega arith) (I.run ls (spent g w) σ on hp (core_spent L A g c))
        (λ vs ls2 w2 τ Q. sound_bind S {z2 = 0} 0 (omega arith) (omega arith) (omega arith)
        (calls L A f vs ps 0 r q ls2 w2 τ (omega arith) Q.on Q.here Q.cor Q.held hf har few hc)
        (λ v ls3 w3 ρ Z. sound_end S (omega arith) (omega arith) (record { on = Z.on; here = Z.here; cor = Z.cor; less = omega (arith, Z.less, Q.less) }))));
  }

  -- The induction.

  abbrev pub ex : Stmt → Act Flow
  ex s = exec S.room (call_at S.room L.functions A.left) s

  abbrev pub exs : Block → Act Flow
  exs b = block_of S.room (call_at S.room L.functions A.left) b

  module _ (small : (f : ℕ) → f < length L.functions → (get_or L.functions f nothing).parameters ≤ most_parameters) where
    brings : (e : Expr) (p q : ℕ) → Fits L.functions S.elements A.N e most_temporaries → At S.code p (brought L.entry A.near e) q → AnswerIn (ev L A e) (nodes e) p q
    brings e p q w hc =
        let t = at_split S.code p (code L.entry A.near e 0) (bring (place_of e 0)) q hc in
        brought_in (ev L A e) (nodes e) p t.0 q (place_of e 0) (fit_of L A e 0 most_temporaries w (omega arith)) (expr L A small e 0 most_temporaries p t.0 w (omega arith) t.1) t.2

    answers : (e : Expr) (p q : ℕ) → Fits L.functions S.elements A.N e most_temporaries → At S.code p (answering L.entry A.near e) q → AnswerIn (ev L A e) (nodes e) p q
    unfolding answering Fits eval nodes
    answers (C.call f xs) p q w hc =
        let t = at_split S.code p (codes L.entry A.near xs 0) (calling (L.entry f) (places_of xs 0) 0) q hc in
        answered_call (evs L A xs) f (nodes_of xs) p t.0 q (places_of xs 0) w.1.known (places_count L A xs 0 ∙ w.1.arity)
        (let k = places_count L A xs 0 ∙ w.1.arity in let s = small f w.1.known in omega (arith, k, s)) (args L A small xs 0 most_temporaries p t.0 w.2 (omega arith) t.1) t.2
    answers (C.number n) p q w hc = brings (C.number n) p q w hc
    answers (C.local x) p q w hc = brings (C.local x) p q w hc
    answers (C.element a i) p q w hc = brings (C.element a i) p q w hc
    answers (C.unary o e) p q w hc = brings (C.unary o e) p q w hc
    answers (C.strict o a b) p q w hc = brings (C.strict o a b) p q w hc
    answers (C.and a b) p q w hc = brings (C.and a b) p q w hc
    answers (C.or a b) p q w hc = brings (C.or a b) p q w hc

    -- an `if`, with its blocks' code proved
    if_in : (e : Expr) (a b : Block) (p q : ℕ) → Tests L.functions S.elements A.N e most_temporaries
        → At S.code p (condition L.entry A.near e false 0 (length (block L.entry A.near a) + over b)
        ++ (block L.entry A.near a ++ otherwise b (block L.entry A.near b))) q
        → ((r u : ℕ) → At S.code r (block L.entry A.near a) u → StmtIn (exs a) (size_of a) r u)
        → ((r u : ℕ) → At S.code r (block L.entry A.near b) u → StmtIn (exs b) (size_of b) r u)
        → StmtIn (λ ls w. bind (begin ls w) (λ _ ls w. bind (ev L A e ls w) (λ v. branch v (exs a) (exs b)))) (suc (nodes e + (size_of a + size_of b))) p q
    unfolding size_of block_of block
    if_in e a C.end p q w hc I J =
        let ca = block L.entry A.near a in
        let t = at_split S.code p (condition L.entry A.near e false 0 (length ca + 0)) (ca ++ []) q hc in
        let u = at_split S.code t.0 ca [] q t.2 in
        let len = at_len S.code t.0 ca u.0 u.1 in
        choose_end (ev L A e) (exs a) (nodes e) (size_of a) p t.0 q (length ca + 0) (omega (arith, len, u.2)) (omega (arith, len, u.2))
        (cond L A small e false 0 most_temporaries p t.0 (length ca + 0) w (omega arith) t.1) (I t.0 q (subst (λ (n : ℕ). At S.code t.0 ca n) u.2 u.1))
    if_in e a (C.then s b) p q w hc I J =
        let ca = block L.entry A.near a in
        let cb = block L.entry A.near (C.then s b) in
        let t = at_split S.code p (condition L.entry A.near e false 0 (length ca + 1)) (ca ++ (jump (suc (length cb)) ∷ cb)) q hc in
        let u = at_split S.code t.0 ca (jump (suc (length cb)) ∷ cb) q t.2 in
        let la = at_len S.code t.0 ca u.0 u.1 in
        let lb = at_len S.code (suc u.0) cb q u.2.1 in
        choose_else (ev L A e) (exs a) (exs (C.then s b)) (nodes e) (size_of a) (size_of (C.then s b)) p t.0 u.0 q (length ca + 1) (suc (length cb))
        (omega (arith, la)) (omega (arith, la)) (omega (arith, lb))
        (cond L A small e false 0 most_temporaries p t.0 (length ca + 1) w (omega arith) t.1) (I t.0 u.0 u.1) u.2.0 (J (suc u.0) q u.2.1)

    mutual
      unfolding exec block_of statement block size size_of Runs RunsAll

      pub stmt : (s : Stmt) (p q : ℕ) → Runs L.functions S.elements A.N s → size s ≤ C → At S.code p (statement L.entry A.near s) q → StmtIn (ex s) (size s) p q
      stmt (C.put x e) p q w h hc =
          let t = at_split S.code p (code L.entry A.near e 0) (fetch (place_of e 0) 0 ++ (sw (source (place_of e 0) 0) sp (4 * local_word x) ∷ [])) q hc in
          put_in (ev L A e) x (nodes e) p t.0 q (place_of e 0) (fit_of L A e 0 most_temporaries w.1 (omega arith)) w.0 (expr L A small e 0 most_temporaries p t.0 w.1 (omega arith) t.1) t.2
      stmt (C.store a i e) p q w h hc =
          let d = above (place_of i 0) 0 in
          let t = at_split S.code p (code L.entry A.near i 0) (code L.entry A.near e d ++ writing a (place_of i 0) (place_of e d)) q hc in
          let u = at_split S.code t.0 (code L.entry A.near e d) (writing a (place_of i 0) (place_of e d)) q t.2 in
          let k = left_of L A i 0 most_temporaries w.1 (omega arith) in
          store_in (ev L A i) (ev L A e) a (nodes i) (nodes e) p t.0 u.0 q (place_of i 0) (place_of e d) (fit_of L A i 0 most_temporaries w.1 (omega arith)) (fit_of L A e d (most_temporaries - 1) w.2 k) w.0
          (expr L A small i 0 most_temporaries p t.0 w.1 (omega arith) t.1) (expr L A small e d (most_temporaries - 1) t.0 u.0 w.2 k u.1) u.2
      stmt (C.choose e a b) p q w h hc =
          if_in e a b p q w.0 hc (λ r u c. blk a r u w.1 (omega arith) c) (λ r u c. blk b r u w.2 (omega arith) c)
      stmt (C.while e b) p q w h hc =
          let cb = block L.entry A.near b in
          let cc2 = condition L.entry A.near e false 0 (suc (length cb)) in
          let t = at_split S.code p cc2 (cb ++ (jump_back (length cc2 + length cb) ∷ [])) q hc in
          let u = at_split S.code t.0 cb (jump_back (length cc2 + length cb) ∷ []) q t.2 in
          let lc = at_len S.code p cc2 t.0 t.1 in
          let lb = at_len S.code t.0 cb u.0 u.1 in
          while_in (ev L A e) (exs b) (nodes e) (size_of b) p t.0 u.0 q (suc (length cb)) (length cc2 + length cb) (omega arith) (omega (arith, lb)) (omega (arith, lb)) (omega (arith, lb, lc))
          (sym u.2.1) (cond L A small e false 0 most_temporaries p t.0 (suc (length cb)) w.0 (omega arith) t.1) (blk b t.0 u.0 w.1 (omega arith) u.1) u.2.0
      stmt C.leave p q w h hc = leave_in p q hc
      stmt (C.give e) p q w h hc =
          let t = at_split S.code p (answering L.entry A.near e) leaving q hc in
          give_in (ev L A e) (nodes e) p t.0 q (answers e p t.0 w t.1) t.2
      stmt (C.emit e) p q w h hc =
          let t = at_split S.code p (answering L.entry A.near e) (ecall ∷ []) q hc in
          emit_in (ev L A e) (nodes e) p t.0 q (answers e p t.0 w t.1) t.2
      stmt (C.run f xs) p q w h hc =
          let t = at_split S.code p (codes L.entry A.near xs 0) (calling (L.entry f) (places_of xs 0) 0) q hc in
          run_in (evs L A xs) f (nodes_of xs) p t.0 q (places_of xs 0) w.0.known (places_count L A xs 0 ∙ w.0.arity)
          (let k = places_count L A xs 0 ∙ w.0.arity in let s = small f w.0.known in omega (arith, k, s)) (args L A small xs 0 most_temporaries p t.0 w.1 (omega arith) t.1) t.2

      pub blk : (b : Block) (p q : ℕ) → RunsAll L.functions S.elements A.N b → size_of b ≤ C → At S.code p (block L.entry A.near b) q → StmtIn (exs b) (size_of b) p q
      blk C.end p q w h hc = subst (λ (n : ℕ). StmtIn (exs C.end) 0 p n) hc (end_in p)
      blk (C.then s b) p q w h hc =
          let t = at_split S.code p (statement L.entry A.near s) (block L.entry A.near b) q hc in
          then_in (ex s) (exs b) (size s) (size_of b) p t.0 q (stmt s p t.0 w.0 (omega arith) t.1) (blk b t.0 q w.1 (omega arith) t.2)
