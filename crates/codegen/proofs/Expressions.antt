-- Expressions: what an expression does in the source, its code does, as a value and as a condition. One case of the language is one lemma.
use mathlib.Core.Path.{◌≡◌, refl, sym, ap, ◌∙◌, subst}
use mathlib.Core.Bool.{Bool, true, false}
use mathlib.Core.Bool as B2
use mathlib.Core.List.{List, [], ◌∷◌, ◌++◌}
use mathlib.Core.Option.{Option, none, some}
use Prim.Native.Nat.{ℕ, zero, suc, ◌+◌, ◌-◌, ◌*◌, ◌≤◌, ◌<◌}
use native.Mathlib.Omega.{arith}
use lib.ListN.{length, get_or}
use Rattle.word.specs.Choice.{pick}
use Rattle.word.specs.Word.{bit_of}
use Rattle.processor.specs.declared.Status.TheVariants.{Going}
use Rattle.processor.specs.declared.Alu.TheVariants.{Add}
use Rattle.processor.specs.declared.Cond.{Cond}
use Rattle.processor.specs.declared.Cond.TheVariants.{Ne}
use Rattle.processor.specs.Execute.{alu_of, cond_of}
use Rattle.language.specs.Tree.{Unary, negate, Strict, eq, ne, lt, le, gt, ge, add, sub, mul, div, rem}
use Rattle.language.specs.Tree as T
use Rattle.language.specs.Core.{Array, Expr, Args}
use Rattle.language.specs.Core as C
use Rattle.language.specs.Meaning.{World, Result, goes, Act, bind, begin, value as gives, branch, apply, operate, read, fetch as fetch_local, call_at, eval, evals}
use Rattle.symbolic.specs.Symbolic.{Fixed, x0, answer, opi, mv, jump, bad, State, goto, puts}
use Rattle.codegen.specs.Places.{Place, constant, local, temporary, above, source, fetch, target, keep, settle, move, most_temporaries}
use Rattle.codegen.specs.Operators.{skip, sense, operating, result, applying, relation, comparing, testing, always, reading}
use Rattle.codegen.specs.Expressions.{place_of, places_of, calling, deciding_by, code, codes, condition}
use Rattle.language.specs.Rules.{most_parameters}
use Rattle.codegen.specs.Owed.{nodes, nodes_of, count, nothing, Fits, FitsAll, Tests}
use Rattle.codegen.proofs.Placement.{At, at_split, at_len}
use Rattle.codegen.specs.Costs.{K}
use Rattle.codegen.proofs.Budgets.{value_spare, answer_spare, own_steps, side_steps, call_share}
use Rattle.codegen.proofs.Logic.{Setting, spent, Post, Sound, sound_rates, sound_bind, sound_bind', sound_then, sound_then', sound_post, sound_begin, sound_end, sound_ran, Ran, ran_none, ran_step, ran_trans}
use Rattle.codegen.proofs.Frame.{Same, only_same, same_join, value_at, There, value_same}
use Rattle.codegen.proofs.Macros.{fetch_ok, put_ok, skip_ok}
use Rattle.codegen.proofs.Elements.{same_goto}
use Rattle.codegen.proofs.Activation.{Linked, Activation, framed, Cor, core_spent, ExprPost, Fit, there, stable, above_le, still, finish, aim, CondPost}
use Rattle.codegen.proofs.Operators.{one_is, zero_is, apply_lt, aim_test, aim_not, Ready, operates, applies, reads, tests, compares}
use Rattle.codegen.proofs.Calls.{Held, calls}

-- the operators that are comparisons
abbrev Law : Option (Cond × Bool) → Strict → Type 0
Law none o = Unit {0}
Law (some (c, t)) o = (x y : ℕ) (ls : List ℕ) (w : World) → operate o x y ls w ≡ goes (bit_of (cond_of c (pick t y x) (pick t x y))) ls w

relation_is : (o : Strict) → Law (relation o) o
unfolding operate cond_of
relation_is add = tt
relation_is sub = tt
relation_is mul = tt
relation_is div = tt
relation_is rem = tt
relation_is eq = λ x y ls w. refl
relation_is ne = λ x y ls w. refl
relation_is lt = λ x y ls w. refl
relation_is le = λ x y ls w. refl
relation_is gt = λ x y ls w. refl
relation_is ge = λ x y ls w. refl

module _ (L : Linked) (A : Activation L) where
  abbrev S : Setting
  S = L.setting

  abbrev B : ℕ
  B = A.B

  -- an action's code stands from p to q; its value comes to a place; at most z nodes begin
  pub record ExprIn (m : Act ℕ) (z d p q : ℕ) (pl : Place) : Type 0 where
    pub run : (ls : List ℕ) (w : World) (σ : State) → σ.status ≡ Going → σ.pc ≡ p → Cor L A ls w σ
        → Sound S (m ls w) (K * w.fuel - value_spare) w.fuel z (ExprPost L A σ d q pl ls w.fuel) σ

  pub record CondIn (m : Act ℕ) (z : ℕ) (t : Bool) (d p q k : ℕ) : Type 0 where
    pub run : (ls : List ℕ) (w : World) (σ : State) → σ.status ≡ Going → σ.pc ≡ p → Cor L A ls w σ
        → Sound S (m ls w) (K * w.fuel - answer_spare) w.fuel z (CondPost L A t σ d q k ls w.fuel) σ

  -- what an expression's value leaves is ready for more instructions
  ready : {σ τ : State} {d q f g v : ℕ} {pl : Place} {ls₀ ls : List ℕ} {w : World} → f ≤ g → ExprPost L A σ d q pl ls₀ f v ls w τ → Ready L A σ d ls₀ g ls w τ
  ready h Q = record { on = Q.on; cor = Q.cor; keep = Q.keep; locals = Q.locals; less = omega (arith, Q.less) }

  number_in : (n d p : ℕ) → ExprIn (λ ls w. bind (begin ls w) (λ _. gives n)) 1 d p p (constant n)
  number_in n d p = record {
    run = λ ls w σ on hp c. sound_begin S ls w _ on c.log_is c.arrays (λ f e.
        sound_end S (omega arith) (omega arith) (record { on = on; here = hp; cor = core_spent L A f c; is = refl; keep = λ j h. refl; locals = refl; less = omega arith }));
  }

  local_in : (x d p : ℕ) → x < A.N → ExprIn (λ ls w. bind (begin ls w) (λ _. fetch_local x)) 1 d p p (local x)
  unfolding fetch_local
  local_in x d p h = record {
    run = λ ls w σ on hp c. sound_begin S ls w _ on c.log_is c.arrays (λ f e.
        sound_end S (omega arith) (omega arith) (record { on = on; here = hp; cor = core_spent L A f c; is = c.locals x h; keep = λ j h. refl; locals = refl; less = omega arith }));
  }

  element_in : (m : Act ℕ) (a : Array) (z d p r q : ℕ) (pl : Place) → Fit L A pl d → d < most_temporaries → a.offset + a.size ≤ S.elements
      → ExprIn m z d p r pl → At S.code r (reading a pl d) q
      → ExprIn (λ ls w. bind (begin ls w) (λ _ ls w. bind (m ls w) (λ k. read a k))) (suc z) d p q (temporary d)
  element_in m a z d p r q pl hf hd ha I hc = record {
    run = λ ls w σ on hp c. sound_begin S ls w _ on c.log_is c.arrays (λ f e.
        sound_bind S {z2 = 0} own_steps (omega arith) (omega arith) (omega arith) (I.run ls (spent f w) σ on hp (core_spent L A f c))
        (λ k ls2 w2 τ Q. sound_rates S (read a k ls2 w2) (omega arith) (omega arith)
        (reads L A a k d r q w.fuel pl ls ls2 w2 σ τ hd (there L A pl d hf) ha (ready (omega arith) Q) Q.here Q.is hc)));
  }

  unary_in : (m : Act ℕ) (o : Unary) (z d p r q : ℕ) (pl : Place) → Fit L A pl d → d < most_temporaries
      → ExprIn m z d p r pl → At S.code r (applying o pl d) q
      → ExprIn (λ ls w. bind (begin ls w) (λ _ ls w. bind (m ls w) (λ x. gives (apply o x)))) (suc z) d p q (result o pl d)
  unary_in m o z d p r q pl hf hd I hc = record {
    run = λ ls w σ on hp c. sound_begin S ls w _ on c.log_is c.arrays (λ f e.
        sound_bind S {z2 = 0} own_steps (omega arith) (omega arith) (omega arith) (I.run ls (spent f w) σ on hp (core_spent L A f c))
        (λ k ls2 w2 τ Q. sound_rates S (goes (apply o k) ls2 w2) (omega arith) (omega arith)
        (applies L A o k d r q w.fuel pl ls ls2 w2 σ τ hd (there L A pl d hf) (ready (omega arith) Q) Q.here Q.is hc)));
  }

  -- both sides, and then something that needs both at their places
  sides_in : (ma mb : Act ℕ) (g : ℕ → ℕ → Act ℕ) (R : State → List ℕ → ℕ → Post ℕ) (za zb d p r u : ℕ) (pa pb : Place) → Fit L A pa d → Fit L A pb (above pa d)
      → ExprIn ma za d p r pa → ExprIn mb zb (above pa d) r u pb
      → ((x y f : ℕ) (ls₀ ls : List ℕ) (w : World) (σ ρ : State) → Ready L A σ d ls₀ f ls w ρ → ρ.pc ≡ u → value_at pa B ρ ≡ x → value_at pb B ρ ≡ y
      → Sound S (g x y ls w) (K * w.fuel + own_steps) w.fuel 0 (R σ ls₀ f) ρ)
      → (ls : List ℕ) (w : World) (σ : State) → σ.status ≡ Going → σ.pc ≡ p → Cor L A ls w σ
      → Sound S (bind (begin ls w) (λ _ ls w. bind (ma ls w) (λ x ls w. bind (mb ls w) (λ y. g x y)))) (K * w.fuel - value_spare) w.fuel (suc (za + zb)) (R σ ls w.fuel) σ
  sides_in ma mb g R za zb d p r u pa pb fa fb I J last ls w σ on hp c = sound_begin S ls w _ on c.log_is c.arrays (λ f e.
      sound_bind S {z2 = zb} own_steps (omega arith) (omega arith) (omega arith) (I.run ls (spent f w) σ on hp (core_spent L A f c))
      (λ x ls2 w2 τ Q. sound_bind S {z2 = 0} own_steps (omega arith) (omega arith) (omega arith) (J.run ls2 w2 τ Q.on Q.here Q.cor)
      (λ y ls3 w3 ρ Z. last x y w.fuel ls ls3 w3 σ ρ (record {
        on = Z.on;
        cor = Z.cor;
        keep = λ j h. Z.keep j (let k : d ≤ above pa d = above_le L A pa d in omega (arith, k)) ∙ Q.keep j h;
        locals = Z.locals ∙ Q.locals;
        less = omega (arith, Q.less, Z.less);
      })
      Z.here (still L A pa d x ls2 ls3 w2 w3 τ ρ fa Q.is Q.cor Z.cor Z.locals Z.keep) Z.is)))

  strict_in : (ma mb : Act ℕ) (o : Strict) (za zb d p r u q : ℕ) (pa pb : Place) → Fit L A pa d → Fit L A pb (above pa d) → d < most_temporaries
      → ExprIn ma za d p r pa → ExprIn mb zb (above pa d) r u pb → At S.code u (operating o pa pb d) q
      → ExprIn (λ ls w. bind (begin ls w) (λ _ ls w. bind (ma ls w) (λ x ls w. bind (mb ls w) (λ y. operate o x y)))) (suc (za + zb)) d p q (temporary d)
  strict_in ma mb o za zb d p r u q pa pb fa fb hd I J hc = record {
    run =
        sides_in ma mb (operate o) (λ σ ls₀ f. ExprPost L A σ d q (temporary d) ls₀ f) za zb d p r u pa pb fa fb I J
        (λ x y f ls₀ ls w σ ρ Y hp hx hy. operates L A o x y d (suc (above pa d)) u q f pa pb ls₀ ls w σ ρ hd (there L A pa d fa) (there L A pb (above pa d) fb)
        (let k : d ≤ above pa d = above_le L A pa d in omega (arith, k)) (stable L A pb (above pa d) (suc (above pa d)) fb (omega arith)) Y hp hx hy hc);
  }

  compare_in : (ma mb : Act ℕ) (o : Strict) (c : Cond) (turned t : Bool) (za zb d p r u q k : ℕ) (pa pb : Place) → Law (some (c, turned)) o
      → Fit L A pa d → Fit L A pb (above pa d)
      → ExprIn ma za d p r pa → ExprIn mb zb (above pa d) r u pb → At S.code u (comparing A.near t c turned pa pb k) q
      → CondIn (λ ls w. bind (begin ls w) (λ _ ls w. bind (ma ls w) (λ x ls w. bind (mb ls w) (λ y. operate o x y)))) (suc (za + zb)) t d p q k
  compare_in ma mb o c turned t za zb d p r u q k pa pb e fa fb I J hc = record {
    run = λ ls w σ on hp cr.
        sound_rates S _ (omega arith) (omega arith)
        (sides_in ma mb (operate o) (λ σ ls₀ f. CondPost L A t σ d q k ls₀ f) za zb d p r u pa pb fa fb I J
        (λ x y f ls₀ ls w σ ρ Y hp hx hy. subst (λ (v : Result ℕ). Sound S v (K * w.fuel + own_steps) w.fuel 0 (CondPost L A t σ d q k ls₀ f) ρ) (sym (e x y ls w))
        (compares L A c turned t A.near x y d (suc (above pa d)) u q k f pa pb ls₀ ls w σ ρ (there L A pa d fa) (there L A pb (above pa d) fb)
        (let k : d ≤ above pa d = above_le L A pa d in omega (arith, k)) (stable L A pb (above pa d) (suc (above pa d)) fb (omega arith)) Y hp hx hy hc)) ls w σ on hp cr);
  }

  -- a value that is tested
  test_in : (m : Act ℕ) (t : Bool) (z d p r q k : ℕ) (pl : Place) → Fit L A pl d → ExprIn m z d p r pl → At S.code r (testing A.near t pl k) q → CondIn m z t d p q k
  test_in m t z d p r q k pl hf I hc = record {
    run = λ ls w σ on hp c.
        sound_then' S {z2 = 0} (m ls w) 4 (omega arith) (λ _ _ _ _ Q. omega (arith, Q.less)) (omega arith) (omega arith) (I.run ls w σ on hp c)
        (λ v ls2 w2 τ Q. tests L A t A.near v d r q k w.fuel pl ls ls2 w2 σ τ (there L A pl d hf) (ready (omega arith) Q) Q.here Q.is hc);
  }

  always_in : (n d p q k : ℕ) (t : Bool) → At S.code p (always t n k) q → CondIn (λ ls w. bind (begin ls w) (λ _. gives n)) 1 t d p q k
  always_in n d p q k t hc = record { run = λ ls w σ on hp c. sound_begin S ls w _ on c.log_is c.arrays (λ f e. go n t hc ls w σ f e on hp c) }
    where
      stay : (n : ℕ) (t : Bool) (ls : List ℕ) (w : World) (σ : State) (f : ℕ) → w.fuel ≡ suc f → σ.status ≡ Going → σ.pc ≡ aim L A t n q k → Cor L A ls w σ
          → Sound S (goes n ls (spent f w)) (K * w.fuel - answer_spare) f 0 (CondPost L A t σ d q k ls w.fuel) σ
      stay n t ls w σ f e on h c =
          sound_end S (omega arith) (omega arith) (record { on = on; here = h; cor = core_spent L A f c; keep = λ j h. refl; locals = refl; less = omega arith })

      jumps : (n : ℕ) (t : Bool) → aim L A t n q k ≡ q + k → get_or S.code p bad ≡ jump (suc k) → suc p ≡ q
          → (ls : List ℕ) (w : World) (σ : State) (f : ℕ) → w.fuel ≡ suc f → σ.status ≡ Going → σ.pc ≡ p → Cor L A ls w σ
          → Sound S (goes n ls (spent f w)) (K * w.fuel - answer_spare) f 0 (CondPost L A t σ d q k ls w.fuel) σ
      jumps n t ha hj hq ls w σ f e on hp c =
          sound_ran S 1 (omega arith) (ran_step S {τ = goto (σ.pc + suc k) σ} on hp hj refl (ran_none S))
          (sound_end S (omega arith) (omega arith) (record {
            on = refl;
            here = (let y : σ.pc + suc k ≡ q + k = omega arith in y) ∙ sym ha;
            cor = core_spent L A f c;
            keep = λ j h. value_same (temporary j) h (same_goto B d _ σ);
            locals = refl;
            less = omega arith;
          }))

      go : (n : ℕ) (t : Bool) → At S.code p (always t n k) q → (ls : List ℕ) (w : World) (σ : State) (f : ℕ) → w.fuel ≡ suc f → σ.status ≡ Going → σ.pc ≡ p → Cor L A ls w σ
          → Sound S (goes n ls (spent f w)) (K * w.fuel - answer_spare) f 0 (CondPost L A t σ d q k ls w.fuel) σ
      go zero true hc ls w σ f e on hp c = stay zero true ls w σ f e on (hp ∙ hc) c
      go (suc n) true hc ls w σ f e on hp c = jumps (suc n) true refl hc.0 hc.1 ls w σ f e on hp c
      go zero false hc ls w σ f e on hp c = jumps zero false refl hc.0 hc.1 ls w σ f e on hp c
      go (suc n) false hc ls w σ f e on hp c = stay (suc n) false ls w σ f e on (hp ∙ hc) c

  -- a strict operator as a condition: a comparison, or its value is tested
  deciding_in : (ma mb : Act ℕ) (o : Strict) (s : Option (Cond × Bool)) (t : Bool) (za zb d p r u q k : ℕ) (pa pb : Place) → Law s o
      → Fit L A pa d → Fit L A pb (above pa d) → d < most_temporaries
      → ExprIn ma za d p r pa → ExprIn mb zb (above pa d) r u pb → At S.code u (deciding_by L.entry A.near s t o pa pb d k) q
      → CondIn (λ ls w. bind (begin ls w) (λ _ ls w. bind (ma ls w) (λ x ls w. bind (mb ls w) (λ y. operate o x y)))) (suc (za + zb)) t d p q k
  deciding_in ma mb o none t za zb d p r u q k pa pb e fa fb hd I J hc =
      let v = at_split S.code u (operating o pa pb d) _ q hc in
      test_in _ t (suc (za + zb)) d p v.0 q k (temporary d) (refl, hd) (strict_in ma mb o za zb d p r u v.0 pa pb fa fb hd I J v.1) v.2
  deciding_in ma mb o (some (c, turned)) t za zb d p r u q k pa pb e fa fb hd I J hc = compare_in ma mb o c turned t za zb d p r u q k pa pb e fa fb I J hc

  not_in : (m : Act ℕ) (t : Bool) (z d p q k : ℕ) → CondIn m z (B2.not t) d p q k
      → CondIn (λ ls w. bind (begin ls w) (λ _ ls w. bind (m ls w) (λ x. gives (apply T.not x)))) (suc z) t d p q k
  not_in m t z d p q k I = record {
    run = λ ls w σ on hp c. sound_begin S ls w _ on c.log_is c.arrays (λ f e.
        sound_bind S {z2 = 0} side_steps (omega arith) (omega arith) (omega arith) (I.run ls (spent f w) σ on hp (core_spent L A f c))
        (λ x ls2 w2 τ Q. sound_end S (omega arith) (omega arith) (record {
          on = Q.on;
          here = Q.here ∙ aim_not L A t x q k;
          cor = Q.cor;
          keep = Q.keep;
          locals = Q.locals;
          less = omega (arith, Q.less);
        })));
  }

  -- the right side is a condition too
  right_cond : (mb : Act ℕ) (t : Bool) (zb d r q k f : ℕ) (ls₀ ls : List ℕ) (w : World) (σ τ : State) → CondIn mb zb t d r q k
      → τ.status ≡ Going → τ.pc ≡ r → Cor L A ls w τ → ((j : ℕ) → j < d → value_at (temporary j) B τ ≡ value_at (temporary j) B σ) → ls ≡ ls₀ → w.fuel < f
      → Sound S (mb ls w) (K * w.fuel + side_steps) w.fuel zb (CondPost L A t σ d q k ls₀ f) τ
  right_cond mb t zb d r q k f ls₀ ls w σ τ J on hp c hk he hl =
      sound_rates S (mb ls w) (omega arith) (omega arith) (sound_post S (mb ls w)
      (λ v ls3 w3 ρ Z. record { on = Z.on; here = Z.here; cor = Z.cor; keep = λ j h. Z.keep j h ∙ hk j h; locals = Z.locals ∙ he; less = omega (arith, Z.less) })
      (J.run ls w τ on hp c))

  -- the left side has decided
  decided : (t : Bool) (v d q k f : ℕ) (ls₀ ls : List ℕ) (w : World) (σ τ : State) {zb : ℕ} → τ.status ≡ Going → τ.pc ≡ aim L A t v q k → Cor L A ls w τ
      → ((j : ℕ) → j < d → value_at (temporary j) B τ ≡ value_at (temporary j) B σ) → ls ≡ ls₀ → w.fuel < f
      → Sound S (goes v ls w) (K * w.fuel + side_steps) w.fuel zb (CondPost L A t σ d q k ls₀ f) τ
  decided t v d q k f ls₀ ls w σ τ on hp c hk he hl =
      sound_end S (omega arith) (omega arith) (record { on = on; here = hp; cor = c; keep = hk; locals = he; less = hl })

  -- `a && b` jumps where it is false: where either is
  and_false : (ma mb : Act ℕ) (za zb d p r q n k : ℕ) → n ≡ q - r + k → r ≤ q → CondIn ma za false d p r n → CondIn mb zb false d r q k
      → CondIn (λ ls w. bind (begin ls w) (λ _ ls w. bind (ma ls w) (λ x. branch x mb (gives 0)))) (suc (za + zb)) false d p q k
  and_false ma mb za zb d p r q n k hn hr I J = record {
    run = λ ls w σ on hp c. sound_begin S ls w _ on c.log_is c.arrays (λ f e.
        sound_bind S {z2 = zb} side_steps (omega arith) (omega arith) (omega arith) (I.run ls (spent f w) σ on hp (core_spent L A f c))
        (λ x ls2 w2 τ Q. go x ls ls2 w2 w.fuel f σ τ (omega arith) Q));
  }
    where
      go : (x : ℕ) (ls ls2 : List ℕ) (w2 : World) (g f : ℕ) (σ τ : State) → f ≤ g → CondPost L A false σ d r n ls f x ls2 w2 τ
          → Sound S (branch x mb (gives 0) ls2 w2) (K * w2.fuel + side_steps) w2.fuel zb (CondPost L A false σ d q k ls g) τ
      go zero ls ls2 w2 g f σ τ hg Q = decided false 0 d q k g ls ls2 w2 σ τ Q.on (Q.here ∙ (let y : r + n ≡ q + k = omega arith in y)) Q.cor Q.keep Q.locals (omega (arith, Q.less))
      go (suc x) ls ls2 w2 g f σ τ hg Q = right_cond mb false zb d r q k g ls ls2 w2 σ τ J Q.on Q.here Q.cor Q.keep Q.locals (omega (arith, Q.less))

  -- it jumps where it is true: where the right side is, and the left side too
  and_true : (ma mb : Act ℕ) (za zb d p r q n k : ℕ) → n ≡ q - r → r ≤ q → CondIn ma za false d p r n → CondIn mb zb true d r q k
      → CondIn (λ ls w. bind (begin ls w) (λ _ ls w. bind (ma ls w) (λ x. branch x mb (gives 0)))) (suc (za + zb)) true d p q k
  and_true ma mb za zb d p r q n k hn hr I J = record {
    run = λ ls w σ on hp c. sound_begin S ls w _ on c.log_is c.arrays (λ f e.
        sound_bind S {z2 = zb} side_steps (omega arith) (omega arith) (omega arith) (I.run ls (spent f w) σ on hp (core_spent L A f c))
        (λ x ls2 w2 τ Q. go x ls ls2 w2 w.fuel f σ τ (omega arith) Q));
  }
    where
      go : (x : ℕ) (ls ls2 : List ℕ) (w2 : World) (g f : ℕ) (σ τ : State) → f ≤ g → CondPost L A false σ d r n ls f x ls2 w2 τ
          → Sound S (branch x mb (gives 0) ls2 w2) (K * w2.fuel + side_steps) w2.fuel zb (CondPost L A true σ d q k ls g) τ
      go zero ls ls2 w2 g f σ τ hg Q = decided true 0 d q k g ls ls2 w2 σ τ Q.on (Q.here ∙ (let y : r + n ≡ q = omega arith in y)) Q.cor Q.keep Q.locals (omega (arith, Q.less))
      go (suc x) ls ls2 w2 g f σ τ hg Q = right_cond mb true zb d r q k g ls ls2 w2 σ τ J Q.on Q.here Q.cor Q.keep Q.locals (omega (arith, Q.less))

  -- `a || b` jumps where it is true: where either is
  or_true : (ma mb : Act ℕ) (za zb d p r q n k : ℕ) → n ≡ q - r + k → r ≤ q → CondIn ma za true d p r n → CondIn mb zb true d r q k
      → CondIn (λ ls w. bind (begin ls w) (λ _ ls w. bind (ma ls w) (λ x. branch x (gives 1) mb))) (suc (za + zb)) true d p q k
  or_true ma mb za zb d p r q n k hn hr I J = record {
    run = λ ls w σ on hp c. sound_begin S ls w _ on c.log_is c.arrays (λ f e.
        sound_bind S {z2 = zb} side_steps (omega arith) (omega arith) (omega arith) (I.run ls (spent f w) σ on hp (core_spent L A f c))
        (λ x ls2 w2 τ Q. go x ls ls2 w2 w.fuel f σ τ (omega arith) Q));
  }
    where
      go : (x : ℕ) (ls ls2 : List ℕ) (w2 : World) (g f : ℕ) (σ τ : State) → f ≤ g → CondPost L A true σ d r n ls f x ls2 w2 τ
          → Sound S (branch x (gives 1) mb ls2 w2) (K * w2.fuel + side_steps) w2.fuel zb (CondPost L A true σ d q k ls g) τ
      go zero ls ls2 w2 g f σ τ hg Q = right_cond mb true zb d r q k g ls ls2 w2 σ τ J Q.on Q.here Q.cor Q.keep Q.locals (omega (arith, Q.less))
      go (suc x) ls ls2 w2 g f σ τ hg Q = decided true 1 d q k g ls ls2 w2 σ τ Q.on (Q.here ∙ (let y : r + n ≡ q + k = omega arith in y)) Q.cor Q.keep Q.locals (omega (arith, Q.less))

  -- it jumps where it is false: where the right side is, and the left side too
  or_false : (ma mb : Act ℕ) (za zb d p r q n k : ℕ) → n ≡ q - r → r ≤ q → CondIn ma za true d p r n → CondIn mb zb false d r q k
      → CondIn (λ ls w. bind (begin ls w) (λ _ ls w. bind (ma ls w) (λ x. branch x (gives 1) mb))) (suc (za + zb)) false d p q k
  or_false ma mb za zb d p r q n k hn hr I J = record {
    run = λ ls w σ on hp c. sound_begin S ls w _ on c.log_is c.arrays (λ f e.
        sound_bind S {z2 = zb} side_steps (omega arith) (omega arith) (omega arith) (I.run ls (spent f w) σ on hp (core_spent L A f c))
        (λ x ls2 w2 τ Q. go x ls ls2 w2 w.fuel f σ τ (omega arith) Q));
  }
    where
      go : (x : ℕ) (ls ls2 : List ℕ) (w2 : World) (g f : ℕ) (σ τ : State) → f ≤ g → CondPost L A true σ d r n ls f x ls2 w2 τ
          → Sound S (branch x (gives 1) mb ls2 w2) (K * w2.fuel + side_steps) w2.fuel zb (CondPost L A false σ d q k ls g) τ
      go zero ls ls2 w2 g f σ τ hg Q = right_cond mb false zb d r q k g ls ls2 w2 σ τ J Q.on Q.here Q.cor Q.keep Q.locals (omega (arith, Q.less))
      go (suc x) ls ls2 w2 g f σ τ hg Q = decided false 1 d q k g ls ls2 w2 σ τ Q.on (Q.here ∙ (let y : r + n ≡ q = omega arith in y)) Q.cor Q.keep Q.locals (omega (arith, Q.less))

  -- a value comes to temporary d
  copies : (pl : Place) (v d p q : ℕ) (ρ : State) → There pl → d < most_temporaries → ρ.registers Fixed 1 ≡ B → ρ.status ≡ Going → ρ.pc ≡ p → value_at pl B ρ ≡ v
      → At S.code p (fetch pl 0 ++ (mv (target d) (source pl 0) ∷ keep d)) q → (τ : State) × Ran S 4 ρ τ × Same B d q ρ τ × (value_at (temporary d) B τ ≡ v)
  copies pl v d p q ρ th hd hs on hp hv hc =
      let t = at_split S.code p (fetch pl 0) (mv (target d) (source pl 0) ∷ keep d) q hc in
      let h = fetch_ok S pl 0 p t.0 ρ (framed L A) th hs t.1 on hp in
      let G : Same B d t.0 ρ h.0 = only_same h.2 in
      let g = put_ok S d v t.0 q (mv (target d) (source pl 0)) h.0 (framed L A) hd (G.fixed 1 ∙ hs) t.2 G.on G.here (ap (λ (n : ℕ). puts (target d) n h.0) (h.3 ∙ hv)) in
      (g.0, ran_trans S h.1 g.1, same_join G g.2, g.3)

  moves : (pl : Place) (v d p q : ℕ) (ρ : State) → Fit L A pl d → d < most_temporaries → ρ.registers Fixed 1 ≡ B → ρ.status ≡ Going → ρ.pc ≡ p → value_at pl B ρ ≡ v
      → At S.code p (move pl d) q → (τ : State) × Ran S 4 ρ τ × Same B d q ρ τ × (value_at (temporary d) B τ ≡ v)
  moves (temporary j) v d p q ρ hf hd hs on hp hv hc = (
    ρ,
    ran_none S,
    record { on = on; here = hp ∙ hc; fixed = λ j. refl; arguments = λ j. refl; temporaries = λ j h. refl; memory = λ a h. refl; log = refl },
    subst (λ (n : ℕ). value_at (temporary n) B ρ ≡ v) hf.0 hv,
  )
  moves (constant n) v d p q ρ hf hd hs on hp hv hc = copies (constant n) v d p q ρ hf hd hs on hp hv hc
  moves (local y) v d p q ρ hf hd hs on hp hv hc = copies (local y) v d p q ρ (there L A (local y) d hf) hd hs on hp hv hc

  -- the left side has decided: 0 or 1 becomes the value
  left_value : (v d p q f : ℕ) (ls₀ ls : List ℕ) (w : World) (σ τ : State) {zb : ℕ} → d < most_temporaries → alu_of Add 0 v ≡ v → At S.code p (settle v d) q
      → τ.status ≡ Going → τ.pc ≡ p → Cor L A ls w τ
      → ((j : ℕ) → j < d → value_at (temporary j) B τ ≡ value_at (temporary j) B σ) → ls ≡ ls₀ → w.fuel < f
      → Sound S (goes v ls w) (K * w.fuel + side_steps) w.fuel zb (ExprPost L A σ d q (temporary d) ls₀ f) τ
  left_value v d p q f ls₀ ls w σ τ hd hv hc on hp c hk he hl =
      let h = put_ok S d v p q (opi Add (target d) x0 v) τ (framed L A) hd c.sp_is hc on hp (ap (λ (n : ℕ). puts (target d) n τ) hv) in
      sound_ran S 2 (omega arith) h.1
      (sound_end S (omega arith) (omega arith) (finish L A c h.2 h.3 hk he hl))

  -- the right side becomes the value, and the other way is jumped over
  right_over : (mb : Act ℕ) (zb d r u v q j f : ℕ) (pl : Place) (ls₀ ls : List ℕ) (w : World) (σ τ : State) → Fit L A pl d → d < most_temporaries → ExprIn mb zb d r u pl
      → At S.code u (move pl d) v → get_or S.code v bad ≡ jump j → v + j ≡ q → τ.status ≡ Going → τ.pc ≡ r → Cor L A ls w τ
      → ((j : ℕ) → j < d → value_at (temporary j) B τ ≡ value_at (temporary j) B σ) → ls ≡ ls₀ → w.fuel < f
      → Sound S (mb ls w) (K * w.fuel + side_steps) w.fuel zb (ExprPost L A σ d q (temporary d) ls₀ f) τ
  right_over mb zb d r u v q j f pl ls₀ ls w σ τ hf hd J hm hj hq on hp c hk he hl =
      sound_then S {z2 = 0} (mb ls w) 5 (omega arith) (omega arith) (omega arith) (J.run ls w τ on hp c)
      (λ x ls3 w3 ρ Z.
      let h = moves pl x d u v ρ hf hd Z.cor.sp_is Z.on Z.here Z.is hm in
      let G : Same B d q h.0 (goto q h.0) = same_goto B d q h.0 in
      sound_ran S 5 (omega arith)
      (ran_trans S h.1 (ran_step S {τ = goto q h.0} h.2.on h.2.here hj
      (ap (λ (a : ℕ). goto a h.0) (let y : h.0.pc + j ≡ q = omega (arith, h.2.here) in y)) (ran_none S {n = 0})))
      (sound_end S (omega arith) (omega arith)
      (finish L A Z.cor (same_join h.2 G) (value_goto d q x h.0 h.3) (λ j k. Z.keep j k ∙ hk j k) (Z.locals ∙ he) (omega (arith, Z.less)))))
    where
      value_goto : (d q x : ℕ) (ρ : State) → value_at (temporary d) B ρ ≡ x → value_at (temporary d) B (goto q ρ) ≡ x
      value_goto d q x ρ e = value_same (temporary d) (let k : d < suc d = omega arith in k) (same_goto B (suc d) q ρ) ∙ e

  and_in : (ma mb : Act ℕ) (za zb d p s u v q n j : ℕ) (pl : Place) → Fit L A pl d → d < most_temporaries → n ≡ suc (v - s) → s ≤ v → v + j ≡ q
      → CondIn ma za false d p s n → ExprIn mb zb d s u pl → At S.code u (move pl d) v → get_or S.code v bad ≡ jump j → At S.code (suc v) (settle 0 d) q
      → ExprIn (λ ls w. bind (begin ls w) (λ _ ls w. bind (ma ls w) (λ x. branch x mb (gives 0)))) (suc (za + zb)) d p q (temporary d)
  and_in ma mb za zb d p s u v q n j pl hf hd hn hs hq I J hm hj hc = record {
    run = λ ls w σ on hp c. sound_begin S ls w _ on c.log_is c.arrays (λ f e.
        sound_bind S {z2 = zb} side_steps (omega arith) (omega arith) (omega arith) (I.run ls (spent f w) σ on hp (core_spent L A f c))
        (λ x ls2 w2 τ Q. go x ls ls2 w2 w.fuel f σ τ (omega arith) Q));
  }
    where
      go : (x : ℕ) (ls ls2 : List ℕ) (w2 : World) (g f : ℕ) (σ τ : State) → f ≤ g → CondPost L A false σ d s n ls f x ls2 w2 τ
          → Sound S (branch x mb (gives 0) ls2 w2) (K * w2.fuel + side_steps) w2.fuel zb (ExprPost L A σ d q (temporary d) ls g) τ
      go zero ls ls2 w2 g f σ τ hg Q =
          left_value 0 d (suc v) q g ls ls2 w2 σ τ hd zero_is hc Q.on (Q.here ∙ (let y : s + n ≡ suc v = omega arith in y)) Q.cor Q.keep Q.locals (omega (arith, Q.less))
      go (suc x) ls ls2 w2 g f σ τ hg Q =
          right_over mb zb d s u v q j g pl ls ls2 w2 σ τ hf hd J hm hj hq Q.on Q.here Q.cor Q.keep Q.locals (omega (arith, Q.less))

  or_in : (ma mb : Act ℕ) (za zb d p s u v q n j : ℕ) (pl : Place) → Fit L A pl d → d < most_temporaries → n ≡ suc (v - s) → s ≤ v → v + j ≡ q
      → CondIn ma za true d p s n → ExprIn mb zb d s u pl → At S.code u (move pl d) v → get_or S.code v bad ≡ jump j → At S.code (suc v) (settle 1 d) q
      → ExprIn (λ ls w. bind (begin ls w) (λ _ ls w. bind (ma ls w) (λ x. branch x (gives 1) mb))) (suc (za + zb)) d p q (temporary d)
  or_in ma mb za zb d p s u v q n j pl hf hd hn hs hq I J hm hj hc = record {
    run = λ ls w σ on hp c. sound_begin S ls w _ on c.log_is c.arrays (λ f e.
        sound_bind S {z2 = zb} side_steps (omega arith) (omega arith) (omega arith) (I.run ls (spent f w) σ on hp (core_spent L A f c))
        (λ x ls2 w2 τ Q. go x ls ls2 w2 w.fuel f σ τ (omega arith) Q));
  }
    where
      go : (x : ℕ) (ls ls2 : List ℕ) (w2 : World) (g f : ℕ) (σ τ : State) → f ≤ g → CondPost L A true σ d s n ls f x ls2 w2 τ
          → Sound S (branch x (gives 1) mb ls2 w2) (K * w2.fuel + side_steps) w2.fuel zb (ExprPost L A σ d q (temporary d) ls g) τ
      go zero ls ls2 w2 g f σ τ hg Q =
          right_over mb zb d s u v q j g pl ls ls2 w2 σ τ hf hd J hm hj hq Q.on Q.here Q.cor Q.keep Q.locals (omega (arith, Q.less))
      go (suc x) ls ls2 w2 g f σ τ hg Q =
          left_value 1 d (suc v) q g ls ls2 w2 σ τ hd one_is hc Q.on (Q.here ∙ (let y : s + n ≡ suc v = omega arith in y)) Q.cor Q.keep Q.locals (omega (arith, Q.less))

  -- Arguments: each value is at its place, and stays there while the others' code runs.

  pub record ArgsPost (σ : State) (d q : ℕ) (ps : List Place) (ls₀ : List ℕ) (f : ℕ) (vs : List ℕ) (ls : List ℕ) (w : World) (τ : State) : Type 0 where
    pub on : τ.status ≡ Going
    pub here : τ.pc ≡ q
    pub cor : Cor L A ls w τ
    pub held : Held L A ps vs τ
    pub keep : (j : ℕ) → j < d → value_at (temporary j) B τ ≡ value_at (temporary j) B σ
    pub locals : ls ≡ ls₀
    pub less : w.fuel ≤ f

  pub record ArgsIn (m : Act (List ℕ)) (z d p q : ℕ) (ps : List Place) : Type 0 where
    pub run : (ls : List ℕ) (w : World) (σ : State) → σ.status ≡ Going → σ.pc ≡ p → Cor L A ls w σ
        → Sound S (m ls w) (K * w.fuel) w.fuel z (ArgsPost σ d q ps ls w.fuel) σ

  none_in : (d p : ℕ) → ArgsIn (gives []) 0 d p p []
  none_in d p = record {
    run = λ ls w σ on hp c.
        sound_end S (omega arith) (omega arith) (record { on = on; here = hp; cor = c; held = tt; keep = λ j h. refl; locals = refl; less = omega arith });
  }

  more_in : (m : Act ℕ) (n : Act (List ℕ)) (z y d p r q : ℕ) (pl : Place) (ps : List Place) → Fit L A pl d → ExprIn m z d p r pl → ArgsIn n y (above pl d) r q ps
      → ArgsIn (λ ls w. bind (m ls w) (λ v ls w. bind (n ls w) (λ vs. gives (v ∷ vs)))) (z + y) d p q (pl ∷ ps)
  more_in m n z y d p r q pl ps hf I J = record {
    run = λ ls w σ on hp c.
        sound_bind' S {z2 = y} 0 (omega arith) (λ _ _ _ _ Q. omega (arith, Q.less)) (omega arith) (omega arith) (I.run ls w σ on hp c)
        (λ v ls2 w2 τ Q. sound_bind S {z2 = 0} 0 (omega arith) (omega arith) (omega arith) (J.run ls2 w2 τ Q.on Q.here Q.cor)
        (λ vs ls3 w3 ρ Z. sound_end S (omega arith) (omega arith) (record {
          on = Z.on;
          here = Z.here;
          cor = Z.cor;
          held = (there L A pl d hf, still L A pl d v ls2 ls3 w2 w3 τ ρ hf Q.is Q.cor Z.cor Z.locals Z.keep, Z.held);
          keep = λ j h. Z.keep j (let k : d ≤ above pl d = above_le L A pl d in omega (arith, k)) ∙ Q.keep j h;
          locals = Z.locals ∙ Q.locals;
          less = omega (arith, Z.less, Q.less);
        })));
  }

  -- a call, and its result
  call_in : (m : Act (List ℕ)) (f z d p r s q : ℕ) (ps : List Place) → d < most_temporaries → f < length L.functions → length ps ≡ (get_or L.functions f nothing).parameters → length ps ≤ most_parameters
      → ArgsIn m z d p r ps → At S.code r (calling (L.entry f) ps d) s → At S.code s (mv (target d) answer ∷ keep d) q
      → ExprIn (λ ls w. bind (begin ls w) (λ _ ls w. bind (m ls w) (λ vs. call_at S.room L.functions A.left f vs))) (suc z) d p q (temporary d)
  call_in m f z d p r s q ps hd hf har few I hc hm = record {
    run = λ ls w σ on hp c. sound_begin S ls w _ on c.log_is c.arrays (λ g e.
        sound_bind S {z2 = 0} call_share (omega arith) (omega arith) (omega arith) (I.run ls (spent g w) σ on hp (core_spent L A g c))
        (λ vs ls2 w2 τ Q. sound_then S {z2 = 0} (call_at S.room L.functions A.left f vs ls2 w2) 2 (omega arith) (omega arith) (omega arith)
        (calls L A f vs ps d r s ls2 w2 τ (omega arith) Q.on Q.here Q.cor Q.held hf har few hc)
        (λ v ls3 w3 ρ Z.
        let h = put_ok S d v s q _ ρ (framed L A) hd Z.cor.sp_is hm Z.on Z.here (ap (λ (n : ℕ). puts (target d) n ρ) Z.is) in
        sound_ran S 2 (omega arith) h.1
        (sound_end S (omega arith) (omega arith) (finish L A Z.cor h.2 h.3 (λ j k. Z.keep j k ∙ Q.keep j k) (Z.locals ∙ Q.locals) (omega (arith, Z.less, Q.less)))))));
  }

  -- a call whose result is tested
  tested_call : (m : Act (List ℕ)) (f : ℕ) (t : Bool) (z d p r s q k : ℕ) (ps : List Place) → d < most_temporaries → f < length L.functions
      → length ps ≡ (get_or L.functions f nothing).parameters → length ps ≤ most_parameters
      → ArgsIn m z d p r ps → At S.code r (calling (L.entry f) ps d) s → At S.code s (skip A.near (sense t Ne) answer x0 k) q
      → CondIn (λ ls w. bind (begin ls w) (λ _ ls w. bind (m ls w) (λ vs. call_at S.room L.functions A.left f vs))) (suc z) t d p q k
  tested_call m f t z d p r s q k ps hd hf har few I hc hm = record {
    run = λ ls w σ on hp c. sound_begin S ls w _ on c.log_is c.arrays (λ g e.
        sound_bind S {z2 = 0} call_share (omega arith) (omega arith) (omega arith) (I.run ls (spent g w) σ on hp (core_spent L A g c))
        (λ vs ls2 w2 τ Q. sound_then S {z2 = 0} (call_at S.room L.functions A.left f vs ls2 w2) 2 (omega arith) (omega arith) (omega arith)
        (calls L A f vs ps d r s ls2 w2 τ (omega arith) Q.on Q.here Q.cor Q.held hf har few hc)
        (λ v ls3 w3 ρ Z.
        let j = skip_ok S A.near (sense t Ne) answer x0 k s q ρ hm Z.on Z.here _ refl in
        sound_ran S 2 (omega arith) j
        (sound_end S (omega arith) (omega arith) (record {
          on = refl;
          here = ap (λ (n : ℕ). pick (cond_of (sense t Ne) n 0) (q + k) q) Z.is ∙ aim_test L A t v q k;
          cor = Z.cor;
          keep = λ j h. value_same (temporary j) h (same_goto B d _ ρ) ∙ Z.keep j h ∙ Q.keep j h;
          locals = Z.locals ∙ Q.locals;
          less = omega (arith, Z.less, Q.less);
        })))));
  }

  -- The induction.

  -- the place of a well-formed expression
  fit_result : (o : Unary) (pl : Place) (d : ℕ) → d < most_temporaries → Fit L A (result o pl d) d
  fit_result o (constant n) d h = apply_lt o n
  fit_result o (local y) d h = (refl, h)
  fit_result o (temporary j) d h = (refl, h)

  pub fit_of : (e : Expr) (d m : ℕ) → Fits L.functions S.elements A.N e m → d + m ≤ most_temporaries → Fit L A (place_of e d) d
  unfolding Fits place_of
  fit_of (C.number n) d m w h = w
  fit_of (C.local x) d m w h = w
  fit_of (C.element a i) d m w h = (refl, omega (arith, w.0))
  fit_of (C.call f xs) d m w h = (refl, omega (arith, w.0))
  fit_of (C.unary o e) d m w h = fit_result o (place_of e d) d (omega (arith, w.0))
  fit_of (C.strict o a b) d m w h = (refl, omega (arith, w.0))
  fit_of (C.and a b) d m w h = (refl, omega (arith, w.0))
  fit_of (C.or a b) d m w h = (refl, omega (arith, w.0))

  above_result : (o : Unary) (pl : Place) (d : ℕ) → above (result o pl d) d ≤ suc d
  above_result o (constant n) d = omega arith
  above_result o (local y) d = omega arith
  above_result o (temporary j) d = omega arith

  -- the temporaries that are left for what follows
  pub left_of : (e : Expr) (d m : ℕ) → Fits L.functions S.elements A.N e m → d + m ≤ most_temporaries → above (place_of e d) d + (m - 1) ≤ most_temporaries
  unfolding Fits place_of
  left_of (C.number n) d m w h = omega arith
  left_of (C.local x) d m w h = omega arith
  left_of (C.element a i) d m w h = omega (arith, w.0)
  left_of (C.call f xs) d m w h = omega (arith, w.0)
  left_of (C.unary o e) d m w h = let k = above_result o (place_of e d) d in omega (arith, w.0, k)
  left_of (C.strict o a b) d m w h = omega (arith, w.0)
  left_of (C.and a b) d m w h = omega (arith, w.0)
  left_of (C.or a b) d m w h = omega (arith, w.0)

  pub places_count : (xs : Args) (d : ℕ) → length (places_of xs d) ≡ count xs
  unfolding places_of
  places_count C.none d = refl
  places_count (C.more e xs) d = ap suc (places_count xs (above (place_of e d) d))

  abbrev pub ev : Expr → Act ℕ
  ev e = eval S.room (call_at S.room L.functions A.left) e

  abbrev pub evs : Args → Act (List ℕ)
  evs xs = evals S.room (call_at S.room L.functions A.left) xs

  -- every function takes at most 8 arguments
  module _ (small : (f : ℕ) → f < length L.functions → (get_or L.functions f nothing).parameters ≤ most_parameters) where
    mutual
      unfolding eval evals code codes condition place_of places_of nodes nodes_of Fits FitsAll Tests

      pub expr : (e : Expr) (d m p q : ℕ) → Fits L.functions S.elements A.N e m → d + m ≤ most_temporaries → At S.code p (code L.entry A.near e d) q
          → ExprIn (ev e) (nodes e) d p q (place_of e d)
      expr (C.number n) d m p q w h hc = subst (λ (k : ℕ). ExprIn (ev (C.number n)) 1 d p k (constant n)) hc (number_in n d p)
      expr (C.local x) d m p q w h hc = subst (λ (k : ℕ). ExprIn (ev (C.local x)) 1 d p k (local x)) hc (local_in x d p w)
      expr (C.element a i) d m p q w h hc =
          let t = at_split S.code p (code L.entry A.near i d) (reading a (place_of i d) d) q hc in
          element_in (ev i) a (nodes i) d p t.0 q (place_of i d) (fit_of i d m w.2 h) (omega (arith, w.0)) w.1 (expr i d m p t.0 w.2 h t.1) t.2
      expr (C.call f xs) d m p q w h hc =
          let t = at_split S.code p (codes L.entry A.near xs d) (calling (L.entry f) (places_of xs d) d ++ (mv (target d) answer ∷ keep d)) q hc in
          let u = at_split S.code t.0 (calling (L.entry f) (places_of xs d) d) (mv (target d) answer ∷ keep d) q t.2 in
          call_in (evs xs) f (nodes_of xs) d p t.0 u.0 q (places_of xs d) (omega (arith, w.0)) w.1.known (places_count xs d ∙ w.1.arity)
          (let k = places_count xs d ∙ w.1.arity in let s = small f w.1.known in omega (arith, k, s)) (args xs d m p t.0 w.2 h t.1) u.1 u.2
      expr (C.unary o e) d m p q w h hc =
          let t = at_split S.code p (code L.entry A.near e d) (applying o (place_of e d) d) q hc in
          unary_in (ev e) o (nodes e) d p t.0 q (place_of e d) (fit_of e d m w.1 h) (omega (arith, w.0)) (expr e d m p t.0 w.1 h t.1) t.2
      expr (C.strict o a b) d m p q w h hc =
          let d2 = above (place_of a d) d in
          let t = at_split S.code p (code L.entry A.near a d) (code L.entry A.near b d2 ++ operating o (place_of a d) (place_of b d2) d) q hc in
          let u = at_split S.code t.0 (code L.entry A.near b d2) (operating o (place_of a d) (place_of b d2) d) q t.2 in
          let k = left_of a d m w.1 h in
          strict_in (ev a) (ev b) o (nodes a) (nodes b) d p t.0 u.0 q (place_of a d) (place_of b d2) (fit_of a d m w.1 h) (fit_of b d2 (m - 1) w.2 k) (omega (arith, w.0))
          (expr a d m p t.0 w.1 h t.1) (expr b d2 (m - 1) t.0 u.0 w.2 k u.1) u.2
      expr (C.and a b) d m p q w h hc =
          let rest = code L.entry A.near b d ++ move (place_of b d) d in
          let other = jump (suc (length (settle 0 d))) ∷ settle 0 d in
          let t = at_split S.code p (condition L.entry A.near a false d (suc (length rest))) (rest ++ other) q hc in
          let u = at_split S.code t.0 rest other q t.2 in
          let v = at_split S.code t.0 (code L.entry A.near b d) (move (place_of b d) d) u.0 u.1 in
          let len = at_len S.code t.0 rest u.0 u.1 in
          let end = at_len S.code (suc u.0) (settle 0 d) q u.2.1 in
          and_in (ev a) (ev b) (nodes a) (nodes b) d p t.0 v.0 u.0 q (suc (length rest)) (suc (length (settle 0 d))) (place_of b d) (fit_of b d m w.2 h) (omega (arith, w.0))
          (omega (arith, len)) (omega (arith, len)) (omega (arith, end))
          (cond a false d (m - 1) p t.0 (suc (length rest)) w.1 (omega arith) t.1) (expr b d m t.0 v.0 w.2 h v.1) v.2 u.2.0 u.2.1
      expr (C.or a b) d m p q w h hc =
          let rest = code L.entry A.near b d ++ move (place_of b d) d in
          let other = jump (suc (length (settle 1 d))) ∷ settle 1 d in
          let t = at_split S.code p (condition L.entry A.near a true d (suc (length rest))) (rest ++ other) q hc in
          let u = at_split S.code t.0 rest other q t.2 in
          let v = at_split S.code t.0 (code L.entry A.near b d) (move (place_of b d) d) u.0 u.1 in
          let len = at_len S.code t.0 rest u.0 u.1 in
          let end = at_len S.code (suc u.0) (settle 1 d) q u.2.1 in
          or_in (ev a) (ev b) (nodes a) (nodes b) d p t.0 v.0 u.0 q (suc (length rest)) (suc (length (settle 1 d))) (place_of b d) (fit_of b d m w.2 h) (omega (arith, w.0))
          (omega (arith, len)) (omega (arith, len)) (omega (arith, end))
          (cond a true d (m - 1) p t.0 (suc (length rest)) w.1 (omega arith) t.1) (expr b d m t.0 v.0 w.2 h v.1) v.2 u.2.0 u.2.1

      pub args : (xs : Args) (d m p q : ℕ) → FitsAll L.functions S.elements A.N xs m → d + m ≤ most_temporaries → At S.code p (codes L.entry A.near xs d) q
          → ArgsIn (evs xs) (nodes_of xs) d p q (places_of xs d)
      args C.none d m p q w h hc = subst (λ (k : ℕ). ArgsIn (evs C.none) 0 d p k []) hc (none_in d p)
      args (C.more e xs) d m p q w h hc =
          let d2 = above (place_of e d) d in
          let t = at_split S.code p (code L.entry A.near e d) (codes L.entry A.near xs d2) q hc in
          more_in (ev e) (evs xs) (nodes e) (nodes_of xs) d p t.0 q (place_of e d) (places_of xs d2) (fit_of e d m w.0 h)
          (expr e d m p t.0 w.0 h t.1) (args xs d2 (m - 1) t.0 q w.1 (left_of e d m w.0 h) t.2)

      pub cond : (e : Expr) (t : Bool) (d m p q k : ℕ) → Tests L.functions S.elements A.N e m → d + m ≤ most_temporaries → At S.code p (condition L.entry A.near e t d k) q
          → CondIn (ev e) (nodes e) t d p q k
      cond (C.number n) s d m p q k w h hc = always_in n d p q k s hc
      cond (C.local x) s d m p q k w h hc = test_in (ev (C.local x)) s 1 d p p q k (local x) w (local_in x d p w) hc
      cond (C.element a i) s d m p q k w h hc =
          let t = at_split S.code p (code L.entry A.near i d) (reading a (place_of i d) d ++ testing A.near s (temporary d) k) q hc in
          let u = at_split S.code t.0 (reading a (place_of i d) d) (testing A.near s (temporary d) k) q t.2 in
          test_in (ev (C.element a i)) s (suc (nodes i)) d p u.0 q k (temporary d) (refl, omega (arith, w.0))
          (element_in (ev i) a (nodes i) d p t.0 u.0 (place_of i d) (fit_of i d m w.2 h) (omega (arith, w.0)) w.1 (expr i d m p t.0 w.2 h t.1) u.1) u.2
      cond (C.call f xs) s d m p q k w h hc =
          let last = skip A.near (sense s Ne) answer x0 k in
          let t = at_split S.code p (codes L.entry A.near xs d) (calling (L.entry f) (places_of xs d) d ++ last) q hc in
          let u = at_split S.code t.0 (calling (L.entry f) (places_of xs d) d) last q t.2 in
          tested_call (evs xs) f s (nodes_of xs) d p t.0 u.0 q k (places_of xs d) (omega (arith, w.0)) w.1.known (places_count xs d ∙ w.1.arity)
          (let k = places_count xs d ∙ w.1.arity in let s = small f w.1.known in omega (arith, k, s)) (args xs d m p t.0 w.2 h t.1) u.1 u.2
      cond (C.unary T.not e) s d m p q k w h hc = not_in (ev e) s (nodes e) d p q k (cond e (B2.not s) d m p q k w h hc)
      cond (C.unary T.negate e) s d m p q k w h hc =
          let t = at_split S.code p (code L.entry A.near e d) (applying T.negate (place_of e d) d ++ testing A.near s (result T.negate (place_of e d) d) k) q hc in
          let u = at_split S.code t.0 (applying T.negate (place_of e d) d) (testing A.near s (result T.negate (place_of e d) d) k) q t.2 in
          test_in (ev (C.unary T.negate e)) s (suc (nodes e)) d p u.0 q k (result T.negate (place_of e d) d) (fit_result T.negate (place_of e d) d (omega (arith, w.0)))
          (unary_in (ev e) T.negate (nodes e) d p t.0 u.0 (place_of e d) (fit_of e d m w.1 h) (omega (arith, w.0)) (expr e d m p t.0 w.1 h t.1) u.1) u.2
      cond (C.strict o a b) s d m p q k w h hc =
          let d2 = above (place_of a d) d in
          let last = deciding_by L.entry A.near (relation o) s o (place_of a d) (place_of b d2) d k in
          let t = at_split S.code p (code L.entry A.near a d) (code L.entry A.near b d2 ++ last) q hc in
          let u = at_split S.code t.0 (code L.entry A.near b d2) last q t.2 in
          let l = left_of a d m w.1 h in
          deciding_in (ev a) (ev b) o (relation o) s (nodes a) (nodes b) d p t.0 u.0 q k (place_of a d) (place_of b d2) (relation_is o)
          (fit_of a d m w.1 h) (fit_of b d2 (m - 1) w.2 l) (omega (arith, w.0))
          (expr a d m p t.0 w.1 h t.1) (expr b d2 (m - 1) t.0 u.0 w.2 l u.1) u.2
      cond (C.and a b) false d m p q k w h hc =
          let right = condition L.entry A.near b false d k in
          let t = at_split S.code p (condition L.entry A.near a false d (length right + k)) right q hc in
          let len = at_len S.code t.0 right q t.2 in
          and_false (ev a) (ev b) (nodes a) (nodes b) d p t.0 q (length right + k) k (omega (arith, len)) (omega (arith, len))
          (cond a false d m p t.0 (length right + k) w.0 h t.1) (cond b false d m t.0 q k w.1 h t.2)
      cond (C.and a b) true d m p q k w h hc =
          let right = condition L.entry A.near b true d k in
          let t = at_split S.code p (condition L.entry A.near a false d (length right)) right q hc in
          let len = at_len S.code t.0 right q t.2 in
          and_true (ev a) (ev b) (nodes a) (nodes b) d p t.0 q (length right) k (omega (arith, len)) (omega (arith, len))
          (cond a false d m p t.0 (length right) w.0 h t.1) (cond b true d m t.0 q k w.1 h t.2)
      cond (C.or a b) true d m p q k w h hc =
          let right = condition L.entry A.near b true d k in
          let t = at_split S.code p (condition L.entry A.near a true d (length right + k)) right q hc in
          let len = at_len S.code t.0 right q t.2 in
          or_true (ev a) (ev b) (nodes a) (nodes b) d p t.0 q (length right + k) k (omega (arith, len)) (omega (arith, len))
          (cond a true d m p t.0 (length right + k) w.0 h t.1) (cond b true d m t.0 q k w.1 h t.2)
      cond (C.or a b) false d m p q k w h hc =
          let right = condition L.entry A.near b false d k in
          let t = at_split S.code p (condition L.entry A.near a true d (length right)) right q hc in
          let len = at_len S.code t.0 right q t.2 in
          or_false (ev a) (ev b) (nodes a) (nodes b) d p t.0 q (length right) k (omega (arith, len)) (omega (arith, len))
          (cond a true d m p t.0 (length right) w.0 h t.1) (cond b false d m t.0 q k w.1 h t.2)
