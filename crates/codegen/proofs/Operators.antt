-- Operators, elements and tests: for each a law of the table that its code is made from, and a lemma of the code.
use mathlib.Core.Path.{◌≡◌, refl, sym, ap, ◌∙◌, subst}
use mathlib.Core.Bool.{Bool, true, false, not}
use mathlib.Core.List.{List, ◌∷◌, ◌++◌}
use mathlib.Core.Option.{none, some}
use Prim.Native.Nat.{ℕ, zero, suc, ◌+◌, ◌-◌, ◌*◌, ◌%◌, ◌^◌, ◌≤◌, ◌<◌}
use native.Mathlib.Nat.{zero-add}
use native.Mathlib.Omega.{arith}
use lib.Dec.{ltb, eqb}
use lib.ListN.{get_or}
use borrow.Author.Tests.{ltb-true, ne_eqb}
use Rattle.word.specs.Choice.{pick}
use Rattle.word.specs.Word.{add_w, sub_w, neg_w, lt_s, lt_u, bit_of}
use Rattle.processor.specs.declared.Status.TheVariants.{Going, Fault}
use Rattle.processor.specs.declared.Alu.{Alu}
use Rattle.processor.specs.declared.Alu.TheVariants.{Add, Slt}
use Rattle.processor.specs.declared.Cond.{Cond}
use Rattle.processor.specs.declared.Cond.TheVariants.{Ne}
use Rattle.processor.specs.declared.Width.TheVariants.{Word}
use Rattle.processor.specs.Execute.{alu_of, cond_of, reaches}
use Rattle.language.specs.Tree.{Unary, negate, Strict, eq, ne, lt, le, gt, ge, add, sub, mul, div, rem}
use Rattle.language.specs.Tree as T
use Rattle.language.specs.Core.{Array}
use Rattle.language.specs.Meaning.{World, Result, goes, Act, value as gives, trap, apply, operate, read}
use Rattle.symbolic.specs.Symbolic.{Fixed, Reg, x0, scratch, Instruction, opi, lw, branch, State, value, quit, goto, puts, exec1}
use Rattle.codegen.specs.Places.{Place, constant, local, temporary, short, source, fetch, target, keep, most_temporaries}
use Rattle.codegen.specs.Operators.{Work, plain, divided, tested, work, left, right, working, operating_by, operating, result, alone, applying, sense, comparing, testing, address, locate, offset, reading}
use Rattle.codegen.proofs.Placement.{At, at_split}
use Rattle.codegen.specs.Costs.{K}
use Rattle.codegen.proofs.Budgets.{own_steps}
use Rattle.codegen.proofs.Logic.{Setting, Sound, sound_rates, sound_end, sound_ran, Ran, ran_none, ran_step, ran_trans}
use Rattle.codegen.proofs.Numbers.{in_data, opposite_is}
use Rattle.codegen.proofs.Frame.{Same, only_same, same_join, same_less, value_at, There, Stable, value_same}
use Rattle.codegen.proofs.Macros.{fetch_ok, source_only, same_target, value_target, keep_ok, put_ok, skip_ok, trap_ok}
use Rattle.codegen.proofs.Elements.{same_goto, Located, located}
use Rattle.codegen.proofs.Activation.{Linked, Activation, framed, Cor, core_same, ExprPost, finish, aim, CondPost}

-- The tables' laws.

-- what a work does with two values
abbrev pub worked : Work → ℕ → ℕ → Act ℕ
worked (plain k t) x y = gives (alu_of k (pick t y x) (pick t x y))
worked (divided k) x y = pick (eqb y 0) (trap 1) (gives (alu_of k x y))
worked (tested c t) x y = gives (bit_of (cond_of c (pick t y x) (pick t x y)))

quotient : (t : Bool) (q n : ℕ) (ls : List ℕ) (w : World) → pick t (trap {A = ℕ} 1) (gives q) ls w ≡ pick t (trap {A = ℕ} 1) (gives (pick t n q)) ls w
quotient true q n ls w = refl
quotient false q n ls w = refl

pub work_is : (o : Strict) (x y : ℕ) (ls : List ℕ) (w : World) → operate o x y ls w ≡ worked (work o) x y ls w
unfolding operate alu_of cond_of
work_is add x y ls w = refl
work_is sub x y ls w = refl
work_is mul x y ls w = refl
work_is div x y ls w = quotient (eqb y 0) _ _ ls w
work_is rem x y ls w = quotient (eqb y 0) _ _ ls w
work_is eq x y ls w = refl
work_is ne x y ls w = refl
work_is lt x y ls w = refl
work_is gt x y ls w = refl
work_is ge x y ls w = refl
work_is le x y ls w = refl

-- the operators with an immediate
add_constant : (x y n : ℕ) (ls : List ℕ) (w : World) → n ≡ y → operate add x y ls w ≡ goes (alu_of Add x n) ls w
unfolding operate alu_of
add_constant x y n ls w e = ap (λ (k : ℕ). goes (add_w x k) ls w) (sym e)

minus_is : (x n : ℕ) → sub_w x n ≡ add_w x (neg_w n)
unfolding sub_w add_w neg_w
minus_is x n = omega arith

sub_constant : (x y n : ℕ) (ls : List ℕ) (w : World) → n ≡ y → operate sub x y ls w ≡ goes (alu_of Add x (neg_w n)) ls w
unfolding operate alu_of
sub_constant x y n ls w e = ap (λ (k : ℕ). goes (sub_w x k) ls w) (sym e) ∙ ap (λ (k : ℕ). goes k ls w) (minus_is x n)

lt_constant : (x y n : ℕ) (ls : List ℕ) (w : World) → n ≡ y → operate lt x y ls w ≡ goes (alu_of Slt x n) ls w
unfolding operate alu_of
lt_constant x y n ls w e = ap (λ (k : ℕ). goes (bit_of (lt_s x k)) ls w) (sym e)

-- unary operators
alone_is : (room : ℕ) (o : Unary) (r s : Reg) (v : ℕ) (σ : State) → value σ s ≡ v → exec1 room (alone o r s) σ ≡ puts r (apply o v) σ
unfolding apply alu_of sub_w neg_w lt_u
alone_is room negate r s v σ e = ap (λ (k : ℕ). puts r k σ) (ap (λ (k : ℕ). (0 + (2 ^ 32 - k)) % 2 ^ 32) e ∙ ap (λ (k : ℕ). k % 2 ^ 32) (zero-add (2 ^ 32 - v)))
alone_is room T.not r s v σ e = ap (λ (k : ℕ). puts r (bit_of (ltb k 1)) σ) e ∙ ap (λ (t : Bool). puts r (bit_of t) σ) (below_one v)
  where
    below_one : (v : ℕ) → ltb v 1 ≡ eqb v 0
    below_one zero = refl
    below_one (suc n) = go (ltb (suc n) 1) refl
      where
        go : (t : Bool) → ltb (suc n) 1 ≡ t → t ≡ eqb (suc n) 0
        go true e = absurd (omega (arith, ltb-true (suc n) 1 e))
        go false e = sym (ne_eqb (suc n) 0 (λ k. omega arith))

bit_lt : (t : Bool) → bit_of t < 2 ^ 32
unfolding bit_of
bit_lt true = omega arith
bit_lt false = omega arith

pub apply_lt : (o : Unary) (n : ℕ) → apply o n < 2 ^ 32
unfolding apply neg_w
apply_lt negate n = omega arith
apply_lt T.not n = bit_lt (eqb n 0)

-- where a comparison's jump goes
pub aim_compare : (L : Linked) (A : Activation L) (t : Bool) (c : Cond) (a b q k : ℕ)
    → pick (cond_of (sense t c) a b) (q + k) q ≡ aim L A t (bit_of (cond_of c a b)) q k
unfolding bit_of
aim_compare L A true c a b q k = go (cond_of c a b)
  where
    go : (s : Bool) → pick s (q + k) q ≡ aim L A true (bit_of s) q k
    go true = refl
    go false = refl
aim_compare L A false c a b q k = ap (λ (s : Bool). pick s (q + k) q) (opposite_is c a b) ∙ go (cond_of c a b)
  where
    go : (s : Bool) → pick (not s) (q + k) q ≡ aim L A false (bit_of s) q k
    go true = refl
    go false = refl

pub aim_test : (L : Linked) (A : Activation L) (t : Bool) (v q k : ℕ) → pick (cond_of (sense t Ne) v 0) (q + k) q ≡ aim L A t v q k
unfolding cond_of
aim_test L A true zero q k = refl
aim_test L A true (suc v) q k = ap (λ (s : Bool). pick (not s) (q + k) q) (ne_eqb (suc v) 0 (λ e. omega arith))
aim_test L A false zero q k = refl
aim_test L A false (suc v) q k = ap (λ (s : Bool). pick s (q + k) q) (ne_eqb (suc v) 0 (λ e. omega arith))

pub aim_not : (L : Linked) (A : Activation L) (t : Bool) (v q k : ℕ) → aim L A (not t) v q k ≡ aim L A t (apply T.not v) q k
unfolding apply bit_of
aim_not L A true zero q k = refl
aim_not L A true (suc v) q k = ap (λ (s : Bool). aim L A true (pick s 1 0) q k) (sym (ne_eqb (suc v) 0 (λ e. omega arith)))
aim_not L A false zero q k = refl
aim_not L A false (suc v) q k = ap (λ (s : Bool). aim L A false (pick s 1 0) q k) (sym (ne_eqb (suc v) 0 (λ e. omega arith)))

-- the values of two registers, exchanged or not
sides : {X : Type 0} (g : ℕ → ℕ → X) (t : Bool) (r s : Reg) (σ : State) (x y : ℕ) → value σ r ≡ x → value σ s ≡ y
    → g (value σ (left t r s)) (value σ (right t r s)) ≡ g (pick t y x) (pick t x y)
sides g true r s σ x y hr hs = ap (λ (k : ℕ). g k (value σ r)) hs ∙ ap (λ (k : ℕ). g y k) hr
sides g false r s σ x y hr hs = ap (λ (k : ℕ). g k (value σ s)) hr ∙ ap (λ (k : ℕ). g x k) hs

differs : (v : ℕ) → cond_of Ne v 0 ≡ not (eqb v 0)
unfolding cond_of
differs v = refl

pub one_is : alu_of Add 0 1 ≡ 1
unfolding alu_of add_w
one_is = refl

pub zero_is : alu_of Add 0 0 ≡ 0
unfolding alu_of add_w
zero_is = refl

bit_is : (t : Bool) (b : Bool) → t ≡ b → bit_of t ≡ pick b 1 0
unfolding bit_of
bit_is t b e = ap (λ (s : Bool). pick s 1 0) e

module _ (L : Linked) (A : Activation L) where
  abbrev S : Setting
  S = L.setting

  abbrev B : ℕ
  B = A.B

  -- two operands are fetched
  pub record Brought (pa pb : Place) (d q : ℕ) (c : List Instruction) (ρ : State) : Type 0 where
    pub at : ℕ
    pub to : State
    pub ran : Ran S 4 ρ to
    pub same : Same B d at ρ to
    pub left_is : value to (source pa 0) ≡ value_at pa B ρ
    pub right_is : value to (source pb 1) ≡ value_at pb B ρ
    pub rest : At S.code at c q

  pub brings : (pa pb : Place) (d e p q : ℕ) (c : List Instruction) (ρ : State) → There pa → There pb → d ≤ e → Stable pb e → ρ.registers Fixed 1 ≡ B
      → At S.code p (fetch pa 0 ++ (fetch pb 1 ++ c)) q → ρ.status ≡ Going → ρ.pc ≡ p → Brought pa pb d q c ρ
  brings pa pb d e p q c ρ ta tb he sb hs hc on hp =
      let t = at_split S.code p (fetch pa 0) _ q hc in
      let u = at_split S.code t.0 (fetch pb 1) _ q t.2 in
      let h = fetch_ok S pa 0 p t.0 ρ (framed L A) ta hs t.1 on hp in
      let g = fetch_ok S pb 1 t.0 u.0 h.0 (framed L A) tb (h.2.other Fixed 1 refl ∙ hs) u.1 h.2.on h.2.here in
      let s1 : Same B e t.0 ρ h.0 = only_same h.2 in
      record {
        at = u.0;
        to = g.0;
        ran = ran_trans S h.1 g.1;
        same = same_join (same_less he s1) (only_same g.2);
        left_is = source_only S pa g.2 ∙ h.3;
        right_is = g.3 ∙ value_same pb sb s1;
        rest = u.2;
      }

  -- what stays as an expression's last instructions run: from ρ, where the world is as it is at the end
  pub record Ready (σ : State) (d : ℕ) (ls₀ : List ℕ) (f : ℕ) (ls : List ℕ) (w : World) (ρ : State) : Type 0 where
    pub on : ρ.status ≡ Going
    pub cor : Cor L A ls w ρ
    pub keep : (j : ℕ) → j < d → value_at (temporary j) B ρ ≡ value_at (temporary j) B σ
    pub locals : ls ≡ ls₀
    pub less : w.fuel < f

  -- the operators' instructions, once the operands are in registers
  pub works : (k : Work) (x y d p q f : ℕ) (r s : Reg) (ls₀ ls : List ℕ) (w : World) (σ ρ ω : State) → d < most_temporaries → Ready σ d ls₀ f ls w ρ → Same B d p ρ ω
      → value ω r ≡ x → value ω s ≡ y → At S.code p (working k r s d) q
      → Sound S (worked k x y ls w) (K * w.fuel + 50) w.fuel 0 (ExprPost L A σ d q (temporary d) ls₀ f) ω
  works (plain k t) x y d p q f r s ls₀ ls w σ ρ ω hd Y G hx hy hc =
      let c = core_same L A Y.cor G in
      let h = put_ok S d (alu_of k (pick t y x) (pick t x y)) p q _ ω (framed L A) hd c.sp_is hc G.on G.here
      (ap (λ (v : ℕ). puts (target d) v ω) (sides (alu_of k) t r s ω x y hx hy)) in
      sound_ran S 2 (omega arith) h.1
      (sound_end S (omega arith) (omega arith) (finish L A Y.cor (same_join G h.2) h.3 Y.keep Y.locals Y.less))
  works (divided k) x y d p q f r s ls₀ ls w σ ρ ω hd Y G hx hy hc = go (eqb y 0) refl
    where
      jump_to : (t : Bool) → eqb y 0 ≡ t → exec1 S.room (branch Ne s x0 2) ω ≡ goto (pick (not t) (ω.pc + 2) (suc ω.pc)) ω
      jump_to t e = ap (λ (b : Bool). goto (pick b (ω.pc + 2) (suc ω.pc)) ω) (differs (value ω s)) ∙ ap (λ (v : ℕ). goto (pick (not (eqb v 0)) (ω.pc + 2) (suc ω.pc)) ω) hy ∙ ap (λ (b : Bool). goto (pick (not b) (ω.pc + 2) (suc ω.pc)) ω) e

      go : (t : Bool) → eqb y 0 ≡ t
          → Sound S (pick t (trap 1) (gives (alu_of k x y)) ls w) (K * w.fuel + 50) w.fuel 0 (ExprPost L A σ d q (temporary d) ls₀ f) ω
      go true e =
          let c = core_same L A Y.cor G in
          sound_ran S 1 (omega arith) (ran_step S {τ = goto (suc ω.pc) ω} G.on G.here hc.0 (jump_to true e) (ran_none S))
          (trap_ok S 1 (suc p) 9 w (goto (suc ω.pc) ω) (omega arith) L.trap_1 hc.1.0 refl (ap suc G.here) (omega arith) (omega arith) c.log_is c.arrays)
      go false e =
          let c = core_same L A Y.cor G in
          let ω1 : State = goto (suc (suc p)) ω in
          let h = put_ok S d (alu_of k x y) (suc (suc p)) q _ ω1 (framed L A) hd c.sp_is hc.1.1 refl refl
          (ap (λ (v : ℕ). puts (target d) (alu_of k v (value ω s)) ω1) hx ∙ ap (λ (v : ℕ). puts (target d) (alu_of k x v) ω1) hy) in
          sound_ran S 3 (omega arith)
          (ran_step S {τ = ω1} G.on G.here hc.0
          (jump_to false e ∙ ap (λ (a : ℕ). goto a ω) (let z : ω.pc + 2 ≡ suc (suc p) = omega (arith, G.here) in z)) h.1)
          (sound_end S (omega arith) (omega arith)
          (finish L A Y.cor (same_join G (same_join (same_goto B d (suc (suc p)) ω) h.2)) h.3 Y.keep Y.locals Y.less))
  works (tested c t) x y d p q f r s ls₀ ls w σ ρ ω hd Y G hx hy hc = go (cond_of c (pick t y x) (pick t x y)) refl
    where
      jump_to : (b : Bool) → cond_of c (pick t y x) (pick t x y) ≡ b → exec1 S.room (branch c (left t r s) (right t r s) 3) ω ≡ goto (pick b (ω.pc + 3) (suc ω.pc)) ω
      jump_to b e = ap (λ (v : Bool). goto (pick v (ω.pc + 3) (suc ω.pc)) ω) (sides (cond_of c) t r s ω x y hx hy ∙ e)

      go : (b : Bool) → cond_of c (pick t y x) (pick t x y) ≡ b
          → Sound S (goes (bit_of (cond_of c (pick t y x) (pick t x y))) ls w) (K * w.fuel + 50) w.fuel 0 (ExprPost L A σ d q (temporary d) ls₀ f) ω
      go true e =
          let cr = core_same L A Y.cor G in
          let ω1 : State = goto (suc (suc (suc p))) ω in
          let h = put_ok S d 1 (suc (suc (suc p))) q _ ω1 (framed L A) hd cr.sp_is hc.1.1.1 refl refl (ap (λ (v : ℕ). puts (target d) v ω1) one_is) in
          sound_ran S 3 (omega arith)
          (ran_step S {τ = ω1} G.on G.here hc.0
          (jump_to true e ∙ ap (λ (a : ℕ). goto a ω) (let z : ω.pc + 3 ≡ suc (suc (suc p)) = omega (arith, G.here) in z)) h.1)
          (sound_end S (omega arith) (omega arith)
          (finish L A Y.cor (same_join G (same_join (same_goto B d (suc (suc (suc p))) ω) h.2)) (h.3 ∙ sym (bit_is _ true e)) Y.keep Y.locals Y.less))
      go false e =
          let cr = core_same L A Y.cor G in
          let ω1 : State = goto (suc p) ω in
          let ω2 : State = puts (target d) 0 ω1 in
          let G2 : Same B d (suc (suc p)) ω1 ω2 = same_target S B d 0 (suc (suc p)) ω1 refl in
          let ω3 : State = goto (suc (suc (suc (suc p)))) ω2 in
          let h = keep_ok S d 0 (suc (suc (suc (suc p)))) q ω3 (framed L A) hd (G2.fixed 1 ∙ cr.sp_is) hc.1.1.1.1 refl refl (value_target S d 0 ω1) in
          sound_ran S 4 (omega arith)
          (ran_step S {τ = ω1} G.on G.here hc.0 (jump_to false e ∙ ap (λ (a : ℕ). goto (suc a) ω) G.here)
          (ran_step S {τ = ω2} refl refl hc.1.0 (ap (λ (v : ℕ). puts (target d) v ω1) zero_is)
          (ran_step S {τ = ω3} G2.on G2.here hc.1.1.0 (ap (λ (a : ℕ). goto a ω2) (let z : ω2.pc + 2 ≡ suc (suc (suc (suc p))) = omega (arith, G2.here) in z)) h.1)))
          (sound_end S (omega arith) (omega arith)
          (finish L A Y.cor (same_join G (same_join (same_goto B d (suc p) ω) (same_join G2 (same_join (same_goto B d (suc (suc (suc (suc p)))) ω2) h.2))))
          (h.3 ∙ sym (bit_is _ false e)) Y.keep Y.locals Y.less))

  -- an operator's code, with the right side in a register
  generally : (o : Strict) (x y d e p q f : ℕ) (pa pb : Place) (ls₀ ls : List ℕ) (w : World) (σ ρ : State) → d < most_temporaries → There pa → There pb → d ≤ e → Stable pb e
      → Ready σ d ls₀ f ls w ρ → ρ.pc ≡ p → value_at pa B ρ ≡ x → value_at pb B ρ ≡ y → At S.code p (operating_by none o pa pb d) q
      → Sound S (operate o x y ls w) (K * w.fuel + own_steps) w.fuel 0 (ExprPost L A σ d q (temporary d) ls₀ f) ρ
  generally o x y d e p q f pa pb ls₀ ls w σ ρ hd ta tb he sb Y hp hx hy hc =
      let g = brings pa pb d e p q (working (work o) (source pa 0) (source pb 1) d) ρ ta tb he sb Y.cor.sp_is hc Y.on hp in
      subst (λ (r : Result ℕ). Sound S r (K * w.fuel + own_steps) w.fuel 0 (ExprPost L A σ d q (temporary d) ls₀ f) ρ) (sym (work_is o x y ls w))
      (sound_ran S 4 (omega arith) g.ran (sound_rates S (worked (work o) x y ls w) (omega arith) (omega arith)
      (works (work o) x y d g.at q f (source pa 0) (source pb 1) ls₀ ls w σ ρ g.to hd Y g.same (g.left_is ∙ hx) (g.right_is ∙ hy) g.rest)))

  -- with an immediate
  immediately : (r : Result ℕ) (k : Alu) (m x d p q f : ℕ) (pa : Place) (ls₀ ls : List ℕ) (w : World) (σ ρ : State) → d < most_temporaries → There pa
      → Ready σ d ls₀ f ls w ρ → ρ.pc ≡ p → value_at pa B ρ ≡ x → r ≡ goes (alu_of k x m) ls w
      → At S.code p (fetch pa 0 ++ (opi k (target d) (source pa 0) m ∷ keep d)) q
      → Sound S r (K * w.fuel + own_steps) w.fuel 0 (ExprPost L A σ d q (temporary d) ls₀ f) ρ
  immediately r k m x d p q f pa ls₀ ls w σ ρ hd ta Y hp hx er hc =
      let t = at_split S.code p (fetch pa 0) _ q hc in
      let h = fetch_ok S pa 0 p t.0 ρ (framed L A) ta Y.cor.sp_is t.1 Y.on hp in
      let G : Same B d t.0 ρ h.0 = only_same h.2 in
      let c = core_same L A Y.cor G in
      let g = put_ok S d (alu_of k x m) t.0 q _ h.0 (framed L A) hd c.sp_is t.2 G.on G.here
      (ap (λ (v : ℕ). puts (target d) (alu_of k v m) h.0) (h.3 ∙ hx)) in
      subst (λ (r : Result ℕ). Sound S r (K * w.fuel + own_steps) w.fuel 0 (ExprPost L A σ d q (temporary d) ls₀ f) ρ) (sym er)
      (sound_ran S 4 (omega arith) (ran_trans S h.1 g.1)
      (sound_end S (omega arith) (omega arith) (finish L A Y.cor (same_join G g.2) g.3 Y.keep Y.locals Y.less)))

  pub operates : (o : Strict) (x y d e p q f : ℕ) (pa pb : Place) (ls₀ ls : List ℕ) (w : World) (σ ρ : State) → d < most_temporaries → There pa → There pb → d ≤ e → Stable pb e
      → Ready σ d ls₀ f ls w ρ → ρ.pc ≡ p → value_at pa B ρ ≡ x → value_at pb B ρ ≡ y → At S.code p (operating o pa pb d) q
      → Sound S (operate o x y ls w) (K * w.fuel + own_steps) w.fuel 0 (ExprPost L A σ d q (temporary d) ls₀ f) ρ
  operates o x y d e p q f pa (local z) ls₀ ls w σ ρ hd ta tb he sb Y hp hx hy hc = generally o x y d e p q f pa (local z) ls₀ ls w σ ρ hd ta tb he sb Y hp hx hy hc
  operates o x y d e p q f pa (temporary j) ls₀ ls w σ ρ hd ta tb he sb Y hp hx hy hc = generally o x y d e p q f pa (temporary j) ls₀ ls w σ ρ hd ta tb he sb Y hp hx hy hc
  operates add x y d e p q f pa (constant n) ls₀ ls w σ ρ hd ta tb he sb Y hp hx hy hc = go (short n) hc
    where
      go : (t : Bool) → At S.code p (operating_by (pick t (some (Add, n)) none) add pa (constant n) d) q
          → Sound S (operate add x y ls w) (K * w.fuel + own_steps) w.fuel 0 (ExprPost L A σ d q (temporary d) ls₀ f) ρ
      go true hc = immediately (operate add x y ls w) Add n x d p q f pa ls₀ ls w σ ρ hd ta Y hp hx (add_constant x y n ls w hy) hc
      go false hc = generally add x y d e p q f pa (constant n) ls₀ ls w σ ρ hd ta tb he sb Y hp hx hy hc
  operates sub x y d e p q f pa (constant n) ls₀ ls w σ ρ hd ta tb he sb Y hp hx hy hc = go (short (neg_w n)) hc
    where
      go : (t : Bool) → At S.code p (operating_by (pick t (some (Add, neg_w n)) none) sub pa (constant n) d) q
          → Sound S (operate sub x y ls w) (K * w.fuel + own_steps) w.fuel 0 (ExprPost L A σ d q (temporary d) ls₀ f) ρ
      go true hc = immediately (operate sub x y ls w) Add (neg_w n) x d p q f pa ls₀ ls w σ ρ hd ta Y hp hx (sub_constant x y n ls w hy) hc
      go false hc = generally sub x y d e p q f pa (constant n) ls₀ ls w σ ρ hd ta tb he sb Y hp hx hy hc
  operates lt x y d e p q f pa (constant n) ls₀ ls w σ ρ hd ta tb he sb Y hp hx hy hc = go (short n) hc
    where
      go : (t : Bool) → At S.code p (operating_by (pick t (some (Slt, n)) none) lt pa (constant n) d) q
          → Sound S (operate lt x y ls w) (K * w.fuel + own_steps) w.fuel 0 (ExprPost L A σ d q (temporary d) ls₀ f) ρ
      go true hc = immediately (operate lt x y ls w) Slt n x d p q f pa ls₀ ls w σ ρ hd ta Y hp hx (lt_constant x y n ls w hy) hc
      go false hc = generally lt x y d e p q f pa (constant n) ls₀ ls w σ ρ hd ta tb he sb Y hp hx hy hc
  operates mul x y d e p q f pa (constant n) ls₀ ls w σ ρ hd ta tb he sb Y hp hx hy hc = generally mul x y d e p q f pa (constant n) ls₀ ls w σ ρ hd ta tb he sb Y hp hx hy hc
  operates div x y d e p q f pa (constant n) ls₀ ls w σ ρ hd ta tb he sb Y hp hx hy hc = generally div x y d e p q f pa (constant n) ls₀ ls w σ ρ hd ta tb he sb Y hp hx hy hc
  operates rem x y d e p q f pa (constant n) ls₀ ls w σ ρ hd ta tb he sb Y hp hx hy hc = generally rem x y d e p q f pa (constant n) ls₀ ls w σ ρ hd ta tb he sb Y hp hx hy hc
  operates eq x y d e p q f pa (constant n) ls₀ ls w σ ρ hd ta tb he sb Y hp hx hy hc = generally eq x y d e p q f pa (constant n) ls₀ ls w σ ρ hd ta tb he sb Y hp hx hy hc
  operates ne x y d e p q f pa (constant n) ls₀ ls w σ ρ hd ta tb he sb Y hp hx hy hc = generally ne x y d e p q f pa (constant n) ls₀ ls w σ ρ hd ta tb he sb Y hp hx hy hc
  operates gt x y d e p q f pa (constant n) ls₀ ls w σ ρ hd ta tb he sb Y hp hx hy hc = generally gt x y d e p q f pa (constant n) ls₀ ls w σ ρ hd ta tb he sb Y hp hx hy hc
  operates ge x y d e p q f pa (constant n) ls₀ ls w σ ρ hd ta tb he sb Y hp hx hy hc = generally ge x y d e p q f pa (constant n) ls₀ ls w σ ρ hd ta tb he sb Y hp hx hy hc
  operates le x y d e p q f pa (constant n) ls₀ ls w σ ρ hd ta tb he sb Y hp hx hy hc = generally le x y d e p q f pa (constant n) ls₀ ls w σ ρ hd ta tb he sb Y hp hx hy hc

  -- a unary operator's code
  one_alone : (o : Unary) (x d p q f : ℕ) (pl : Place) (ls₀ ls : List ℕ) (w : World) (σ ρ : State) → d < most_temporaries → There pl
      → Ready σ d ls₀ f ls w ρ → ρ.pc ≡ p → value_at pl B ρ ≡ x → At S.code p (fetch pl 0 ++ (alone o (target d) (source pl 0) ∷ keep d)) q
      → Sound S (goes (apply o x) ls w) (K * w.fuel + own_steps) w.fuel 0 (ExprPost L A σ d q (temporary d) ls₀ f) ρ
  one_alone o x d p q f pl ls₀ ls w σ ρ hd tl Y hp hx hc =
      let t = at_split S.code p (fetch pl 0) _ q hc in
      let h = fetch_ok S pl 0 p t.0 ρ (framed L A) tl Y.cor.sp_is t.1 Y.on hp in
      let G : Same B d t.0 ρ h.0 = only_same h.2 in
      let c = core_same L A Y.cor G in
      let g = put_ok S d (apply o x) t.0 q _ h.0 (framed L A) hd c.sp_is t.2 G.on G.here (alone_is S.room o (target d) (source pl 0) x h.0 (h.3 ∙ hx)) in
      sound_ran S 4 (omega arith) (ran_trans S h.1 g.1)
      (sound_end S (omega arith) (omega arith) (finish L A Y.cor (same_join G g.2) g.3 Y.keep Y.locals Y.less))

  pub applies : (o : Unary) (x d p q f : ℕ) (pl : Place) (ls₀ ls : List ℕ) (w : World) (σ ρ : State) → d < most_temporaries → There pl
      → Ready σ d ls₀ f ls w ρ → ρ.pc ≡ p → value_at pl B ρ ≡ x → At S.code p (applying o pl d) q
      → Sound S (goes (apply o x) ls w) (K * w.fuel + own_steps) w.fuel 0 (ExprPost L A σ d q (result o pl d) ls₀ f) ρ
  applies o x d p q f (constant n) ls₀ ls w σ ρ hd tl Y hp hx hc =
      sound_end S (omega arith) (omega arith) (record {
        on = Y.on;
        here = hp ∙ hc;
        cor = Y.cor;
        is = ap (apply o) hx;
        keep = Y.keep;
        locals = Y.locals;
        less = Y.less;
      })
  applies o x d p q f (local y) ls₀ ls w σ ρ hd tl Y hp hx hc = one_alone o x d p q f (local y) ls₀ ls w σ ρ hd tl Y hp hx hc
  applies o x d p q f (temporary j) ls₀ ls w σ ρ hd tl Y hp hx hc = one_alone o x d p q f (temporary j) ls₀ ls w σ ρ hd tl Y hp hx hc

  -- an element is read
  pub reads : (a : Array) (i d p q f : ℕ) (pl : Place) (ls₀ ls : List ℕ) (w : World) (σ ρ : State) → d < most_temporaries → There pl → a.offset + a.size ≤ S.elements
      → Ready σ d ls₀ f ls w ρ → ρ.pc ≡ p → value_at pl B ρ ≡ i → At S.code p (reading a pl d) q
      → Sound S (read a i ls w) (K * w.fuel + own_steps) w.fuel 0 (ExprPost L A σ d q (temporary d) ls₀ f) ρ
  unfolding read
  reads a i d p q f pl ls₀ ls w σ ρ hd tl ha Y hp hi hc =
      let t = at_split S.code p (locate a pl) _ q hc in
      go t.0 t.2 (ltb i a.size) refl
      (located S a pl d p t.0 i ρ (framed L A) tl Y.cor.sp_is (omega (arith, L.few)) t.1 Y.on hp hi (ltb i a.size) refl)
    where
      go : (r : ℕ) → At S.code r (lw (target d) (scratch 0) (offset a pl) ∷ keep d) q → (b : Bool) → ltb i a.size ≡ b → Located S b B d r (offset a pl) i a ρ
          → Sound S (pick b (λ ls w. goes (get_or w.arrays (a.offset + i) 0) ls w) (trap 2) ls w) (K * w.fuel + own_steps) w.fuel 0 (ExprPost L A σ d q (temporary d) ls₀ f) ρ
      go r c false e F =
          let cr = core_same L A Y.cor F.same in
          sound_ran S 8 (omega arith) F.ran
          (trap_ok S 2 F.at 12 w F.to (omega arith) L.trap_2 F.here F.same.on F.same.here (omega arith) (omega arith) cr.log_is cr.arrays)
      go r c true e F =
          let k : i < a.size = ltb-true _ _ e in
          let cr = core_same L A Y.cor F.same in
          let ω : State = F.to in
          let v : ℕ = get_or w.arrays (a.offset + i) 0 in
          let h = put_ok S d v r q _ ω (framed L A) hd cr.sp_is c F.same.on F.same.here
          (ap (λ (n : ℕ). pick (reaches Word n) (puts (target d) (ω.memory n) ω) (quit (Fault 3) ω)) F.is
          ∙ ap (λ (b : Bool). pick b (puts (target d) (ω.memory (address a i)) ω) (quit (Fault 3) ω)) (in_data (address a i) (omega arith) (omega (arith, L.few)) (omega arith))
          ∙ ap (λ (n : ℕ). puts (target d) n ω) (cr.arrays.cell (a.offset + i) (omega arith))) in
          sound_ran S 10 (omega arith) (ran_trans S F.ran h.1)
          (sound_end S (omega arith) (omega arith) (finish L A Y.cor (same_join F.same h.2) h.3 Y.keep Y.locals Y.less))

  -- a value is tested
  pub tests : (t near : Bool) (v d p q k f : ℕ) (pl : Place) (ls₀ ls : List ℕ) (w : World) (σ ρ : State) → There pl
      → Ready σ d ls₀ f ls w ρ → ρ.pc ≡ p → value_at pl B ρ ≡ v → At S.code p (testing near t pl k) q
      → Sound S (goes v ls w) (K * w.fuel + 4) w.fuel 0 (CondPost L A t σ d q k ls₀ f) ρ
  tests t near v d p q k f pl ls₀ ls w σ ρ tl Y hp hv hc =
      let u = at_split S.code p (fetch pl 0) _ q hc in
      let h = fetch_ok S pl 0 p u.0 ρ (framed L A) tl Y.cor.sp_is u.1 Y.on hp in
      let G : Same B d u.0 ρ h.0 = only_same h.2 in
      let j = skip_ok S near (sense t Ne) (source pl 0) x0 k u.0 q h.0 u.2 h.2.on h.2.here _ refl in
      sound_ran S 4 (omega arith) (ran_trans S h.1 j)
      (sound_end S (omega arith) (omega arith) (record {
        on = refl;
        here = ap (λ (n : ℕ). pick (cond_of (sense t Ne) n 0) (q + k) q) (h.3 ∙ hv) ∙ aim_test L A t v q k;
        cor = core_same L A Y.cor G;
        keep = λ j k. value_same (temporary j) k (same_join G (same_goto B d _ h.0)) ∙ Y.keep j k;
        locals = Y.locals;
        less = Y.less;
      }))

  -- two values are compared
  pub compares : (c : Cond) (turned t near : Bool) (x y d e p q k f : ℕ) (pa pb : Place) (ls₀ ls : List ℕ) (w : World) (σ ρ : State) → There pa → There pb → d ≤ e → Stable pb e
      → Ready σ d ls₀ f ls w ρ → ρ.pc ≡ p → value_at pa B ρ ≡ x → value_at pb B ρ ≡ y → At S.code p (comparing near t c turned pa pb k) q
      → Sound S (goes (bit_of (cond_of c (pick turned y x) (pick turned x y))) ls w) (K * w.fuel + own_steps) w.fuel 0 (CondPost L A t σ d q k ls₀ f) ρ
  compares c turned t near x y d e p q k f pa pb ls₀ ls w σ ρ ta tb he sb Y hp hx hy hc =
      let g = brings pa pb d e p q _ ρ ta tb he sb Y.cor.sp_is hc Y.on hp in
      let j = skip_ok S near (sense t c) (left turned (source pa 0) (source pb 1)) (right turned (source pa 0) (source pb 1)) k g.at q g.to g.rest g.same.on g.same.here _ refl in
      sound_ran S 6 (omega arith) (ran_trans S g.ran j)
      (sound_end S (omega arith) (omega arith) (record {
        on = refl;
        here = sides (λ a b. pick (cond_of (sense t c) a b) (q + k) q) turned (source pa 0) (source pb 1) g.to x y (g.left_is ∙ hx) (g.right_is ∙ hy)
            ∙ aim_compare L A t c (pick turned y x) (pick turned x y) q k;
        cor = core_same L A Y.cor g.same;
        keep = λ j k. value_same (temporary j) k (same_join g.same (same_goto B d _ g.to)) ∙ Y.keep j k;
        locals = Y.locals;
        less = Y.less;
      }))
