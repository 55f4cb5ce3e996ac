-- An element is located: scratch register 0 and the offset give its address, or the machine is before the trap.
use mathlib.Core.Path.{◌≡◌, refl, sym, ap, ◌∙◌}
use mathlib.Core.Bool.{Bool, true, false, true≢false}
use Prim.Native.Nat.{ℕ, suc, ◌+◌, ◌*◌, ◌≤◌, ◌<◌}
use native.Mathlib.Omega.{arith}
use lib.Dec.{ltb}
use lib.ListN.{get_or}
use borrow.Author.Tests.{ltb-true}
use Rattle.word.specs.Choice.{pick}
use Rattle.word.specs.Word.{add_w, lt_u}
use Rattle.processor.specs.declared.Status.TheVariants.{Going}
use Rattle.processor.specs.declared.Alu.TheVariants.{Add, Sll}
use Rattle.processor.specs.declared.Cond.TheVariants.{Ltu}
use Rattle.processor.specs.Execute.{alu_of, cond_of}
use Rattle.processor.specs.Machine.{data_start}
use Rattle.language.specs.Core.{Array}
use Rattle.symbolic.specs.Symbolic.{Fixed, Scratch, scratch, call, bad, State, value, goto, puts}
use Rattle.codegen.specs.Places.{Place, constant, local, temporary, upper_of, lower_of, constant_to, source, fetch}
use Rattle.codegen.specs.Operators.{stub, address, indexed, locate_by, locate, offset}
use Rattle.codegen.proofs.Placement.{At, at_split}
use Rattle.codegen.proofs.Logic.{Setting, Ran, ran_none, ran_step, ran_trans, ran_most}
use Rattle.codegen.proofs.Numbers.{parts, shift_is, element_at}
use Rattle.codegen.proofs.Frame.{Framed, only_puts, Same, only_same, same_join, value_at, There}
use Rattle.codegen.proofs.Macros.{constant_ok, fetch_ok, source_only}
use Rattle.language.specs.Rules.{most_elements_in_all}

pub same_goto : (B d q : ℕ) (σ : State) → Same B d q σ (goto q σ)
same_goto B d q σ = record { on = refl; here = refl; fixed = λ j. refl; arguments = λ j. refl; temporaries = λ j h. refl; memory = λ a h. refl; log = refl }

-- 4 times the index, and the upper part
sum_is : (i b : ℕ) → i < 65536 → b < 2097152 → add_w (alu_of Add (alu_of Sll i 2) (upper_of b)) (lower_of b) ≡ b + 4 * i
unfolding alu_of
sum_is i b hi hb = ap (λ (x : ℕ). add_w (add_w x (upper_of b)) (lower_of b)) (shift_is i (omega arith)) ∙ element_at (4 * i) b (omega arith)

less_is : (a b : ℕ) → cond_of Ltu a b ≡ ltb a b
unfolding cond_of lt_u
less_is a b = refl

module _ (S : Setting) where
  pub record Found (B d q x i : ℕ) (a : Array) (ρ : State) : Type 0 where
    pub to : State
    pub ran : Ran S 8 ρ to
    pub same : Same B d q ρ to
    pub is : add_w (to.registers Scratch 0) x ≡ address a i

  pub record Lost (B d : ℕ) (ρ : State) : Type 0 where
    pub at : ℕ
    pub to : State
    pub ran : Ran S 8 ρ to
    pub same : Same B d at ρ to
    pub here : get_or S.code at bad ≡ call (stub 2)

  abbrev pub Located : Bool → (B d q x i : ℕ) → Array → State → Type 0
  Located true B d q x i a ρ = Found B d q x i a ρ
  Located false B d q x i a ρ = Lost B d ρ

  tested : {B : ℕ} (a : Array) (pl : Place) (d p q i : ℕ) (ρ : State) → Framed B → There pl → ρ.registers Fixed 1 ≡ B → a.offset + a.size ≤ most_elements_in_all
      → At S.code p (locate_by false a pl) q → ρ.status ≡ Going → ρ.pc ≡ p → value_at pl B ρ ≡ i
      → (b : Bool) → ltb i a.size ≡ b → Located b B d q (lower_of (address a 0)) i a ρ
  tested {B} a pl d p q i ρ F th hs ha hc on hp hi b e =
      let t = at_split S.code p (fetch pl 0) _ q hc in
      let u = at_split S.code t.0 (constant_to (scratch 1) a.size) _ q t.2 in
      let g = fetch_ok S pl 0 p t.0 ρ F th hs t.1 on hp in
      let h = constant_ok S Scratch 1 a.size t.0 u.0 g.0 (omega arith) u.1 g.2.on g.2.here in
      go h.0 u.0 (ran_trans S g.1 h.1) (same_join (only_same {B = B} {d = d} g.2) (only_same {B = B} {d = d} h.2))
      (source_only S pl h.2 ∙ g.3 ∙ hi) h.3 u.2 b e
    where
      go : (α : State) (r : ℕ) → Ran S 4 ρ α → Same B d r ρ α → value α (source pl 0) ≡ i → α.registers Scratch 1 ≡ a.size
          → At S.code r (indexed a pl) q
          → (b : Bool) → ltb i a.size ≡ b → Located b B d q (lower_of (address a 0)) i a ρ
      go α r ran G hv hz c false e =
          record {
            at = suc r;
            to = goto (suc r) α;
            ran = ran_most S (omega arith) (ran_trans S ran (ran_step S G.on G.here c.0
                (ap (λ (t : Bool). goto (pick t (α.pc + 2) (suc α.pc)) α) (less_is _ _ ∙ ap (λ (w : ℕ). ltb w (α.registers Scratch 1)) hv ∙ ap (λ (w : ℕ). ltb i w) hz ∙ e)
                ∙ ap (λ (k : ℕ). goto (suc k) α) G.here) (ran_none S {n = 0})));
            same = same_join G (same_goto B d (suc r) α);
            here = c.1.0;
          }
      go α r ran G hv hz c true e =
          let k : i < a.size = ltb-true _ _ e in
          let β : State = goto (suc (suc r)) α in
          let γ : State = puts (scratch 0) (alu_of Sll (value α (source pl 0)) 2) β in
          let δ : State = puts (scratch 1) (upper_of (address a 0)) γ in
          let ε : State = puts (scratch 0) (alu_of Add (δ.registers Scratch 0) (δ.registers Scratch 1)) δ in
          record {
            to = ε;
            ran = ran_trans S ran (ran_step S {τ = β} G.on G.here c.0
                (ap (λ (t : Bool). goto (pick t (α.pc + 2) (suc α.pc)) α) (less_is _ _ ∙ ap (λ (w : ℕ). ltb w (α.registers Scratch 1)) hv ∙ ap (λ (w : ℕ). ltb i w) hz ∙ e)
                ∙ ap (λ (k : ℕ). goto k α) (let y : α.pc + 2 ≡ suc (suc r) = omega (arith, G.here) in y))
                (ran_step S {τ = γ} refl refl c.1.1.0 refl
                (ran_step S {τ = δ} refl refl c.1.1.1.0 refl
                (ran_step S {τ = ε} refl refl c.1.1.1.1.0 refl (ran_none S {n = 0})))));
            same = same_join G (same_join (same_goto B d (suc (suc r)) α)
                (same_join (only_same (only_puts Scratch 0 (alu_of Sll (value α (source pl 0)) 2) (suc (suc (suc r))) β refl))
                (same_join (only_same (only_puts Scratch 1 (upper_of (address a 0)) (suc (suc (suc (suc r)))) γ refl))
                (only_same (only_puts Scratch 0 (alu_of Add (δ.registers Scratch 0) (δ.registers Scratch 1)) q δ c.1.1.1.1.1)))));
            is = ap (λ (w : ℕ). add_w (alu_of Add (alu_of Sll w 2) (upper_of (address a 0))) (lower_of (address a 0))) hv
                ∙ sum_is i (address a 0) (omega arith) (omega arith) ∙ (let y : data_start + 4 * (a.offset + 0) + 4 * i ≡ address a i = omega arith in y);
          }

  pub located : {B : ℕ} (a : Array) (pl : Place) (d p q i : ℕ) (ρ : State) → Framed B → There pl → ρ.registers Fixed 1 ≡ B → a.offset + a.size ≤ most_elements_in_all
      → At S.code p (locate a pl) q → ρ.status ≡ Going → ρ.pc ≡ p → value_at pl B ρ ≡ i
      → (b : Bool) → ltb i a.size ≡ b → Located b B d q (offset a pl) i a ρ
  located {B} a (constant n) d p q i ρ F th hs ha hc on hp hi b e = go (ltb n a.size) refl hc b e
    where
      go : (t : Bool) → ltb n a.size ≡ t → At S.code p (locate_by t a (constant n)) q → (b : Bool) → ltb i a.size ≡ b
          → Located b B d q (lower_of (address a (pick t n 0))) i a ρ
      go false e2 hc b e = tested a (constant n) d p q i ρ F th hs ha hc on hp hi b e
      go true e2 hc true e =
          let k : n < a.size = ltb-true _ _ e2 in
          record {
            to = puts (scratch 0) (upper_of (address a n)) ρ;
            ran = ran_step S on hp hc.0 refl (ran_none S);
            same = only_same (only_puts Scratch 0 _ q ρ (ap suc hp ∙ hc.1));
            is = parts (address a n) (omega arith) ∙ ap (λ (w : ℕ). address a w) hi;
          }
      go true e2 hc false e = absurd (true≢false (sym e2 ∙ ap (λ (w : ℕ). ltb w a.size) hi ∙ e))
  located a (local y) d p q i ρ F th hs ha hc on hp hi b e = tested a (local y) d p q i ρ F th hs ha hc on hp hi b e
  located a (temporary j) d p q i ρ F th hs ha hc on hp hi b e = tested a (temporary j) d p q i ρ F th hs ha hc on hp hi b e
