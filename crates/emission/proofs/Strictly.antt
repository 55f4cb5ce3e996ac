-- The strict operators are their definitions', case by case.
use Prim.Native.Nat.{ℕ, ◌+◌, ◌-◌}
use mathlib.Core.Path.{◌≡◌, refl, sym, ap, ◌∙◌, subst}
use mathlib.Core.Bool.{Bool, true, false}
use mathlib.Core.List.{List, ◌∷◌, ◌++◌}
use mathlib.Core.Option.{Option, none, some}
use Rattle.word.specs.Choice.{pick}
use Rattle.processor.specs.declared.Alu.{Alu}
use Rattle.processor.specs.declared.Alu.TheVariants.{Add}
use Rattle.processor.specs.declared.Cond.{Cond}
use Rattle.processor.specs.declared.Cond.TheVariants.{Ne}
use Rattle.processor.specs.declared.Instr.TheVariants.{Branch, Jal, Op, OpImm}
use Rattle.language.specs.Tree.{Strict}
use Rattle.symbolic.specs.Symbolic.{Reg, number, x0, branch, jump, call, op, opi}
use Rattle.symbolic.specs.Real.{distance}
use Rattle.codegen.specs.Places as P
use Rattle.codegen.specs.Places.{short, source, fetch, target, keep}
use Rattle.codegen.specs.Operators as O
use Rattle.codegen.specs.Operators.{stub, working, immediate, operating, operating_by}
use Rattle.emission.specs.declared.Work.{Work}
use Rattle.emission.specs.declared.Work.TheVariants.{Plain, Divided, Tested}
use Rattle.codegen.specs.Expressions.{deciding_by}
use Rattle.emission.specs.Tape.{Puts, Emits}
use Rattle.emission.specs.Macros.{worked, EmitsFor, EmitsOne, EmitsAny}
use Rattle.emission.proofs.Laws.{one, after}
use Rattle.emission.proofs.Skips.{registers}

abbrev with_it : Alu → ℕ → Option (Alu × ℕ)
with_it o n = some (o, n)

pub is_short : (o : Alu) (n : ℕ) → short n ≡ true → with_it o n ≡ pick (short n) (with_it o n) none
is_short o n e = ap (λ (b : Bool). pick b (with_it o n) none) (sym e)

pub is_long : (o : Alu) (n : ℕ) → short n ≡ false → none ≡ pick (short n) (with_it o n) none
is_long o n e = ap (λ (b : Bool). pick b (with_it o n) none) (sym e)

ops : {o : Alu} {t m n a b c : ℕ} → t ≡ a → m ≡ b → n ≡ c → Op o t m n ≡ Op o a b c
ops {o} {t} {m} {n} {a} {b} {c} f g h = ap (λ (z : ℕ). Op o z m n) f ∙ ap (λ (z : ℕ). Op o a z n) g ∙ ap (λ (z : ℕ). Op o a b z) h

pub plain_laid : (d : ℕ) {o : Alu} {t m n at r₁ r₂ : ℕ} {ws ws₁ ws₂ : List ℕ} → t ≡ number (target d) → Emits (keep d) at ws ws₁ r₁ → Puts (Op o t m n) r₁ ws₁ ws₂ r₂ →
    EmitsFor (λ p q. op o (target d) p q ∷ keep d) m n at ws ws₂ r₂
plain_laid d {o} {t} {m} {n} et e h = record { each = λ (p q : Reg) (f : number p ≡ m) (g : number q ≡ n). one e (ops (sym et) f g) h }

pub divided_laid : (d : ℕ) {o : Alu} {b c m n at r₁ r₂ r₃ : ℕ} {ws ws₁ ws₂ ws₃ : List ℕ} → EmitsFor (λ p q. op o (target d) p q ∷ keep d) m n at ws ws₁ r₁ →
    b ≡ distance (r₁ - 1) 6 → Puts (Jal 1 b) r₁ ws₁ ws₂ r₂ → c ≡ distance (r₂ - 1) (r₂ - 1 + 2) → Puts (Branch Ne n 0 c) r₂ ws₂ ws₃ r₃ →
    EmitsFor (λ p q. branch Ne q x0 2 ∷ call (stub 1) ∷ op o (target d) p q ∷ keep d) m n at ws ws₃ r₃
divided_laid d {o} {b} {c} {m} {n} e eb hb ec hc = record {
  each = λ (p q : Reg) (f : number p ≡ m) (g : number q ≡ n).
      one (one (e.each p q f g) (ap (λ (z : ℕ). Jal 1 z) (sym eb)) hb) (registers g refl (sym ec)) hc;
}

pub tested_laid : (d : ℕ) {c : Cond} {t b k m n at r₁ r₂ r₃ r₄ r₅ : ℕ} {ws ws₁ ws₂ ws₃ ws₄ ws₅ : List ℕ} → t ≡ number (target d) → Emits (keep d) at ws ws₁ r₁ →
    Puts (OpImm Add t 0 1) r₁ ws₁ ws₂ r₂ → b ≡ distance (r₂ - 1) (r₂ - 1 + 2) → Puts (Jal 0 b) r₂ ws₂ ws₃ r₃ → Puts (OpImm Add t 0 0) r₃ ws₃ ws₄ r₄ →
    k ≡ distance (r₄ - 1) (r₄ - 1 + 3) → Puts (Branch c m n k) r₄ ws₄ ws₅ r₅ →
    EmitsFor (λ p q. branch c p q 3 ∷ opi Add (target d) x0 0 ∷ jump 2 ∷ opi Add (target d) x0 1 ∷ keep d) m n at ws ws₅ r₅
tested_laid d {c} {t} {b} {k} {m} {n} et e h₁ eb h₂ h₃ ek h₄ = record {
  each = λ (p q : Reg) (f : number p ≡ m) (g : number q ≡ n).
      one
      (one (one (one e (ap (λ (z : ℕ). OpImm Add z 0 1) (sym et)) h₁) (ap (λ (z : ℕ). Jal 0 z) (sym eb)) h₂) (ap (λ (z : ℕ). OpImm Add z 0 0) (sym et)) h₃)
      (registers f g (sym ek)) h₄;
}

-- The kind of work, with its sides exchanged or not

module _ (W : O.Work) (d : ℕ) {w : Work} {m n at r : ℕ} {ws ws' : List ℕ} (is : worked w ≡ W) where
  pub works_plain : {a : Alu} {t : Bool} → w ≡ Plain a t → t ≡ false → EmitsFor (λ p q. op a (target d) p q ∷ keep d) m n at ws ws' r →
      EmitsFor (λ p q. working W p q d) m n at ws ws' r
  works_plain {a} {t} e et h = record {
    each = λ (p q : Reg) (f : number p ≡ m) (g : number q ≡ n).
        subst (λ (x : O.Work). Emits (working x p q d) at ws ws' r) (ap (O.plain a) (sym et) ∙ ap worked (sym e) ∙ is) (h.each p q f g);
  }

  pub works_turned : {a : Alu} {t : Bool} → w ≡ Plain a t → t ≡ true → EmitsFor (λ p q. op a (target d) p q ∷ keep d) n m at ws ws' r →
      EmitsFor (λ p q. working W p q d) m n at ws ws' r
  works_turned {a} {t} e et h = record {
    each = λ (p q : Reg) (f : number p ≡ m) (g : number q ≡ n).
        subst (λ (x : O.Work). Emits (working x p q d) at ws ws' r) (ap (O.plain a) (sym et) ∙ ap worked (sym e) ∙ is) (h.each q p g f);
  }

  pub works_divided : {a : Alu} → w ≡ Divided a → EmitsFor (λ p q. branch Ne q x0 2 ∷ call (stub 1) ∷ op a (target d) p q ∷ keep d) m n at ws ws' r →
      EmitsFor (λ p q. working W p q d) m n at ws ws' r
  works_divided {a} e h = record {
    each = λ (p q : Reg) (f : number p ≡ m) (g : number q ≡ n).
        subst (λ (x : O.Work). Emits (working x p q d) at ws ws' r) (ap worked (sym e) ∙ is) (h.each p q f g);
  }

  pub works_tested : {c : Cond} {t : Bool} → w ≡ Tested c t → t ≡ false →
      EmitsFor (λ p q. branch c p q 3 ∷ opi Add (target d) x0 0 ∷ jump 2 ∷ opi Add (target d) x0 1 ∷ keep d) m n at ws ws' r →
      EmitsFor (λ p q. working W p q d) m n at ws ws' r
  works_tested {c} {t} e et h = record {
    each = λ (p q : Reg) (f : number p ≡ m) (g : number q ≡ n).
        subst (λ (x : O.Work). Emits (working x p q d) at ws ws' r) (ap (O.tested c) (sym et) ∙ ap worked (sym e) ∙ is) (h.each p q f g);
  }

  pub works_tested_turned : {c : Cond} {t : Bool} → w ≡ Tested c t → t ≡ true →
      EmitsFor (λ p q. branch c p q 3 ∷ opi Add (target d) x0 0 ∷ jump 2 ∷ opi Add (target d) x0 1 ∷ keep d) n m at ws ws' r →
      EmitsFor (λ p q. working W p q d) m n at ws ws' r
  works_tested_turned {c} {t} e et h = record {
    each = λ (p q : Reg) (f : number p ≡ m) (g : number q ≡ n).
        subst (λ (x : O.Work). Emits (working x p q d) at ws ws' r) (ap (O.tested c) (sym et) ∙ ap worked (sym e) ∙ is) (h.each q p g f);
  }

-- By an immediate or not

module _ (s : Strict) (p q : P.Place) (d : ℕ) {at : ℕ} {ws : List ℕ} where
  pub operates_with : (a : Alu) (n : ℕ) {t u r : ℕ} {ws' : List ℕ} → some (a, n) ≡ immediate s q → t ≡ number (target d) → u ≡ number (source p 0) →
      EmitsOne (λ x. fetch p 0 ++ (x ∷ keep d)) (OpImm a t u n) at ws ws' r → Emits (operating s p q d) at ws ws' r
  operates_with a n {t} {u} {r} {ws'} is et eu h =
      subst (λ (x : Option (Alu × ℕ)). Emits (operating_by x s p q d) at ws ws' r) is
      (h.each (opi a (target d) (source p 0) n) (λ (k : ℕ). ap (λ (z : ℕ). OpImm a z (number (source p 0)) n) (sym et) ∙ ap (λ (z : ℕ). OpImm a t z n) (sym eu)))

  pub operates : {u v r₁ r₂ r₃ : ℕ} {ws₁ ws₂ ws₃ : List ℕ} → none ≡ immediate s q → u ≡ number (source p 0) → v ≡ number (source q 1) →
      EmitsFor (λ x y. working (O.work s) x y d) u v at ws ws₁ r₁ → Emits (fetch q 1) r₁ ws₁ ws₂ r₂ → Emits (fetch p 0) r₂ ws₂ ws₃ r₃ →
      Emits (operating s p q d) at ws ws₃ r₃
  operates {u} {v} {r₁} {r₂} {r₃} {ws₁} {ws₂} {ws₃} is eu ev h f g =
      subst (λ (x : Option (Alu × ℕ)). Emits (operating_by x s p q d) at ws ws₃ r₃) is
      (after (after (h.each (source p 0) (source q 1) (sym eu) (sym ev)) f) g)

-- As a condition

module _ (near t : Bool) (s : Strict) (p q : P.Place) (d k : ℕ) {at : ℕ} {ws : List ℕ} where
  pub decides_one : (x : Cond × Bool) {r : ℕ} {ws' : List ℕ} → some x ≡ O.relation s → Emits (O.comparing near t x.0 x.1 p q k) at ws ws' r →
      EmitsAny (λ entry. deciding_by entry near (O.relation s) t s p q d k) at ws ws' r
  decides_one (c, turned) {r} {ws'} is h = record {
    each = λ (entry : ℕ → ℕ). subst (λ (z : Option (Cond × Bool)). Emits (deciding_by entry near z t s p q d k) at ws ws' r) is h;
  }

  pub decides : {r₁ r₂ : ℕ} {ws₁ ws₂ : List ℕ} → none ≡ O.relation s → Emits (O.testing near t (P.temporary d) k) at ws ws₁ r₁ → Emits (operating s p q d) r₁ ws₁ ws₂ r₂ →
      EmitsAny (λ entry. deciding_by entry near (O.relation s) t s p q d k) at ws ws₂ r₂
  decides {r₁} {r₂} {ws₁} {ws₂} is h f = record {
    each = λ (entry : ℕ → ℕ). subst (λ (z : Option (Cond × Bool)). Emits (deciding_by entry near z t s p q d k) at ws ws₂ r₂) is (after h f);
  }
