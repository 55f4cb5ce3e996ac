-- Elements are their definitions', where the index is known to be inside and where it is tested.
use Prim.Native.Nat.{ℕ, ◌+◌, ◌-◌}
use mathlib.Core.Path.{◌≡◌, refl, sym, ap, ◌∙◌, subst}
use mathlib.Core.Bool.{Bool, true, false}
use mathlib.Core.List.{List}
use lib.Dec.{ltb}
use Rattle.word.specs.Choice.{pick}
use Rattle.processor.specs.declared.Alu.TheVariants.{Add, Sll}
use Rattle.processor.specs.declared.Cond.TheVariants.{Ltu}
use Rattle.processor.specs.declared.Width.TheVariants.{Word}
use Rattle.processor.specs.declared.Instr.TheVariants.{Lui, Jal, Branch, Load, Store, Shift, Op}
use Rattle.language.specs.Core.{Array}
use Rattle.symbolic.specs.Symbolic.{number, scratch}
use Rattle.symbolic.specs.Real.{distance}
use Rattle.codegen.specs.Places as P
use Rattle.codegen.specs.Places.{upper_of, lower_of, constant_to, source, fetch, target, keep}
use Rattle.codegen.specs.Operators.{address, inside, index, indexed, locate, locate_by, offset, reading, writing}
use Rattle.emission.specs.declared.Place.{Place}
use Rattle.emission.specs.declared.Place.TheVariants as At
use Rattle.emission.specs.Tape.{Puts, Emits}
use Rattle.emission.specs.Macros.{placed, array, EmitsAt}
use Rattle.emission.proofs.Laws.{one, last, after}

module _ (s o : ℕ) {p : Place} where
  pub inside_constant : {n : ℕ} → p ≡ At.Constant n → ltb n s ≡ inside (array o s) (placed p)
  inside_constant e = ap (λ (q : Place). inside (array o s) (placed q)) (sym e)

  pub inside_local : {y : ℕ} → p ≡ At.Local y → false ≡ inside (array o s) (placed p)
  inside_local e = ap (λ (q : Place). inside (array o s) (placed q)) (sym e)

  pub inside_temporary : {d : ℕ} → p ≡ At.Temporary d → false ≡ inside (array o s) (placed p)
  inside_temporary e = ap (λ (q : Place). inside (array o s) (placed q)) (sym e)

module _ (o : ℕ) (p : P.Place) {f u b c at r₁ r₂ r₃ r₄ r₅ : ℕ} {ws ws₁ ws₂ ws₃ ws₄ ws₅ : List ℕ} where
  pub indexes : f ≡ number (source p 0) → u ≡ upper_of (address (array o 0) 0) → Puts (Op Add 4 4 5) at ws ws₁ r₁ → Puts (Lui 5 u) r₁ ws₁ ws₂ r₂ →
      Puts (Shift Sll 4 f 2) r₂ ws₂ ws₃ r₃ → b ≡ distance (r₃ - 1) 9 → Puts (Jal 1 b) r₃ ws₃ ws₄ r₄ → c ≡ distance (r₄ - 1) (r₄ - 1 + 2) →
      Puts (Branch Ltu f 5 c) r₄ ws₄ ws₅ r₅ → Emits (indexed (array o 0) p) at ws ws₅ r₅
  indexes ef eu h₁ h₂ h₃ eb h₄ ec h₅ =
      one (one (one (one (last refl h₁) (ap (λ (x : ℕ). Lui 5 x) (sym eu)) h₂) (ap (λ (x : ℕ). Shift Sll 4 x 2) (sym ef)) h₃) (ap (λ (x : ℕ). Jal 1 x) (sym eb)) h₄)
      (ap (λ (x : ℕ). Branch Ltu x 5 (distance (r₄ - 1) (r₄ - 1 + 2))) (sym ef) ∙ ap (λ (x : ℕ). Branch Ltu f 5 x) (sym ec)) h₅

module _ (o s : ℕ) (p : P.Place) {t : Bool} (known : t ≡ inside (array o s) p) where
  pub locates_inside : {i a u at r : ℕ} {ws ws' : List ℕ} → t ≡ true → i ≡ index p → a ≡ address (array o 0) i → u ≡ upper_of a → Puts (Lui 4 u) at ws ws' r →
      Emits (locate (array o s) p) at ws ws' r
  locates_inside {i} {a} {u} {at} {r} {ws} {ws'} e ei ea eu h =
      subst (λ (b : Bool). Emits (locate_by b (array o s) p) at ws ws' r) (sym e ∙ known)
      (last (ap (λ (x : ℕ). Lui 4 (upper_of (address (array o s) x))) (sym ei) ∙ ap (λ (x : ℕ). Lui 4 (upper_of x)) (sym ea) ∙ ap (λ (x : ℕ). Lui 4 x) (sym eu)) h)

  pub locates : {at r₁ r₂ r₃ : ℕ} {ws ws₁ ws₂ ws₃ : List ℕ} → t ≡ false → Emits (indexed (array o 0) p) at ws ws₁ r₁ →
      EmitsAt (λ q. constant_to q s) 5 r₁ ws₁ ws₂ r₂ → Emits (fetch p 0) r₂ ws₂ ws₃ r₃ → Emits (locate (array o s) p) at ws ws₃ r₃
  locates {at} {r₁} {r₂} {r₃} {ws} {ws₁} {ws₂} {ws₃} e h f g =
      subst (λ (b : Bool). Emits (locate_by b (array o s) p) at ws ws₃ r₃) (sym e ∙ known) (after (after h (f.each (scratch 1) refl)) g)

  pub offset_inside : {i a r : ℕ} → t ≡ true → i ≡ index p → a ≡ address (array o 0) i → r ≡ lower_of a → r ≡ offset (array o s) p
  offset_inside {i} {a} {r} e ei ea er =
      er ∙ ap lower_of ea ∙ ap (λ (x : ℕ). lower_of (address (array o 0) x)) ei
      ∙ ap (λ (b : Bool). lower_of (address (array o s) (pick b (index p) 0))) (sym e ∙ known)

  pub offset_tested : {a r : ℕ} → t ≡ false → a ≡ address (array o 0) 0 → r ≡ lower_of a → r ≡ offset (array o s) p
  offset_tested {a} {r} e ea er =
      er ∙ ap lower_of ea ∙ ap (λ (b : Bool). lower_of (address (array o s) (pick b (index p) 0))) (sym e ∙ known)

module _ (a : Array) (p : P.Place) {l at r₁ r₂ r₃ : ℕ} {ws ws₁ ws₂ ws₃ : List ℕ} (low : l ≡ offset a p) where
  pub reads : (d : ℕ) {t : ℕ} → t ≡ number (target d) → Emits (keep d) at ws ws₁ r₁ → Puts (Load Word t 4 l) r₁ ws₁ ws₂ r₂ → Emits (locate a p) r₂ ws₂ ws₃ r₃ →
      Emits (reading a p d) at ws ws₃ r₃
  reads d {t} et k h f =
      after (one k (ap (λ (x : ℕ). Load Word x 4 (offset a p)) (sym et) ∙ ap (λ (x : ℕ). Load Word t 4 x) (sym low)) h) f

  pub writes : (v : P.Place) {f : ℕ} → f ≡ number (source v 1) → Puts (Store Word 4 f l) at ws ws₁ r₁ → Emits (fetch v 1) r₁ ws₁ ws₂ r₂ →
      Emits (locate a p) r₂ ws₂ ws₃ r₃ → Emits (writing a p v) at ws ws₃ r₃
  writes v {f} ef h g k =
      after (after (last (ap (λ (x : ℕ). Store Word 4 x (offset a p)) (sym ef) ∙ ap (λ (x : ℕ). Store Word 4 f x) (sym low)) h) g) k
