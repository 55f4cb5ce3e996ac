-- The code of a condition, item by item from its end: what is left to emit gives, behind what was emitted, the whole.
use Prim.Native.Nat.{ℕ, ◌+◌, ◌-◌, ◌*◌, ◌≤◌, ◌<◌}
use native.Mathlib.Omega.{arith}
use mathlib.Core.Path.{◌≡◌, refl, sym, ap, ◌∙◌, subst, subst⁻¹}
use mathlib.Core.Bool.{Bool, true, false}
use mathlib.Core.Bool as B
use mathlib.Core.List.{List, ◌++◌, append_assoc}
use mathlib.Core.Option.{Option, none, some}
use lib.Dec.{eqb}
use lib.ListN.{length}
use borrow.Author.Tests.{eqb-true, eq-eqb}
use Rattle.word.specs.Choice.{pick, both}
use Rattle.processor.specs.declared.Cond.{Cond}
use Rattle.processor.specs.declared.Cond.TheVariants.{Ne}
use Rattle.language.specs.Tree.{Unary, Strict, eq, ne, lt, le, gt, ge, add, sub, mul, div, rem}
use Rattle.language.specs.Tree as T
use Rattle.language.specs.Core.{Expr}
use Rattle.language.specs.Core as C
use Rattle.flat.specs.Words.{word, unary_number, strict_number}
use Rattle.symbolic.specs.Symbolic.{Instruction, answer, x0}
use Rattle.codegen.specs.Places.{Place, temporary, above}
use Rattle.codegen.specs.Operators.{skip, sense, operating, applying, result, relation, comparing, testing, always, reading}
use Rattle.codegen.specs.Expressions.{place_of, places_of, code, codes, condition, calling, deciding_by}
use Rattle.emission.specs.Tape.{Emits}
use Rattle.emission.proofs.Laws.{after, after_if}
use Rattle.compiler.specs.Lies.{first, Lies}
use Rattle.compiler.specs.Lies as L
use Rattle.compiler.specs.Post.{Starts, PlaceAt, SidesAt, RelationAt, Compares, entry_in, Values, Conditions, Calls, agree, strict_of_number}
use Rattle.compiler.proofs.Views.{NumberAt, CallAt, UnaryAt, StrictAt, JoinAt, joining, is_number, is_call, is_unary, is_strict, is_join, ends, starts}
use Rattle.compiler.proofs.Valuing.{next_room, room_small, other_is, broken}

-- of a condition that is to be put before `at`, `part` is left, to be put before `at'`
pub record Heading (ws es : List ℕ) (near : Bool) (d : ℕ) (e : Expr) (t : Bool) (i at to : ℕ) (us : List ℕ) (t' : Bool) (j at' to' : ℕ) (us' : List ℕ) : Type 0 where
  pub part : Expr
  pub lies : Lies ws part i j
  pub whole : (us'' : List ℕ) (r : ℕ) → Emits (condition (entry_in es) near part t' d (to' - at')) at' us' us'' r → Emits (condition (entry_in es) near e t d (to - at)) at us us'' r

pub record Heads (ws es : List ℕ) (near : Bool) (d : ℕ) (t : Bool) (j₀ at to : ℕ) (us : List ℕ) (t' : Bool) (j at' to' : ℕ) (us' : List ℕ) : Type 0 where
  pub each : (e : Expr) (i : ℕ) → Lies ws e i j₀ → 4 * d ≤ i → Heading ws es near d e t i at to us t' j at' to' us'

module _ {ws es : List ℕ} {near : Bool} {d : ℕ} {t : Bool} {j₀ at to : ℕ} {us : List ℕ} where
  pub heads_start : Heads ws es near d t j₀ at to us t j₀ at to us
  heads_start = record { each = λ (e : Expr) (i : ℕ) (l : Lies ws e i j₀) (h : 4 * d ≤ i). record { part = e; lies = l; whole = λ us'' r x. x } }

  module _ {t₁ : Bool} {j at₁ to₁ : ℕ} {us₁ : List ℕ} where
    -- a step further
    pub heads_on : {t₂ : Bool} {k at₂ to₂ : ℕ} {us₂ : List ℕ} → Heads ws es near d t j₀ at to us t₁ j at₁ to₁ us₁ → Heads ws es near d t₁ j at₁ to₁ us₁ t₂ k at₂ to₂ us₂ →
        Heads ws es near d t j₀ at to us t₂ k at₂ to₂ us₂
    heads_on {t₂} {k} {at₂} {to₂} {us₂} s g = record { each = λ (e : Expr) (i : ℕ) (l : Lies ws e i j₀) (h : 4 * d ≤ i). by h (s.each e i l h) }
      where
        onto : {e : Expr} {i : ℕ} (x : Heading ws es near d e t i at to us t₁ j at₁ to₁ us₁) → Heading ws es near d x.part t₁ i at₁ to₁ us₁ t₂ k at₂ to₂ us₂ →
            Heading ws es near d e t i at to us t₂ k at₂ to₂ us₂
        onto x y = record {
          part = y.part;
          lies = y.lies;
          whole = λ (us'' : List ℕ) (r : ℕ) (z : Emits (condition (entry_in es) near y.part t₂ d (to₂ - at₂)) at₂ us₂ us'' r). x.whole us'' r (y.whole us'' r z);
        }

        by : {e : Expr} {i : ℕ} → 4 * d ≤ i → Heading ws es near d e t i at to us t₁ j at₁ to₁ us₁ → Heading ws es near d e t i at to us t₂ k at₂ to₂ us₂
        by {e} {i} h x = onto x (g.each x.part i x.lies h)

    -- and the end
    pub heads_to : {r : ℕ} {us₂ : List ℕ} → Heads ws es near d t j₀ at to us t₁ j at₁ to₁ us₁ → Conditions ws es near t₁ j d at₁ to₁ us₁ us₂ r → Conditions ws es near t j₀ d at to us us₂ r
    heads_to {r} {us₂} s g = record { each = λ (e : Expr) (i : ℕ) (l : Lies ws e i j₀) (h : 4 * d ≤ i). by h (s.each e i l h) }
      where
        by : {e : Expr} {i : ℕ} → 4 * d ≤ i → Heading ws es near d e t i at to us t₁ j at₁ to₁ us₁ → Emits (condition (entry_in es) near e t d (to - at)) at us us₂ r
        by {e} {i} h x = x.whole us₂ r (g.each x.part i x.lies h)

-- `!`

not_is : (o : Unary) → unary_number o ≡ 1 → o ≡ T.not
unfolding unary_number
not_is T.negate h = absurd (omega arith)
not_is T.not h = refl

pub heads_not : (ws es : List ℕ) (near : Bool) (d : ℕ) (t : Bool) (j at to : ℕ) (us : List ℕ) → word ws (j - 4) ≡ 4 → first ws j ≡ 1 → Heads ws es near d t j at to us (B.not t) (j - 4) at to us
unfolding condition
heads_not ws es near d t j at to us k n = record { each = λ (e : Expr) (i : ℕ) (l : Lies ws e i j) (h : 4 * d ≤ i). by (is_unary l k) }
  where
    by : {e : Expr} {i : ℕ} → UnaryAt ws i j e → Heading ws es near d e t i at to us (B.not t) (j - 4) at to us
    by {e} {i} v = record {
      part = v.a;
      lies = v.operand;
      whole = λ (us'' : List ℕ) (r : ℕ) (z : Emits (condition (entry_in es) near v.a (B.not t) d (to - at)) at us us'' r).
          subst⁻¹ (λ (x : Expr). Emits (condition (entry_in es) near x t d (to - at)) at us us'' r) (v.is ∙ ap (λ (o : Unary). C.unary o v.a) (not_is v.o (sym v.operator ∙ n))) z;
    }

clash : false ≡ true → ◌≡◌ {A = ℕ} 0 1
clash h = cc

-- `&&` and `||`

module _ (entry : ℕ → ℕ) (near : Bool) (a b : Expr) (d k : ℕ) where
  same_length : (t o : Bool) (n m : ℕ) → n ≡ m → condition entry near a o d n ++ condition entry near b t d k ≡ condition entry near a o d m ++ condition entry near b t d k
  same_length t o n m e = ap (λ (x : ℕ). condition entry near a o d x ++ condition entry near b t d k) e

  joining_condition : (t o : Bool) → condition entry near (joining o a b) t d k ≡
      condition entry near a o d (length (condition entry near b t d k) + pick (agree t o) k 0) ++ condition entry near b t d k
  unfolding condition joining
  joining_condition true true = refl
  joining_condition true false = same_length true false (length (condition entry near b true d k)) (length (condition entry near b true d k) + 0) (omega arith)
  joining_condition false true = same_length false true (length (condition entry near b false d k)) (length (condition entry near b false d k) + 0) (omega arith)
  joining_condition false false = refl

aims : (b : Bool) (n at to r : ℕ) → at ≤ to → n ≤ at → r ≡ at - n → pick b to at - r ≡ n + pick b (to - at) 0
aims true n at to r h l e = omega arith
aims false n at to r h l e = omega arith

pub heads_join : (ws es : List ℕ) (near : Bool) (d : ℕ) (t : Bool) (j mid at to : ℕ) (us : List ℕ) {us₁ : List ℕ} {o : Bool} {r₁ : ℕ} → at ≤ to → word ws (j - 4) ≡ 8 → Starts ws (j - 4) mid →
    o ≡ eqb (word ws (mid - 4)) 7 → Conditions ws es near t (j - 4) d at to us us₁ r₁ → Heads ws es near d t j at to us o (mid - 4) r₁ (pick (agree t o) to at) us₁
heads_join ws es near d t j mid at to us {us₁} {o} {r₁} ahead k st eo c = record { each = λ (e : Expr) (i : ℕ) (l : Lies ws e i j) (h : 4 * d ≤ i). by h (is_join l k) }
  where
    sided : (a b : Expr) {i : ℕ} → 4 * d ≤ i → Lies ws a i (mid - 4) → Lies ws b mid (j - 4) → 4 ≤ mid → Heading ws es near d (joining o a b) t i at to us o (mid - 4) r₁ (pick (agree t o) to at) us₁
    sided a b {i} h la lb e = record {
      part = a;
      lies = la;
      whole = λ (us'' : List ℕ) (r : ℕ) (z : Emits (condition (entry_in es) near a o d (pick (agree t o) to at - r₁)) r₁ us₁ us'' r).
          subst⁻¹ (λ (x : List Instruction). Emits x at us us'' r) (joining_condition (entry_in es) near a b d (to - at) t o)
          (after_if (c.each b mid lb (omega (arith, starts la))) (omega (arith, z.position)) (λ (g : length (condition (entry_in es) near b t d (to - at)) ≤ at).
          subst (λ (n : ℕ). Emits (condition (entry_in es) near a o d n) r₁ us₁ us'' r)
          (aims (agree t o) (length (condition (entry_in es) near b t d (to - at))) at to r₁ ahead g (c.each b mid lb (omega (arith, starts la))).position) z));
    }

    by : {e : Expr} {i : ℕ} → 4 * d ≤ i → JoinAt ws i j e → Heading ws es near d e t i at to us o (mid - 4) r₁ (pick (agree t o) to at) us₁
    by {i = i} h w =
        let f : mid ≡ w.middle = st.each w.b w.middle w.right in
        subst⁻¹ (λ (x : Expr). Heading ws es near d x t i at to us o (mid - 4) r₁ (pick (agree t o) to at) us₁) (w.is ∙ ap (λ (x : Bool). joining x w.a w.b) (sym (eo ∙ other_is ws mid w f)))
        (sided w.a w.b h (subst⁻¹ (λ (m : ℕ). Lies ws w.a i (m - 4)) f w.left) (subst⁻¹ (λ (m : ℕ). Lies ws w.b m (j - 4)) f w.right) (omega (arith, f, w.between.enough)))

pub heads_aimed : {ws es : List ℕ} {near : Bool} {d : ℕ} {t : Bool} {j₀ at to : ℕ} {us : List ℕ} {t' : Bool} {j at' g h : ℕ} {us' : List ℕ} → g ≡ h → Heads ws es near d t j₀ at to us t' j at' h us' →
    Heads ws es near d t j₀ at to us t' j at' g us'
heads_aimed {ws} {es} {near} {d} {t} {j₀} {at} {to} {us} {t'} {j} {at'} {us' = us'} e s = subst⁻¹ (λ (k : ℕ). Heads ws es near d t j₀ at to us t' j at' k us') e s

-- it is ahead of what is put next, and no further than before
pub aimed : (b : Bool) {at to r g : ℕ} → at ≤ to → r ≤ at → g ≡ pick b to at → (r ≤ g) × (g ≤ to)
aimed true h l e = (omega arith, omega arith)
aimed false h l e = (omega arith, omega arith)

pub condition_broken : (ws es : List ℕ) (near t : Bool) (d j mid at to : ℕ) {us : List ℕ} → word ws (j - 4) ≡ 8 → Starts ws (j - 4) mid → mid < 4 → Conditions ws es near t j d at to us us at
condition_broken ws es near t d j mid at to k st h = record { each = λ (e : Expr) (i : ℕ) (l : Lies ws e i j) (b : 4 * d ≤ i). broken l k st h }

-- `!` is known by two words

pub are_both : (x y : ℕ) → both (eqb x 4) (eqb y 1) ≡ true → (x ≡ 4) × (y ≡ 1)
are_both x y h = by (eqb x 4) (eqb y 1) h refl refl
  where
    by : (a b : Bool) → both a b ≡ true → eqb x 4 ≡ a → eqb y 1 ≡ b → (x ≡ 4) × (y ≡ 1)
    by true true h e f = (eqb-true x 4 e, eqb-true y 1 f)
    by true false h e f = let z : ◌≡◌ {A = ℕ} 0 1 = clash h in absurd (omega arith)
    by false b h e f = let z : ◌≡◌ {A = ℕ} 0 1 = clash h in absurd (omega arith)

pub not_both : (x y : ℕ) → both (eqb x 4) (eqb y 1) ≡ false → x ≡ 4 → y ≡ 1 → ⊥
not_both x y h e f = let z : ◌≡◌ {A = ℕ} 0 1 = clash (sym h ∙ ap (λ (b : Bool). both b (eqb y 1)) (eq-eqb x 4 e) ∙ eq-eqb y 1 f) in omega arith

-- Everything else

pub strict_back : (o : Strict) → strict_of_number (strict_number o) ≡ o
unfolding strict_of_number strict_number
strict_back eq = refl
strict_back ne = refl
strict_back lt = refl
strict_back le = refl
strict_back gt = refl
strict_back ge = refl
strict_back add = refl
strict_back sub = refl
strict_back mul = refl
strict_back div = refl
strict_back rem = refl

pub condition_nowhere : (ws es : List ℕ) (near t : Bool) (d j at to : ℕ) {us : List ℕ} → j < 4 → Conditions ws es near t j d at to us us at
condition_nowhere ws es near t d j at to h = record { each = λ (x : Expr) (i : ℕ) (l : Lies ws x i j) (b : 4 * d ≤ i). absurd (omega (arith, ends l)) }

module _ (ws es : List ℕ) (near t : Bool) (d j at to : ℕ) {us us₁ : List ℕ} {r₁ : ℕ} where
  pub condition_number : {n : ℕ} → word ws (j - 4) ≡ 0 → n ≡ first ws j → Emits (always t n (to - at)) at us us₁ r₁ → Conditions ws es near t j d at to us us₁ r₁
  unfolding condition
  condition_number {n} k f s = record { each = λ (e : Expr) (i : ℕ) (l : Lies ws e i j) (h : 4 * d ≤ i). by (is_number l k) }
    where
      by : {e : Expr} {i : ℕ} → NumberAt ws i j e → Emits (condition (entry_in es) near e t d (to - at)) at us us₁ r₁
      by v = subst⁻¹ (λ (x : Expr). Emits (condition (entry_in es) near x t d (to - at)) at us us₁ r₁) v.is (subst (λ (m : ℕ). Emits (always t m (to - at)) at us us₁ r₁) f s)

  pub condition_call : {us₂ : List ℕ} {r₂ : ℕ} → word ws (j - 4) ≡ 3 → Emits (skip near (sense t Ne) answer x0 (to - at)) at us us₁ r₁ → Calls ws es near j d r₁ us₁ us₂ r₂ →
      Conditions ws es near t j d at to us us₂ r₂
  unfolding condition
  condition_call {us₂} {r₂} k s c = record { each = λ (e : Expr) (i : ℕ) (l : Lies ws e i j) (h : 4 * d ≤ i). by h (is_call l k) }
    where
      by : {e : Expr} {i : ℕ} → 4 * d ≤ i → CallAt ws i j e → Emits (condition (entry_in es) near e t d (to - at)) at us us₂ r₂
      by {i = i} h v =
          subst⁻¹ (λ (x : Expr). Emits (condition (entry_in es) near x t d (to - at)) at us us₂ r₂) v.is
          (subst (λ (x : List Instruction). Emits x at us us₂ r₂)
          (append_assoc (codes (entry_in es) near v.xs d) (calling (entry_in es (first ws j)) (places_of v.xs d) d) (skip near (sense t Ne) answer x0 (to - at)))
          (after s (c.each v.xs i v.arguments v.many h)))

  pub condition_compare : {middle next r₂ r₃ : ℕ} {us₂ us₃ : List ℕ} {c : Cond} {turned : Bool} {s : Option (Cond × Bool)} → j ≤ 1073741824 → RelationAt ws j s → s ≡ some (c, turned) →
      SidesAt ws (j - 4) d middle next → Compares ws near t c turned j middle next d at to us us₁ r₁ → Values ws es near (j - 4) next r₁ us₁ us₂ r₂ → Values ws es near middle d r₂ us₂ us₃ r₃ →
      Conditions ws es near t j d at to us us₃ r₃
  unfolding condition
  condition_compare {middle} {next} {r₂} {r₃} {us₂} {us₃} {c} {turned} {s} small re es' sides g vb va =
      record { each = λ (e : Expr) (i : ℕ) (l : Lies ws e i j) (h : 4 * d ≤ i). by h (room_small l h small) (is_strict l (re.only c turned es')) }
    where
      related : (o : Strict) → first ws j ≡ strict_number o → relation o ≡ some (c, turned)
      related o n = ap relation (sym (ap strict_of_number n ∙ strict_back o)) ∙ sym (re.strict (re.only c turned es')) ∙ es'

      sided : (o : Strict) (a b : Expr) {i : ℕ} → 4 * d ≤ i → relation o ≡ some (c, turned) → next ≡ above (place_of a d) d → Lies ws a i middle → Lies ws b middle (j - 4) →
          Emits (condition (entry_in es) near (C.strict o a b) t d (to - at)) at us us₃ r₃
      sided o a b {i} h ro e la lb =
          subst⁻¹ (λ (x : Option (Cond × Bool)). Emits (code (entry_in es) near a d ++ (code (entry_in es) near b (above (place_of a d) d) ++ deciding_by (entry_in es) near x t o (place_of a d) (place_of b (above (place_of a d) d)) d (to - at))) at us us₃ r₃) ro
          (subst (λ (x : ℕ). Emits (code (entry_in es) near a d ++ (code (entry_in es) near b x ++ comparing near t c turned (place_of a d) (place_of b x) (to - at))) at us us₃ r₃) e
          (after (after (g.each a b i la lb) (vb.each b middle lb (omega (arith, e, next_room a d la h)))) (va.each a i la h)))

      by : {e : Expr} {i : ℕ} → 4 * d ≤ i → d < 4294967295 → StrictAt ws i j e → Emits (condition (entry_in es) near e t d (to - at)) at us us₃ r₃
      by {e} {i} h small v =
          let f : (middle ≡ v.middle) × (next ≡ above (place_of v.a d) d) = sides.each v.a v.b i v.middle v.left v.right small in
          subst⁻¹ (λ (x : Expr). Emits (condition (entry_in es) near x t d (to - at)) at us us₃ r₃) v.is
          (sided v.o v.a v.b h (related v.o v.operator) f.1 (subst⁻¹ (λ (m : ℕ). Lies ws v.a i m) f.0 v.left) (subst⁻¹ (λ (m : ℕ). Lies ws v.b m (j - 4)) f.0 v.right))

  -- a value, and a test of it
  pub condition_value : {us₂ : List ℕ} {r₂ : ℕ} {p : Place} {s : Option (Cond × Bool)} → (word ws (j - 4) ≡ 0 → ⊥) → (word ws (j - 4) ≡ 3 → ⊥) → (word ws (j - 4) ≡ 8 → ⊥) →
      (word ws (j - 4) ≡ 4 → first ws j ≡ 1 → ⊥) → RelationAt ws j s → s ≡ none → PlaceAt ws j d p → Emits (testing near t p (to - at)) at us us₁ r₁ → Values ws es near j d r₁ us₁ us₂ r₂ →
      Conditions ws es near t j d at to us us₂ r₂
  unfolding condition code place_of
  condition_value {us₂} {r₂} {p} {s} n c o u re en pl g v =
      record { each = λ (e : Expr) (i : ℕ) (l : Lies ws e i j) (h : 4 * d ≤ i). by l (after (subst (λ (q : Place). Emits (testing near t q (to - at)) at us us₁ r₁) (pl.each e i l) g) (v.each e i l h)) }
    where
      associated : (x y z : List Instruction) → Emits ((x ++ y) ++ z) at us us₂ r₂ → Emits (x ++ (y ++ z)) at us us₂ r₂
      associated x y z f = subst (λ (w : List Instruction). Emits w at us us₂ r₂) (append_assoc x y z) f

      related : (o : Strict) → word ws (j - 4) ≡ 5 → first ws j ≡ strict_number o → relation o ≡ none
      related o k n = ap relation (sym (ap strict_of_number n ∙ strict_back o)) ∙ sym (re.strict k) ∙ en

      strictly : (o : Strict) (a b : Expr) → relation o ≡ none → Emits (code (entry_in es) near (C.strict o a b) d ++ testing near t (temporary d) (to - at)) at us us₂ r₂ →
          Emits (condition (entry_in es) near (C.strict o a b) t d (to - at)) at us us₂ r₂
      strictly o a b ro f =
          subst⁻¹ (λ (x : Option (Cond × Bool)). Emits (code (entry_in es) near a d ++ (code (entry_in es) near b (above (place_of a d) d) ++ deciding_by (entry_in es) near x t o (place_of a d) (place_of b (above (place_of a d) d)) d (to - at))) at us us₂ r₂) ro
          (subst (λ (w : List Instruction). Emits (code (entry_in es) near a d ++ w) at us us₂ r₂)
          (append_assoc (code (entry_in es) near b (above (place_of a d) d)) (operating o (place_of a d) (place_of b (above (place_of a d) d)) d) (testing near t (temporary d) (to - at)))
          (associated (code (entry_in es) near a d) (code (entry_in es) near b (above (place_of a d) d) ++ operating o (place_of a d) (place_of b (above (place_of a d) d)) d) (testing near t (temporary d) (to - at)) f))

      negated : (o : Unary) (e : Expr) → (unary_number o ≡ 1 → ⊥) → Emits (code (entry_in es) near (C.unary o e) d ++ testing near t (place_of (C.unary o e) d) (to - at)) at us us₂ r₂ →
          Emits (condition (entry_in es) near (C.unary o e) t d (to - at)) at us us₂ r₂
      negated T.negate e h f = associated (code (entry_in es) near e d) (applying T.negate (place_of e d) d) (testing near t (result T.negate (place_of e d) d) (to - at)) f
      negated T.not e h f = absurd (h (unfold unary_number in refl))

      by : {e : Expr} {i : ℕ} → Lies ws e i j → Emits (code (entry_in es) near e d ++ testing near t (place_of e d) (to - at)) at us us₂ r₂ → Emits (condition (entry_in es) near e t d (to - at)) at us us₂ r₂
      by (L.number k p q) f = absurd (n k.kind)
      by (L.local k p q) f = f
      by (L.element {a} {e} k p q l) f = associated (code (entry_in es) near e d) (reading a (place_of e d) d) (testing near t (temporary d) (to - at)) f
      by (L.call k p q l) f = absurd (c k.kind)
      by (L.unary {o} {e} k p l) f = negated o e (λ (h : unary_number o ≡ 1). u k.kind (p ∙ h)) f
      by (L.strict {o} {a} {b} k p l r) f = strictly o a b (related o k.kind p) f
      by (L.and k l p r) f = absurd (o k.kind)
      by (L.or k l p r) f = absurd (o k.kind)
