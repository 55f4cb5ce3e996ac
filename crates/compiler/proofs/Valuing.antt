-- The code of a value, item by item from its end: what is left to emit gives, behind what was emitted, the whole.
use Prim.Native.Nat.{ℕ, suc, ◌-◌, ◌*◌, ◌≤◌, ◌<◌}
use native.Mathlib.Omega.{arith}
use mathlib.Core.Path.{◌≡◌, refl, ap, ◌∙◌, subst, subst⁻¹}
use mathlib.Core.Bool.{Bool, true, false}
use mathlib.Core.List.{List, [], ◌∷◌, ◌++◌, append_assoc}
use lib.Dec.{eqb}
use lib.ListN.{length, length-append}
use Rattle.std.specs.Int.{from_bool}
use Rattle.word.specs.Choice.{pick}
use Rattle.language.specs.Tree.{Strict}
use Rattle.language.specs.Core.{Expr}
use Rattle.language.specs.Core as C
use Rattle.flat.specs.Words.{word, strict_number}
use Rattle.symbolic.specs.Symbolic.{Instruction, answer, mv, jump}
use Rattle.codegen.specs.Places.{Place, above, target, keep, settle, move}
use Rattle.codegen.specs.Operators.{operating}
use Rattle.codegen.specs.Expressions.{place_of, places_of, code, codes, condition, calling}
use Rattle.emission.specs.Tape.{Emits}
use Rattle.emission.proofs.Laws.{none, after, after_if}
use Rattle.compiler.specs.Lies.{first, Lies, number, local, element, call, unary, strict, and, or}
use Rattle.compiler.specs.Post.{Starts, PlaceAt, SidesAt, Reads, Applies, Operates, entry_in, Values, Conditions, Calls}
use Rattle.compiler.proofs.Views.{ElementAt, CallAt, UnaryAt, StrictAt, JoinAt, joining, is_element, is_call, is_unary, is_strict, is_join, ends, starts}
use Rattle.compiler.proofs.Arguments.{weight_at, weight_small}

-- of expression e, which is to be put before `at`, `part` is left, to be put before `at'`
pub record Leading (ws es : List ℕ) (near : Bool) (d : ℕ) (e : Expr) (i at : ℕ) (us : List ℕ) (j at' : ℕ) (us' : List ℕ) : Type 0 where
  pub part : Expr
  pub lies : Lies ws part i j
  pub whole : (us'' : List ℕ) (r : ℕ) → Emits (code (entry_in es) near part d) at' us' us'' r → Emits (code (entry_in es) near e d) at us us'' r

pub record Leads (ws es : List ℕ) (near : Bool) (d j₀ at : ℕ) (us : List ℕ) (j at' : ℕ) (us' : List ℕ) : Type 0 where
  pub each : (e : Expr) (i : ℕ) → Lies ws e i j₀ → 4 * d ≤ i → Leading ws es near d e i at us j at' us'

-- how many temporaries the right side finds, and that it may
pub next_room : {ws : List ℕ} (a : Expr) {i m : ℕ} (d : ℕ) → Lies ws a i m → 4 * d ≤ i → 4 * above (place_of a d) d ≤ m
next_room a d l h = omega (arith, starts l, weight_at a d, weight_small a)

pub room_small : {ws : List ℕ} {e : Expr} {i j d : ℕ} → Lies ws e i j → 4 * d ≤ i → j ≤ 1073741824 → d < 4294967295
room_small l h s = omega (arith, starts l)

module _ {ws es : List ℕ} {near : Bool} {d j₀ at : ℕ} {us : List ℕ} where
  pub leads_start : Leads ws es near d j₀ at us j₀ at us
  leads_start = record { each = λ (e : Expr) (i : ℕ) (l : Lies ws e i j₀) (h : 4 * d ≤ i). record { part = e; lies = l; whole = λ us'' r x. x } }

  -- a step further
  pub leads_on : {j at₁ k at₂ : ℕ} {us₁ us₂ : List ℕ} → Leads ws es near d j₀ at us j at₁ us₁ → Leads ws es near d j at₁ us₁ k at₂ us₂ → Leads ws es near d j₀ at us k at₂ us₂
  leads_on {j} {at₁} {k} {at₂} {us₁} {us₂} s t = record { each = λ (e : Expr) (i : ℕ) (l : Lies ws e i j₀) (h : 4 * d ≤ i). by h (s.each e i l h) }
    where
      onto : {e : Expr} {i : ℕ} (x : Leading ws es near d e i at us j at₁ us₁) → Leading ws es near d x.part i at₁ us₁ k at₂ us₂ → Leading ws es near d e i at us k at₂ us₂
      onto x y = record { part = y.part; lies = y.lies; whole = λ (us'' : List ℕ) (r : ℕ) (z : Emits (code (entry_in es) near y.part d) at₂ us₂ us'' r). x.whole us'' r (y.whole us'' r z) }

      by : {e : Expr} {i : ℕ} → 4 * d ≤ i → Leading ws es near d e i at us j at₁ us₁ → Leading ws es near d e i at us k at₂ us₂
      by {e} {i} h x = onto x (t.each x.part i x.lies h)

  -- and the end
  pub leads_to : {j at₁ r : ℕ} {us₁ us₂ : List ℕ} → Leads ws es near d j₀ at us j at₁ us₁ → Values ws es near j d at₁ us₁ us₂ r → Values ws es near j₀ d at us us₂ r
  leads_to {j} {at₁} {r} {us₁} {us₂} s t = record { each = λ (e : Expr) (i : ℕ) (l : Lies ws e i j₀) (h : 4 * d ≤ i). by h (s.each e i l h) }
    where
      by : {e : Expr} {i : ℕ} → 4 * d ≤ i → Leading ws es near d e i at us j at₁ us₁ → Emits (code (entry_in es) near e d) at us us₂ r
      by {e} {i} h x = x.whole us₂ r (t.each x.part i x.lies h)

-- Each kind of item

module _ (ws es : List ℕ) (near : Bool) (d j at : ℕ) (us : List ℕ) where
  -- a value that has no code
  pub value_none : (word ws (j - 4) ≡ 2 → ⊥) → (word ws (j - 4) ≡ 3 → ⊥) → (word ws (j - 4) ≡ 4 → ⊥) → (word ws (j - 4) ≡ 5 → ⊥) → (word ws (j - 4) ≡ 8 → ⊥) → Values ws es near j d at us us at
  unfolding code
  value_none e c u s o = record { each = λ (x : Expr) (i : ℕ) (l : Lies ws x i j) (h : 4 * d ≤ i). by l }
    where
      by : {x : Expr} {i : ℕ} → Lies ws x i j → Emits (code (entry_in es) near x d) at us us at
      by (number k p q) = none
      by (local k p q) = none
      by (element k p q l) = absurd (e k.kind)
      by (call k p q l) = absurd (c k.kind)
      by (unary k p l) = absurd (u k.kind)
      by (strict k p l r) = absurd (s k.kind)
      by (and k l p r) = absurd (o k.kind)
      by (or k l p r) = absurd (o k.kind)

  -- no expression ends there
  pub value_nowhere : j < 4 → Values ws es near j d at us us at
  value_nowhere h = record { each = λ (x : Expr) (i : ℕ) (l : Lies ws x i j) (b : 4 * d ≤ i). absurd (omega (arith, ends l)) }

  module _ {us₁ : List ℕ} {r₁ : ℕ} where
    pub leads_element : word ws (j - 4) ≡ 2 → Reads ws j d at us us₁ r₁ → Leads ws es near d j at us (j - 4) r₁ us₁
    unfolding code
    leads_element k s = record { each = λ (e : Expr) (i : ℕ) (l : Lies ws e i j) (h : 4 * d ≤ i). by (is_element l k) }
      where
        by : {e : Expr} {i : ℕ} → ElementAt ws i j e → Leading ws es near d e i at us (j - 4) r₁ us₁
        by {e} {i} v = record {
          part = v.at;
          lies = v.index;
          whole = λ (us'' : List ℕ) (r : ℕ) (z : Emits (code (entry_in es) near v.at d) r₁ us₁ us'' r).
              subst⁻¹ (λ (x : Expr). Emits (code (entry_in es) near x d) at us us'' r) v.is (after (s.each v.at i v.index) z);
        }

    pub leads_unary : word ws (j - 4) ≡ 4 → Applies ws j d at us us₁ r₁ → Leads ws es near d j at us (j - 4) r₁ us₁
    unfolding code
    leads_unary k s = record { each = λ (e : Expr) (i : ℕ) (l : Lies ws e i j) (h : 4 * d ≤ i). by (is_unary l k) }
      where
        by : {e : Expr} {i : ℕ} → UnaryAt ws i j e → Leading ws es near d e i at us (j - 4) r₁ us₁
        by {e} {i} v = record {
          part = v.a;
          lies = v.operand;
          whole = λ (us'' : List ℕ) (r : ℕ) (z : Emits (code (entry_in es) near v.a d) r₁ us₁ us'' r).
              subst⁻¹ (λ (x : Expr). Emits (code (entry_in es) near x d) at us us'' r) v.is (after (s.each v.o v.a i v.operator v.operand) z);
        }

    module _ {middle next : ℕ} (small : j ≤ 1073741824) (sides : SidesAt ws (j - 4) d middle next) where
      pub leads_strict : {us₂ : List ℕ} {r₂ : ℕ} → word ws (j - 4) ≡ 5 → Operates ws j middle next d at us us₁ r₁ → Values ws es near (j - 4) next r₁ us₁ us₂ r₂ →
          Leads ws es near d j at us middle r₂ us₂
      unfolding code
      leads_strict {us₂} {r₂} k s t = record { each = λ (e : Expr) (i : ℕ) (l : Lies ws e i j) (h : 4 * d ≤ i). by h (room_small l h small) (is_strict l k) }
        where
          at_sides : (o : Strict) (a b : Expr) {i : ℕ} → 4 * d ≤ i → first ws j ≡ strict_number o → next ≡ above (place_of a d) d → Lies ws a i middle → Lies ws b middle (j - 4) →
              Leading ws es near d (C.strict o a b) i at us middle r₂ us₂
          at_sides o a b {i} h n e la lb = record {
            part = a;
            lies = la;
            whole = λ (us'' : List ℕ) (r : ℕ) (z : Emits (code (entry_in es) near a d) r₂ us₂ us'' r).
                subst (λ (x : ℕ). Emits (code (entry_in es) near a d ++ (code (entry_in es) near b x ++ operating o (place_of a d) (place_of b x) d)) at us us'' r) e
                (after (after (s.each o a b i n la lb) (t.each b middle lb (omega (arith, e, next_room a d la h)))) z);
          }

          by : {e : Expr} {i : ℕ} → 4 * d ≤ i → d < 4294967295 → StrictAt ws i j e → Leading ws es near d e i at us middle r₂ us₂
          by {e} {i} h small v =
              let f : (middle ≡ v.middle) × (next ≡ above (place_of v.a d) d) = sides.each v.a v.b i v.middle v.left v.right small in
              subst⁻¹ (λ (x : Expr). Leading ws es near d x i at us middle r₂ us₂) v.is
              (at_sides v.o v.a v.b h v.operator f.1 (subst⁻¹ (λ (m : ℕ). Lies ws v.a i m) f.0 v.left) (subst⁻¹ (λ (m : ℕ). Lies ws v.b m (j - 4)) f.0 v.right))

    -- a call: its result becomes a temporary
    pub value_call : {us₂ : List ℕ} {r₂ : ℕ} → word ws (j - 4) ≡ 3 → Emits (mv (target d) answer ∷ keep d) at us us₁ r₁ → Calls ws es near j d r₁ us₁ us₂ r₂ → Values ws es near j d at us us₂ r₂
    unfolding code
    value_call {us₂} {r₂} k s c = record { each = λ (e : Expr) (i : ℕ) (l : Lies ws e i j) (h : 4 * d ≤ i). by h (is_call l k) }
      where
        by : {e : Expr} {i : ℕ} → 4 * d ≤ i → CallAt ws i j e → Emits (code (entry_in es) near e d) at us us₂ r₂
        by {i = i} h v =
            subst⁻¹ (λ (x : Expr). Emits (code (entry_in es) near x d) at us us₂ r₂) v.is
            (subst (λ (x : List Instruction). Emits x at us us₂ r₂)
            (append_assoc (codes (entry_in es) near v.xs d) (calling (entry_in es (first ws j)) (places_of v.xs d) d) (mv (target d) answer ∷ keep d))
            (after s (c.each v.xs i v.arguments v.many h)))

-- `&&` and `||` as values

pub other_is : (ws : List ℕ) (m : ℕ) {i j : ℕ} {e : Expr} (v : JoinAt ws i j e) → m ≡ v.middle → eqb (word ws (m - 4)) 7 ≡ v.other
other_is ws m v h = ap (λ (k : ℕ). eqb (word ws (k - 4)) 7) h ∙ ap (λ (w : ℕ). eqb w 7) v.between.kind ∙ picked v.other
  where
    picked : (b : Bool) → eqb (pick b 7 6) 7 ≡ b
    picked true = refl
    picked false = refl

-- both sides of it end somewhere
pub broken : {A : Type 0} {ws : List ℕ} {e : Expr} {i j mid : ℕ} → Lies ws e i j → word ws (j - 4) ≡ 8 → Starts ws (j - 4) mid → mid < 4 → A
broken {A} {ws} {e} {i} {j} {mid} l k st h = by (is_join l k)
  where
    by : JoinAt ws i j e → A
    by w = absurd (omega (arith, st.each w.b w.middle w.right, w.between.enough))

module _ (entry : ℕ → ℕ) (near o : Bool) (d : ℕ) (a b : Expr) where
  -- the right side, and what is behind it
  abbrev pub righted : List Instruction
  righted = code entry near b d ++ move (place_of b d) d

  abbrev pub settled : List Instruction
  settled = settle (pick o 1 0) d

  joining_code : code entry near (joining o a b) d ≡ condition entry near a o d (suc (length righted)) ++ (righted ++ (jump (suc (length settled)) ∷ settled))
  unfolding code joining
  joining_code = by o
    where
      by : (o : Bool) → code entry near (joining o a b) d ≡ condition entry near a o d (suc (length righted)) ++ (righted ++ (jump (suc (length (settle (pick o 1 0) d))) ∷ settle (pick o 1 0) d))
      by true = refl
      by false = refl

  pub joins : {at p₀ p₁ p₂ p₃ r : ℕ} {us us₁ us₂ us₃ us₄ us₅ : List ℕ} → Emits settled at us us₁ p₀ → Emits (jump (suc (at - p₀)) ∷ []) p₀ us₁ us₂ p₁ →
      Emits (move (place_of b d) d) p₁ us₂ us₃ p₂ → Emits (code entry near b d) p₂ us₃ us₄ p₃ → Emits (condition entry near a o d (p₀ - p₃)) p₃ us₄ us₅ r →
      Emits (code entry near (joining o a b) d) at us us₅ r
  joins {at} {p₀} {p₁} {p₂} {p₃} {r} {us} {us₁} {us₂} {us₃} {us₄} {us₅} s t m v c = subst⁻¹ (λ (x : List Instruction). Emits x at us us₅ r) joining_code (all jumped)
    where
      jumped : Emits (jump (suc (length settled)) ∷ settled) at us us₂ p₁
      jumped = after_if s (omega (arith, t.position)) (λ (h : length settled ≤ at).
          subst (λ (n : ℕ). Emits (jump (suc n) ∷ []) p₀ us₁ us₂ p₁) {x = at - p₀} {y = length settled} (omega (arith, s.position)) t)

      all : Emits (jump (suc (length settled)) ∷ settled) at us us₂ p₁ → Emits (condition entry near a o d (suc (length righted)) ++ (righted ++ (jump (suc (length settled)) ∷ settled))) at us us₅ r
      all g = after_if (after g (after m v)) (omega (arith, c.position)) (λ (h : length (righted ++ (jump (suc (length settled)) ∷ settled)) ≤ at).
          subst (λ (n : ℕ). Emits (condition entry near a o d n) p₃ us₄ us₅ r) {x = p₀ - p₃} {y = suc (length righted)}
          (omega (arith, s.position, t.position, (after m v).position, length-append righted (jump (suc (length settled)) ∷ settled))) c)

pub value_join : (ws es : List ℕ) (near : Bool) (d j mid : ℕ) {at p₀ p₁ p₂ p₃ r : ℕ} {us us₁ us₂ us₃ us₄ us₅ : List ℕ} {o : Bool} {p : Place} {bit : ℕ} → word ws (j - 4) ≡ 8 → Starts ws (j - 4) mid →
    o ≡ eqb (word ws (mid - 4)) 7 → PlaceAt ws (j - 4) d p → bit ≡ pick o 1 0 → Emits (settle bit d) at us us₁ p₀ → Emits (jump (suc (at - p₀)) ∷ []) p₀ us₁ us₂ p₁ → Emits (move p d) p₁ us₂ us₃ p₂ →
    Values ws es near (j - 4) d p₂ us₃ us₄ p₃ → Conditions ws es near o (mid - 4) d p₃ p₀ us₄ us₅ r → Values ws es near j d at us us₅ r
value_join ws es near d j mid {at} {p₀} {p₁} {p₂} {p₃} {r} {us} {us₁} {us₂} {us₃} {us₄} {us₅} {o} {p} {bit} k st eo pl eb s t m v c =
    record { each = λ (e : Expr) (i : ℕ) (l : Lies ws e i j) (h : 4 * d ≤ i). by h (is_join l k) }
  where
    sided : (a b : Expr) {i : ℕ} → 4 * d ≤ i → Lies ws a i (mid - 4) → Lies ws b mid (j - 4) → 4 ≤ mid → Emits (code (entry_in es) near (joining o a b) d) at us us₅ r
    sided a b {i} h la lb e =
        joins (entry_in es) near o d a b (subst (λ (n : ℕ). Emits (settle n d) at us us₁ p₀) eb s) t (subst (λ (q : Place). Emits (move q d) p₁ us₂ us₃ p₂) (pl.each b mid lb) m) (v.each b mid lb (omega (arith, starts la))) (c.each a i la h)

    at_middle : {e : Expr} {i : ℕ} → 4 * d ≤ i → (w : JoinAt ws i j e) → mid ≡ w.middle → Emits (code (entry_in es) near (joining o w.a w.b) d) at us us₅ r
    at_middle {i = i} h w f =
        sided w.a w.b h (subst⁻¹ (λ (m : ℕ). Lies ws w.a i (m - 4)) f w.left) (subst⁻¹ (λ (m : ℕ). Lies ws w.b m (j - 4)) f w.right) (omega (arith, f, w.between.enough))

    by : {e : Expr} {i : ℕ} → 4 * d ≤ i → JoinAt ws i j e → Emits (code (entry_in es) near e d) at us us₅ r
    by {i = i} h w =
        let f : mid ≡ w.middle = st.each w.b w.middle w.right in
        subst⁻¹ (λ (x : Expr). Emits (code (entry_in es) near x d) at us us₅ r) w.is
        (subst (λ (x : Bool). Emits (code (entry_in es) near (joining x w.a w.b) d) at us us₅ r) (eo ∙ other_is ws mid w f) (at_middle h w f))

pub value_broken : (ws es : List ℕ) (near : Bool) (d j mid at : ℕ) {us : List ℕ} → word ws (j - 4) ≡ 8 → Starts ws (j - 4) mid → mid < 4 → Values ws es near j d at us us at
value_broken ws es near d j mid at k st h = record { each = λ (e : Expr) (i : ℕ) (l : Lies ws e i j) (b : 4 * d ≤ i). broken l k st h }

-- the number of a truth
bit_by : (o : Bool) → from_bool o ≡ pick o 1 0
bit_by true = refl
bit_by false = refl

pub bit_of : (o : Bool) {v : ℕ} → v ≡ from_bool o → v ≡ pick o 1 0
bit_of o e = e ∙ bit_by o
