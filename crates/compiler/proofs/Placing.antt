-- Where values are, kind by kind, and the own code of items by it.
use Prim.Native.Nat.{ℕ, ◌-◌, ◌≤◌, ◌<◌}
use native.Mathlib.Omega.{arith}
use native.Mathlib.Decide.{dec_lt}
use mathlib.Core.Path.{◌≡◌, refl, sym, ap, ◌∙◌, subst, subst⁻¹}
use mathlib.Core.Bool.{Bool, true, false}
use mathlib.Core.List.{List}
use mathlib.Core.Option.{Option, none, some}
use borrow.Author.Tests.{lt-ltb, le-ltb}
use lib.Dec.{eqb}
use lib.ListN.{length, get_or}
use Rattle.word.specs.Choice.{pick, both}
use Rattle.processor.specs.declared.Cond.{Cond}
use Rattle.language.specs.Tree.{Unary, Strict}
use Rattle.language.specs.Tree as T
use Rattle.language.specs.Core.{Expr}
use Rattle.flat.specs.Words.{word, unary_number, strict_number}
use Rattle.codegen.specs.Places.{Place, constant, local, temporary, above}
use Rattle.codegen.specs.Operators.{result, operating, applying, relation, reading, comparing}
use Rattle.codegen.specs.Expressions.{place_of}
use Rattle.emission.specs.declared.Place.{Place as Where}
use Rattle.emission.specs.Tape.{Emits}
use Rattle.emission.specs.Macros.{placed, array}
use Rattle.compiler.specs.Lies.{first, second, Lies}
use Rattle.compiler.specs.Lies as L
use Rattle.compiler.specs.Post.{Starts, PlaceAt, SidesAt, Reads, Applies, Operates, Compares, RelationAt, position, entry_in, unary_of_number, strict_of_number}
use Rattle.compiler.proofs.Views.{NumberAt, LocalAt, UnaryAt, is_number, is_local, is_unary, ends}
use Rattle.compiler.proofs.Deciding.{strict_back}

unary_back : (o : Unary) → unary_of_number (unary_number o) ≡ o
unfolding unary_of_number unary_number
unary_back T.negate = refl
unary_back T.not = refl

module _ {ws : List ℕ} {j d : ℕ} where
  pub place_none : {p : Place} → j < 4 → PlaceAt ws j d p
  place_none h = record { each = λ (e : Expr) (i : ℕ) (l : Lies ws e i j). absurd (omega (arith, ends l)) }

  module _ {k : ℕ} (kind : k ≡ word ws (j - 4)) where
    pub place_number : {a : ℕ} → k ≡ 0 → a ≡ first ws j → PlaceAt ws j d (constant a)
    unfolding place_of
    place_number {a} h f = record { each = λ (e : Expr) (i : ℕ) (l : Lies ws e i j). by (is_number l (sym kind ∙ h)) }
      where
        by : {e : Expr} {i : ℕ} → NumberAt ws i j e → constant a ≡ place_of e d
        by v = ap constant f ∙ ap (λ (x : Expr). place_of x d) (sym v.is)

    pub place_local : {a : ℕ} → k ≡ 1 → a ≡ first ws j → PlaceAt ws j d (local a)
    unfolding place_of
    place_local {a} h f = record { each = λ (e : Expr) (i : ℕ) (l : Lies ws e i j). by (is_local l (sym kind ∙ h)) }
      where
        by : {e : Expr} {i : ℕ} → LocalAt ws i j e → local a ≡ place_of e d
        by v = ap local f ∙ ap (λ (x : Expr). place_of x d) (sym v.is)

    pub place_unary : {u : Unary} {p q : Place} → k ≡ 4 → u ≡ unary_of_number (first ws j) → PlaceAt ws (j - 4) d q → p ≡ result u q d → PlaceAt ws j d p
    unfolding place_of
    place_unary {u} {p} {q} h f pl r = record { each = λ (e : Expr) (i : ℕ) (l : Lies ws e i j). by (is_unary l (sym kind ∙ h)) }
      where
        by : {e : Expr} {i : ℕ} → UnaryAt ws i j e → p ≡ place_of e d
        by {e} {i} v =
            r ∙ ap (λ (o : Unary). result o q d) (f ∙ ap unary_of_number v.operator ∙ unary_back v.o) ∙ ap (λ (x : Place). result v.o x d) (pl.each v.a i v.operand)
            ∙ ap (λ (x : Expr). place_of x d) (sym v.is)

  pub place_other : (word ws (j - 4) ≡ 0 → ⊥) → (word ws (j - 4) ≡ 1 → ⊥) → (word ws (j - 4) ≡ 4 → ⊥) → PlaceAt ws j d (temporary d)
  unfolding place_of
  place_other n o u = record { each = λ (e : Expr) (i : ℕ) (l : Lies ws e i j). by l }
    where
      by : {e : Expr} {i : ℕ} → Lies ws e i j → temporary d ≡ place_of e d
      by (L.number k p q) = absurd (n k.kind)
      by (L.local k p q) = absurd (o k.kind)
      by (L.element k p q l) = refl
      by (L.call k p q l) = refl
      by (L.unary k p l) = absurd (u k.kind)
      by (L.strict k p l r) = refl
      by (L.and k l p r) = refl
      by (L.or k l p r) = refl

-- how many temporaries are in use then
pub above_by : {p : Where} (q : Where) (d : ℕ) {r : ℕ} → p ≡ q → r ≡ above (placed q) d → r ≡ above (placed p) d
above_by q d e h = h ∙ ap (λ (x : Where). above (placed x) d) (sym e)

pub sides_at : {ws : List ℕ} {j d middle next : ℕ} {p : Place} → Starts ws j middle → PlaceAt ws middle d p → (d < 4294967295 → next ≡ above p d) → SidesAt ws j d middle next
sides_at {ws} {j} {d} {middle} {next} {p} st pl n = record { each = λ (a b : Expr) (i m : ℕ) (la : Lies ws a i m) (lb : Lies ws b m j) (h : d < 4294967295). by a h (st.each b m lb) la }
  where
    by : (a : Expr) {i m : ℕ} → d < 4294967295 → middle ≡ m → Lies ws a i m → (middle ≡ m) × (next ≡ above (place_of a d) d)
    by a {i} h e la = (e, n h ∙ ap (λ (q : Place). above q d) (pl.each a i (subst⁻¹ (λ (k : ℕ). Lies ws a i k) e la)))

-- Own code

module _ {ws : List ℕ} {j d at : ℕ} {us us' : List ℕ} {r : ℕ} where
  pub reads : {x y : ℕ} {p : Place} → x ≡ first ws j → y ≡ second ws j → PlaceAt ws (j - 4) d p → Emits (reading (array x y) p d) at us us' r → Reads ws j d at us us' r
  reads {x} {y} {p} ex ey pl s = record {
    each = λ (e : Expr) (i : ℕ) (l : Lies ws e i (j - 4)).
        subst (λ (n : ℕ). Emits (reading (array n (second ws j)) (place_of e d) d) at us us' r) ex
        (subst (λ (n : ℕ). Emits (reading (array x n) (place_of e d) d) at us us' r) ey (subst (λ (q : Place). Emits (reading (array x y) q d) at us us' r) (pl.each e i l) s));
  }

  pub applies : {x : Unary} {p : Place} → x ≡ unary_of_number (first ws j) → PlaceAt ws (j - 4) d p → Emits (applying x p d) at us us' r → Applies ws j d at us us' r
  applies {x} {p} ex pl s = record {
    each = λ (o : Unary) (e : Expr) (i : ℕ) (n : first ws j ≡ unary_number o) (l : Lies ws e i (j - 4)).
        subst (λ (u : Unary). Emits (applying u (place_of e d) d) at us us' r) (ex ∙ ap unary_of_number n ∙ unary_back o)
        (subst (λ (q : Place). Emits (applying x q d) at us us' r) (pl.each e i l) s);
  }

  module _ {middle next : ℕ} {p q : Place} (pl : PlaceAt ws middle d p) (pr : PlaceAt ws (j - 4) next q) where
    pub operates : {x : Strict} → x ≡ strict_of_number (first ws j) → Emits (operating x p q d) at us us' r → Operates ws j middle next d at us us' r
    operates {x} ex s = record {
      each = λ (o : Strict) (a b : Expr) (i : ℕ) (n : first ws j ≡ strict_number o) (la : Lies ws a i middle) (lb : Lies ws b middle (j - 4)).
          subst (λ (u : Strict). Emits (operating u (place_of a d) (place_of b next) d) at us us' r) (ex ∙ ap strict_of_number n ∙ strict_back o)
          (subst (λ (y : Place). Emits (operating x y (place_of b next) d) at us us' r) (pl.each a i la)
          (subst (λ (y : Place). Emits (operating x p y d) at us us' r) (pr.each b middle lb) s));
    }

    pub compares : (near t : Bool) (c : Cond) (turned : Bool) (to : ℕ) → Emits (comparing near t c turned p q (to - at)) at us us' r → Compares ws near t c turned j middle next d at to us us' r
    compares near t c turned to s = record {
      each = λ (a b : Expr) (i : ℕ) (la : Lies ws a i middle) (lb : Lies ws b middle (j - 4)).
          subst (λ (y : Place). Emits (comparing near t c turned y (place_of b next) (to - at)) at us us' r) (pl.each a i la)
          (subst (λ (y : Place). Emits (comparing near t c turned p y (to - at)) at us us' r) (pr.each b middle lb) s);
    }

-- the one branch that an item is

pub relation_strict : {ws : List ℕ} {j : ℕ} {o : Strict} {s : Option (Cond × Bool)} → word ws (j - 4) ≡ 5 → o ≡ strict_of_number (first ws j) → s ≡ relation o → RelationAt ws j s
relation_strict h f g = record { strict = λ _. g ∙ ap relation f; only = λ c turned _. h }

no_relation : {c : Cond} {turned : Bool} → ◌≡◌ {A = Option (Cond × Bool)} none (some (c, turned)) → ⊥
no_relation h = let z : ◌≡◌ {A = ℕ} 0 1 = cc in omega arith

pub relation_none : {ws : List ℕ} {j : ℕ} → (word ws (j - 4) ≡ 5 → ⊥) → RelationAt ws j none
relation_none h = record { strict = λ k. absurd (h k); only = λ c turned f. absurd (no_relation f) }

-- `!` is known by two words

pub both_words : (x y : ℕ) {n : ℕ} {t : Bool} → t ≡ eqb x 4 → t ≡ true → n ≡ y → eqb n 1 ≡ both (eqb x 4) (eqb y 1)
both_words x y e h f = ap (λ (m : ℕ). eqb m 1) f ∙ ap (λ (b : Bool). both b (eqb y 1)) (sym h ∙ e)

pub other_word : (x y : ℕ) {t : Bool} → t ≡ eqb x 4 → t ≡ false → false ≡ both (eqb x 4) (eqb y 1)
other_word x y e h = ap (λ (b : Bool). both b (eqb y 1)) (sym h ∙ e)

-- Where functions begin

module _ (es : List ℕ) (f : ℕ) {w r : ℕ} where
  entry_inside : f < length es → w ≡ get_or es f 0 → r ≡ position w → r ≡ entry_in es f
  unfolding entry_in
  entry_inside h e g = g ∙ ap position (e ∙ sym (ap (λ (b : Bool). pick b (get_or es f 0) (get_or es (length es - 1) 0)) (lt-ltb f (length es) h)))

  outside : length es ≤ f → w ≡ get_or es (length es - 1) 0 → r ≡ position w → r ≡ entry_in es f
  unfolding entry_in
  outside h e g = g ∙ ap position (e ∙ sym (ap (λ (b : Bool). pick b (get_or es f 0) (get_or es (length es - 1) 0)) (le-ltb f (length es) h)))

  -- the last place of the table, where f is past it
  pub entry_clamped : {i : ℕ} → (f < length es → i ≡ f) → (length es ≤ f → i ≡ length es - 1) → w ≡ get_or es i 0 → r ≡ position w → r ≡ entry_in es f
  entry_clamped {i} a b e g = by (dec_lt f (length es))
    where
      by : Dec (f < length es) → r ≡ entry_in es f
      by (yes h) = entry_inside h (e ∙ ap (λ (n : ℕ). get_or es n 0) (a h)) g
      by (no h) = outside (omega arith) (e ∙ ap (λ (n : ℕ). get_or es n 0) (b (omega arith))) g
