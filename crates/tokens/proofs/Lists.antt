-- Laws of bytes, spans and tables: what the longest beginning is, and what the first row that passes is.
use mathlib.Core.Path.{◌≡◌, refl, sym, ap, subst, ◌∙◌}
use mathlib.Core.Bool.{Bool, true, false, not}
use mathlib.Core.List.{List, [], ◌∷◌, ◌++◌}
use mathlib.Core.Option.{Option, none, some}
use mathlib.Core.Logic.{◌⊎◌, inl, inr}
use Prim.Native.Nat.{ℕ, ◌≤◌}
use Prim.Native.String.{String}
use native.Mathlib.Omega.{arith}
use lib.Dec.{leb, eqb}
use lib.ListN.{length, drop}
use lib.Pointwise.{pointwise}
use borrow.Author.Tests.{eqb-true, eq-eqb, leb-true, not-true}
use Rattle.word.specs.Choice.{pick, both, either}
use Rattle.language.specs.Tokens.{In, In.here, In.there, bytes, all, starts, same, begins, span, find}

pub clash : {A : Type 0} → true ≡ false → A
clash e = absurd (let z : ◌≡◌ {A = ℕ} 0 1 = cc in omega arith)

-- a property of both ways is a property of the choice
pub pick_g : {A : Type 0} (Q : A → Type 0) (b : Bool) (x y : A) → (b ≡ true → Q x) → (b ≡ false → Q y) → Q (pick b x y)
pick_g Q true x y f g = f refl
pick_g Q false x y f g = g refl

pub both_true : (a b : Bool) → both a b ≡ true → (a ≡ true) × (b ≡ true)
both_true true b e = (refl, e)
both_true false b e = clash (sym e)

pub either_true : (a b : Bool) → either a b ≡ true → (a ≡ true) ⊎ (b ≡ true)
either_true true b e = inl refl
either_true false b e = inr e

pub either_right : (a b : Bool) → b ≡ true → either a b ≡ true
either_right true b e = refl
either_right false b e = e

pub either_false : (a b : Bool) → either a b ≡ false → (a ≡ false) × (b ≡ false)
either_false true b e = clash e
either_false false b e = (refl, e)

-- Spans.

module _ (P : ℕ → Bool) where
  pub span_all : (l : List ℕ) → all P (span P l) ≡ true
  unfolding all span
  span_all [] = refl
  span_all (b ∷ l) = pick_g (λ w. all P w ≡ true) (P b) (b ∷ span P l) [] (λ e. rw e (span_all l)) (λ e. refl)

  pub span_split : (l : List ℕ) → l ≡ span P l ++ drop (length (span P l)) l
  unfolding span
  span_split [] = refl
  span_split (b ∷ l) = pick_g (λ w. b ∷ l ≡ w ++ drop (length w) (b ∷ l)) (P b) (b ∷ span P l) [] (λ e. ap (λ (w : List ℕ). b ∷ w) (span_split l)) (λ e. refl)

  pub span_stops : (l : List ℕ) → starts P (drop (length (span P l)) l) ≡ false
  unfolding span starts
  span_stops [] = refl
  span_stops (b ∷ l) = pick_g (λ w. starts P (drop (length w) (b ∷ l)) ≡ false) (P b) (b ∷ span P l) [] (λ e. span_stops l) (λ e. e)

  pub span_append : (w rest : List ℕ) → all P w ≡ true → starts P rest ≡ false → span P (w ++ rest) ≡ w
  unfolding all span starts
  span_append [] [] h s = refl
  span_append [] (b ∷ rest) h s = rw s
  span_append (b ∷ w) rest h s = let q : (P b ≡ true) × (all P w ≡ true) = both_true (P b) (all P w) h in rw q.0 (ap (λ (v : List ℕ). b ∷ v) (span_append w rest q.1 s))

  pub starts_append : (w rest : List ℕ) → starts P w ≡ true → starts P (w ++ rest) ≡ true
  unfolding starts
  starts_append [] rest h = clash (sym h)
  starts_append (b ∷ w) rest h = h

-- The same bytes.

-- what the library's `==` of slices tests
pub pointwise_same : (v w : List ℕ) → pointwise eqb v w ≡ same v w
unfolding same
pointwise_same [] [] = refl
pointwise_same [] (b ∷ w) = refl
pointwise_same (a ∷ v) [] = refl
pointwise_same (a ∷ v) (b ∷ w) = ap (both (eqb a b)) (pointwise_same v w)

pub same_eq : (w v : List ℕ) → same w v ≡ true → w ≡ v
unfolding same
same_eq [] [] e = refl
same_eq [] (b ∷ v) e = clash (sym e)
same_eq (a ∷ w) [] e = clash (sym e)
same_eq (a ∷ w) (b ∷ v) e =
    let q : (eqb a b ≡ true) × (same w v ≡ true) = both_true (eqb a b) (same w v) e in
    ap (λ (x : ℕ). x ∷ w) (eqb-true a b q.0) ∙ ap (λ (x : List ℕ). b ∷ x) (same_eq w v q.1)

pub same_refl : (w : List ℕ) → same w w ≡ true
unfolding same
same_refl [] = refl
same_refl (a ∷ w) = rw (eq-eqb a a refl) (same_refl w)

pub begins_append : (w rest : List ℕ) → begins w (w ++ rest) ≡ true
unfolding begins
begins_append [] rest = refl
begins_append (a ∷ w) rest = rw (eq-eqb a a refl) (begins_append w rest)

pub begins_split : (w l : List ℕ) → begins w l ≡ true → l ≡ w ++ drop (length w) l
unfolding begins
begins_split [] l e = refl
begins_split (a ∷ w) [] e = clash (sym e)
begins_split (a ∷ w) (b ∷ l) e =
    let q : (eqb a b ≡ true) × (begins w l ≡ true) = both_true (eqb a b) (begins w l) e in
    ap (λ (x : ℕ). x ∷ l) (sym (eqb-true a b q.0)) ∙ ap (λ (x : List ℕ). a ∷ x) (begins_split w l q.1)

-- two beginnings of one list of one length are the same
pub begins_one : (w v l : List ℕ) → begins w l ≡ true → begins v l ≡ true → length w ≡ length v → w ≡ v
unfolding begins
begins_one [] [] l p q e = refl
begins_one [] (b ∷ v) l p q e = absurd (omega arith)
begins_one (a ∷ w) [] l p q e = absurd (omega arith)
begins_one (a ∷ w) (b ∷ v) [] p q e = clash (sym p)
begins_one (a ∷ w) (b ∷ v) (c ∷ l) p q e =
    let x : (eqb a c ≡ true) × (begins w l ≡ true) = both_true (eqb a c) (begins w l) p in
    let y : (eqb b c ≡ true) × (begins v l ≡ true) = both_true (eqb b c) (begins v l) q in
    ap (λ (z : ℕ). z ∷ w) (eqb-true a c x.0 ∙ sym (eqb-true b c y.0)) ∙ ap (λ (z : List ℕ). b ∷ z) (begins_one w v l x.1 y.1 (omega arith))

-- Tables. A rule of every row is one test, which computes.

module _ {A : Type 0} where
  abbrev pub every : (A → Bool) → List A → Bool
  every f [] = true
  every f (r ∷ rs) = both (f r) (every f rs)

  pub every_in : (f : A → Bool) (r : A) (rs : List A) → every f rs ≡ true → In r rs → f r ≡ true
  every_in f r [] h i = elim i [ ]
  every_in f r (x ∷ rs) h (here e) = ap f e ∙ (both_true (f x) (every f rs) h).0
  every_in f r (x ∷ rs) h (there i) = every_in f r rs (both_true (f x) (every f rs) h).1 i

module _ {A : Type 0} (P : List ℕ → Bool) where
  -- a row that is found is in the table and passes; if none is found, none passes
  abbrev pub Hit : List (A × String) → Option (A × String) → Type 0
  Hit rs none = (r : A × String) → In r rs → P (bytes r.1) ≡ false
  Hit rs (some r) = In r rs × (P (bytes r.1) ≡ true)

  fails : (x r : A × String) (rs : List (A × String)) → P (bytes x.1) ≡ false → ((y : A × String) → In y rs → P (bytes y.1) ≡ false) → In r (x ∷ rs) → P (bytes r.1) ≡ false
  fails x r rs e h (here q) = subst (λ (y : A × String). P (bytes y.1) ≡ false) (sym q) e
  fails x r rs e h (there i) = h r i

  later : (x : A × String) (rs : List (A × String)) (o : Option (A × String)) → P (bytes x.1) ≡ false → Hit rs o → Hit (x ∷ rs) o
  later x rs none e h = λ r i. fails x r rs e h i
  later x rs (some r) e h = (there h.0, h.1)

  pub find_hit : (rs : List (A × String)) → Hit rs (find P rs)
  unfolding find
  find_hit [] = λ r i. elim i [ ]
  find_hit (x ∷ rs) = pick_g (Hit (x ∷ rs)) (P (bytes x.1)) (some x) (find P rs) (λ e. (here refl, e)) (λ e. later x rs (find P rs) e (find_hit rs))

-- a table in which no spelling stands twice: a row is found by its spelling
abbrev pub distinct : {A : Type 0} → List (A × String) → Bool
distinct [] = true
distinct (x ∷ rs) = both (every (λ r. not (same (bytes r.1) (bytes x.1))) rs) (distinct rs)

pub find_only : {A : Type 0} (r : A × String) (rs : List (A × String)) → distinct rs ≡ true → In r rs → find (same (bytes r.1)) rs ≡ some r
unfolding find
find_only {A = A} r [] d i = elim i [ ]
find_only r (x ∷ rs) d (here e) = rw (e, same_refl (bytes x.1))
find_only r (x ∷ rs) d (there i) =
    let q : (every (λ r. not (same (bytes r.1) (bytes x.1))) rs ≡ true) × (distinct rs ≡ true) = both_true (every (λ r. not (same (bytes r.1) (bytes x.1))) rs) (distinct rs) d in
    rw (not-true (same (bytes r.1) (bytes x.1)) (every_in (λ r. not (same (bytes r.1) (bytes x.1))) r rs q.0 i)) (find_only r rs q.1 i)

-- a table whose spellings never get longer
abbrev pub sorted : {A : Type 0} → List (A × String) → Bool
sorted [] = true
sorted (x ∷ rs) = both (every (λ r. leb (length (bytes r.1)) (length (bytes x.1))) rs) (sorted rs)

-- in such a table the first row that passes is a longest one
module _ {A : Type 0} (P : List ℕ → Bool) where
  abbrev pub Longest : List (A × String) → Option (A × String) → Type 0
  Longest rs none = Unit {0}
  Longest rs (some f) = (r : A × String) → In r rs → P (bytes r.1) ≡ true → length (bytes r.1) ≤ length (bytes f.1)

  first : (x r : A × String) (rs : List (A × String)) → every (λ r. leb (length (bytes r.1)) (length (bytes x.1))) rs ≡ true → In r (x ∷ rs) → length (bytes r.1) ≤ length (bytes x.1)
  first x r rs h (here q) = subst (λ (y : A × String). length (bytes y.1) ≤ length (bytes x.1)) (sym q) (omega arith)
  first x r rs h (there i) = leb-true (length (bytes r.1)) (length (bytes x.1)) (every_in (λ r. leb (length (bytes r.1)) (length (bytes x.1))) r rs h i)

  skip : (x f r : A × String) (rs : List (A × String)) → P (bytes x.1) ≡ false → ((y : A × String) → In y rs → P (bytes y.1) ≡ true → length (bytes y.1) ≤ length (bytes f.1)) → In r (x ∷ rs) → P (bytes r.1) ≡ true → length (bytes r.1) ≤ length (bytes f.1)
  skip x f r rs e h (here q) t = clash (sym t ∙ subst (λ (y : A × String). P (bytes y.1) ≡ false) (sym q) e)
  skip x f r rs e h (there i) t = h r i t

  skipped : (x : A × String) (rs : List (A × String)) (o : Option (A × String)) → P (bytes x.1) ≡ false → Longest rs o → Longest (x ∷ rs) o
  skipped x rs none e h = tt
  skipped x rs (some f) e h = λ r i t. skip x f r rs e h i t

  pub find_longest : (rs : List (A × String)) → sorted rs ≡ true → Longest rs (find P rs)
  unfolding find
  find_longest [] s = tt
  find_longest (x ∷ rs) s =
      let q : (every (λ r. leb (length (bytes r.1)) (length (bytes x.1))) rs ≡ true) × (sorted rs ≡ true) = both_true (every (λ r. leb (length (bytes r.1)) (length (bytes x.1))) rs) (sorted rs) s in
      pick_g (Longest (x ∷ rs)) (P (bytes x.1)) (some x) (find P rs) (λ e. λ r i t. first x r rs q.0 i) (λ e. skipped x rs (find P rs) e (find_longest rs q.1))
