-- Arguments from the last to the first: what the earlier ones leave in temporaries, and the code of all of them as that of the earlier ones and of the last.
use Prim.Native.Nat.{ℕ, suc, ◌+◌, ◌-◌, ◌*◌, ◌≤◌}
use native.Mathlib.Omega.{arith}
use mathlib.Core.Path.{◌≡◌, refl, sym, ap, ◌∙◌, subst}
use mathlib.Core.Bool.{Bool, true, false}
use mathlib.Core.List.{List, [], ◌∷◌, ◌++◌, append_assoc, append-nil}
use lib.ListN.{length}
use Rattle.word.specs.Choice.{pick}
use Rattle.language.specs.Tree.{Unary}
use Rattle.language.specs.Core.{Expr, Args}
use Rattle.language.specs.Core as C
use Rattle.symbolic.specs.Symbolic.{Instruction, sp, sw}
use Rattle.codegen.specs.Owed.{count}
use Rattle.codegen.specs.Places.{Place, constant, local, temporary, above, frame_bytes, local_word, source, fetch}
use Rattle.codegen.specs.Operators.{result}
use Rattle.codegen.specs.Expressions.{place_of, places_of, passes, code, codes}
use Rattle.compiler.specs.Lies.{Lies, LieAll, none, more}
use Rattle.compiler.specs.Post.{weight, weights}
use Rattle.compiler.proofs.Views.{starts}

-- How many temporaries a value takes does not depend on how many there are.

known : Place → Bool
known (constant n) = true
known (local y) = false
known (temporary d) = false

known_result : (o : Unary) (p : Place) (d : ℕ) → known (result o p d) ≡ known p
unfolding known
known_result o (constant n) d = refl
known_result o (local y) d = refl
known_result o (temporary j) d = refl

known_at : (e : Expr) (d : ℕ) → known (place_of e d) ≡ known (place_of e 0)
unfolding place_of known
known_at (C.number n) d = refl
known_at (C.local x) d = refl
known_at (C.element a i) d = refl
known_at (C.call f xs) d = refl
known_at (C.unary o e) d = known_result o (place_of e d) d ∙ known_at e d ∙ sym (known_result o (place_of e 0) 0)
known_at (C.strict o a b) d = refl
known_at (C.and a b) d = refl
known_at (C.or a b) d = refl

above_result : (o : Unary) (p : Place) (d : ℕ) → above (result o p d) d ≡ d + pick (known p) 0 1
unfolding known
above_result o (constant n) d = omega arith
above_result o (local y) d = omega arith
above_result o (temporary j) d = omega arith

pub weight_at : (e : Expr) (d : ℕ) → above (place_of e d) d ≡ d + weight e
unfolding place_of weight
weight_at (C.number n) d = omega arith
weight_at (C.local x) d = omega arith
weight_at (C.element a i) d = omega arith
weight_at (C.call f xs) d = omega arith
weight_at (C.unary o e) d =
    omega (arith, above_result o (place_of e d) d, above_result o (place_of e 0) 0, ap (λ (b : Bool). pick {A = ℕ} b 0 1) (known_at e d))
weight_at (C.strict o a b) d = omega arith
weight_at (C.and a b) d = omega arith
weight_at (C.or a b) d = omega arith

weighs : (p : Place) → above p 0 ≤ 1
weighs (constant n) = omega arith
weighs (local y) = omega arith
weighs (temporary j) = omega arith

pub weight_small : (e : Expr) → weight e ≤ 1
unfolding weight
weight_small e = weighs (place_of e 0)

pub weights_small : (xs : Args) → weights xs ≤ count xs
unfolding weights
weights_small C.none = omega arith
weights_small (C.more e xs) = omega (arith, weight_small e, weights_small xs)

-- The last argument and those before it

unfoldable pub snoc : Args → Expr → Args
snoc C.none y = C.more y C.none
snoc (C.more e xs) y = C.more e (snoc xs y)

pub record LastOf (ws : List ℕ) (xs : Args) (i j n : ℕ) : Type 0 where
  pub front : Args
  pub last : Expr
  pub middle : ℕ
  pub is : xs ≡ snoc front last
  pub before : LieAll ws front i middle
  pub lies : Lies ws last middle j
  pub many : count front ≡ n

module _ {ws : List ℕ} where
  further : {e : Expr} {xs : Args} {i m j n : ℕ} → Lies ws e i m → LastOf ws xs m j n → LastOf ws (C.more e xs) i j (suc n)
  unfolding snoc
  further {e} l t = record {
    front = C.more e t.front;
    last = t.last;
    middle = t.middle;
    is = ap (C.more e) t.is;
    before = more l t.before;
    lies = t.lies;
    many = omega (arith, t.many);
  }

  only : {e : Expr} {i m j : ℕ} → Lies ws e i m → m ≡ j → LastOf ws (C.more e C.none) i j 0
  unfolding snoc
  only {e} {i} l h = record { front = C.none; last = e; middle = i; is = refl; before = none refl; lies = subst (λ (k : ℕ). Lies ws e i k) h l; many = refl }

  last_from : {e : Expr} (xs : Args) {i m j : ℕ} → Lies ws e i m → LieAll ws xs m j → LastOf ws (C.more e xs) i j (count xs)
  last_from C.none l (none h) = only l h
  last_from (C.more x xs) l (more k ks) = further l (last_from xs k ks)

  pub last_of : {xs : Args} {i j : ℕ} (n : ℕ) → LieAll ws xs i j → count xs ≡ n → (n ≡ 0 → ⊥) → LastOf ws xs i j (n - 1)
  last_of n (none h) c z = absurd (z (sym c))
  last_of {i = i} {j = j} n (more {e} {xs} l ls) c z = subst (λ (k : ℕ). LastOf ws (C.more e xs) i j k) (omega arith) (last_from xs l ls)

  pub no_arguments : {xs : Args} {i j : ℕ} → LieAll ws xs i j → count xs ≡ 0 → xs ≡ C.none
  no_arguments (none h) c = refl
  no_arguments (more l ls) c = absurd (omega arith)

  -- an argument is at least one item long
  pub starts_all : {xs : Args} {i j : ℕ} → LieAll ws xs i j → i + 4 * count xs ≤ j
  starts_all (none h) = omega arith
  starts_all (more l ls) = omega (arith, starts l, starts_all ls)

pub weights_snoc : (xs : Args) (y : Expr) → weights (snoc xs y) ≡ weights xs + weight y
unfolding snoc weights
weights_snoc C.none y = omega arith
weights_snoc (C.more e xs) y = omega (arith, weights_snoc xs y)

module _ (entry : ℕ → ℕ) (near : Bool) where
  pub codes_snoc : (xs : Args) (y : Expr) (d : ℕ) → codes entry near (snoc xs y) d ≡ codes entry near xs d ++ code entry near y (d + weights xs)
  unfolding snoc weights codes
  codes_snoc C.none y d = append-nil (code entry near y d) ∙ ap (code entry near y) (let e : d ≡ d + 0 = omega arith in e)
  codes_snoc (C.more e xs) y d =
      ap (λ (c : List Instruction). code entry near e d ++ c) (codes_snoc xs y (above (place_of e d) d))
      ∙ sym (append_assoc (code entry near e d) (codes entry near xs (above (place_of e d) d)) (code entry near y (above (place_of e d) d + weights xs)))
      ∙ ap (λ (n : ℕ). (code entry near e d ++ codes entry near xs (above (place_of e d) d)) ++ code entry near y n) (let h : above (place_of e d) d + weights xs ≡ d + (weight e + weights xs) = omega (arith, weight_at e d) in h)

pub places_snoc : (xs : Args) (y : Expr) (d : ℕ) → places_of (snoc xs y) d ≡ places_of xs d ++ (place_of y (d + weights xs) ∷ [])
unfolding snoc weights places_of
places_snoc C.none y d = ap (λ (n : ℕ). place_of y n ∷ []) (let e : d ≡ d + 0 = omega arith in e)
places_snoc (C.more e xs) y d =
    ap (λ (ps : List Place). place_of e d ∷ ps) (places_snoc xs y (above (place_of e d) d))
    ∙ ap (λ (n : ℕ). place_of e d ∷ (places_of xs (above (place_of e d) d) ++ (place_of y n ∷ []))) (let h : above (place_of e d) d + weights xs ≡ d + (weight e + weights xs) = omega (arith, weight_at e d) in h)

pub places_many : (xs : Args) (d : ℕ) → length (places_of xs d) ≡ count xs
unfolding places_of
places_many C.none d = refl
places_many (C.more e xs) d = ap suc (places_many xs (above (place_of e d) d))

-- one argument passed
abbrev pub passing : Place → ℕ → List Instruction
passing p i = fetch p 0 ++ (sw (source p 0) sp (frame_bytes + 4 * local_word i) ∷ [])

pub passes_snoc : (ps : List Place) (p : Place) (i : ℕ) → passes (ps ++ (p ∷ [])) i ≡ passes ps i ++ passing p (i + length ps)
unfolding passes
passes_snoc [] p i = ap (λ (n : ℕ). passing p n) (let e : i ≡ i + 0 = omega arith in e)
passes_snoc (q ∷ ps) p i =
    ap (λ (c : List Instruction). fetch q 0 ++ (sw (source q 0) sp (frame_bytes + 4 * local_word i) ∷ c)) (passes_snoc ps p (suc i))
    ∙ ap (λ (n : ℕ). fetch q 0 ++ (sw (source q 0) sp (frame_bytes + 4 * local_word i) ∷ (passes ps (suc i) ++ passing p n))) (let e : suc i + length ps ≡ i + suc (length ps) = omega arith in e)
    ∙ sym (append_assoc (fetch q 0) (sw (source q 0) sp (frame_bytes + 4 * local_word i) ∷ passes ps (suc i)) (passing p (i + suc (length ps))))
