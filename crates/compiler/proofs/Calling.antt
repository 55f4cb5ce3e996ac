-- The code of calls: of the last argument, of those before it, and of the call behind them.
use Prim.Native.Nat.{ℕ, ◌+◌, ◌-◌, ◌*◌, ◌≤◌, ◌<◌}
use native.Mathlib.Omega.{arith}
use mathlib.Core.Path.{◌≡◌, sym, ap, ◌∙◌, subst, subst⁻¹}
use mathlib.Core.Bool.{Bool}
use mathlib.Core.List.{List, ◌++◌}
use lib.ListN.{length}
use Rattle.language.specs.Core.{Expr, Args}
use Rattle.symbolic.specs.Symbolic.{Instruction}
use Rattle.codegen.specs.Owed.{count}
use Rattle.codegen.specs.Places.{Place, above}
use Rattle.codegen.specs.Expressions.{place_of, places_of, passes, saves, registers_of, entering, code, codes, calling}
use Rattle.emission.specs.Tape.{Emits}
use Rattle.emission.proofs.Laws.{none, after}
use Rattle.compiler.specs.Lies.{first, second, Lies, LieAll}
use Rattle.compiler.specs.Post.{Starts, PlaceAt, weights, Weighs, entry_in, Values, Arguments, Passes, Callings, Calls}
use Rattle.compiler.proofs.Views.{starts}
use Rattle.compiler.proofs.Arguments.{weight_at, weights_small, snoc, LastOf, last_of, no_arguments, starts_all, weights_snoc, codes_snoc, places_snoc, places_many, passing, passes_snoc}

-- How many temporaries arguments take

module _ {ws : List ℕ} {j n : ℕ} where
  pub weighs_none : n ≡ 0 → Weighs ws j n 0
  unfolding weights
  weighs_none z = record { each = λ (xs : Args) (i : ℕ) (l : LieAll ws xs i j) (c : count xs ≡ n). ap weights (sym (no_arguments l (c ∙ z))) }

  pub weighs_more : {start before r : ℕ} {p : Place} → (n ≡ 0 → ⊥) → n < 4294967296 → Starts ws j start → Weighs ws start (n - 1) before → before ≤ n - 1 → PlaceAt ws j before p →
      (before < 4294967295 → r ≡ above p before) → Weighs ws j n r
  weighs_more {start} {before} {r} {p} z small st w few pl a =
      record { each = λ (xs : Args) (i : ℕ) (l : LieAll ws xs i j) (c : count xs ≡ n). by (last_of n l c z) }
    where
      by : {xs : Args} {i : ℕ} → LastOf ws xs i j (n - 1) → r ≡ weights xs
      by {xs} {i} v =
          let s : start ≡ v.middle = st.each v.last v.middle v.lies in
          let b : before ≡ weights v.front = w.each v.front i (subst⁻¹ (λ (m : ℕ). LieAll ws v.front i m) s v.before) v.many in
          let e : r ≡ above (place_of v.last before) before = a (omega arith) ∙ ap (λ (q : Place). above q before) (pl.each v.last v.middle v.lies) in
          let f : weights xs ≡ weights (snoc v.front v.last) = ap weights v.is in
          omega (arith, e, weight_at v.last before, f, weights_snoc v.front v.last, b)

-- One argument and those before it, in general: `all` is the code of arguments

module _ (ws : List ℕ) (j n d at : ℕ) (z : n ≡ 0 → ⊥) (small : j ≤ 1073741824) {start before below : ℕ} (st : Starts ws j start) (w : Weighs ws start (n - 1) before)
    (sum : d + before < 4294967296 → below ≡ d + before) where
  record Before (xs : Args) (i : ℕ) : Type 0 where
    front : Args
    last : Expr
    is : xs ≡ snoc front last
    ahead : LieAll ws front i start
    lies : Lies ws last start j
    many : count front ≡ n - 1
    found : below ≡ d + weights front
    room : 4 * below ≤ start

  before_of : {xs : Args} {i : ℕ} → LieAll ws xs i j → count xs ≡ n → 4 * d ≤ i → Before xs i
  before_of {xs} {i} l c h = by (last_of n l c z)
    where
      at_start : (v : LastOf ws xs i j (n - 1)) → start ≡ v.middle → LieAll ws v.front i start → Before xs i
      at_start v s b =
          let e : before ≡ weights v.front = w.each v.front i b v.many in
          let few : weights v.front ≤ count v.front = weights_small v.front in
          let long : i + 4 * count v.front ≤ start = starts_all b in
          let f : below ≡ d + before = sum (omega (arith, starts v.lies, s)) in
          record {
            front = v.front;
            last = v.last;
            is = v.is;
            ahead = b;
            lies = subst⁻¹ (λ (m : ℕ). Lies ws v.last m j) s v.lies;
            many = v.many;
            found = f ∙ ap (λ (m : ℕ). d + m) e;
            room = omega (arith, f, e);
          }

      by : LastOf ws xs i j (n - 1) → Before xs i
      by v = at_start v (st.each v.last v.middle v.lies) (subst⁻¹ (λ (m : ℕ). LieAll ws v.front i m) (st.each v.last v.middle v.lies) v.before)

  module _ {us us₁ us₂ : List ℕ} {r₁ r₂ : ℕ} where
    pub arguments_more : {es : List ℕ} {near : Bool} → Values ws es near j below at us us₁ r₁ → Arguments ws es near start (n - 1) d r₁ us₁ us₂ r₂ → Arguments ws es near j n d at us us₂ r₂
    arguments_more {es} {near} v a = record { each = λ (xs : Args) (i : ℕ) (l : LieAll ws xs i j) (c : count xs ≡ n) (h : 4 * d ≤ i). by h (before_of l c h) }
      where
        by : {xs : Args} {i : ℕ} → 4 * d ≤ i → Before xs i → Emits (codes (entry_in es) near xs d) at us us₂ r₂
        by {xs} {i} h b =
            subst⁻¹ (λ (c : List Instruction). Emits c at us us₂ r₂) (ap (λ (x : Args). codes (entry_in es) near x d) b.is ∙ codes_snoc (entry_in es) near b.front b.last d)
            (after (subst (λ (m : ℕ). Emits (code (entry_in es) near b.last m) at us us₁ r₁) b.found (v.each b.last start b.lies b.room))
            (a.each b.front i b.ahead b.many h))

    pub passes_more : {p : Place} → PlaceAt ws j below p → Emits (passing p (n - 1)) at us us₁ r₁ → Passes ws start (n - 1) d r₁ us₁ us₂ r₂ → Passes ws j n d at us us₂ r₂
    passes_more {p} pl v a = record { each = λ (xs : Args) (i : ℕ) (l : LieAll ws xs i j) (c : count xs ≡ n) (h : 4 * d ≤ i). by h (before_of l c h) }
      where
        split : (front : Args) (last : Expr) → count front ≡ n - 1 → below ≡ d + weights front → passes (places_of (snoc front last) d) 0 ≡ passes (places_of front d) 0 ++ passing (place_of last below) (n - 1)
        split front last m f =
            ap (λ (ps : List Place). passes ps 0) (places_snoc front last d) ∙ passes_snoc (places_of front d) (place_of last (d + weights front)) 0
            ∙ ap (λ (k : ℕ). passes (places_of front d) 0 ++ passing (place_of last (d + weights front)) k) (let e : 0 + length (places_of front d) ≡ n - 1 = omega (arith, places_many front d) in e)
            ∙ ap (λ (k : ℕ). passes (places_of front d) 0 ++ passing (place_of last k) (n - 1)) (sym f)

        by : {xs : Args} {i : ℕ} → 4 * d ≤ i → Before xs i → Emits (passes (places_of xs d) 0) at us us₂ r₂
        by {xs} {i} h b =
            subst⁻¹ (λ (c : List Instruction). Emits c at us us₂ r₂) (ap (λ (x : Args). passes (places_of x d) 0) b.is ∙ split b.front b.last b.many b.found)
            (after (subst (λ (q : Place). Emits (passing q (n - 1)) at us us₁ r₁) (pl.each b.last start b.lies) v) (a.each b.front i b.ahead b.many h))

module _ {ws : List ℕ} {j n d at : ℕ} {us : List ℕ} where
  pub arguments_none : {es : List ℕ} {near : Bool} → n ≡ 0 → Arguments ws es near j n d at us us at
  unfolding codes
  arguments_none {es} {near} z = record {
    each = λ (xs : Args) (i : ℕ) (l : LieAll ws xs i j) (c : count xs ≡ n) (h : 4 * d ≤ i).
        subst⁻¹ (λ (x : Args). Emits (codes (entry_in es) near x d) at us us at) (no_arguments l (c ∙ z)) none;
  }

  pub passes_none : n ≡ 0 → Passes ws j n d at us us at
  unfolding places_of passes
  passes_none z = record {
    each = λ (xs : Args) (i : ℕ) (l : LieAll ws xs i j) (c : count xs ≡ n) (h : 4 * d ≤ i).
        subst⁻¹ (λ (x : Args). Emits (passes (places_of x d) 0) at us us at) (no_arguments l (c ∙ z)) none;
  }

-- So far: what the first k of n have, put before this, is what all have

pub record PassesLeft (ws : List ℕ) (j n d at : ℕ) (us : List ℕ) (j' k at' : ℕ) (us' : List ℕ) : Type 0 where
  pub rest : {r : ℕ} {us₂ : List ℕ} → Passes ws j' k d at' us' us₂ r → Passes ws j n d at us us₂ r

pub record ArgumentsLeft (ws es : List ℕ) (near : Bool) (j n d at : ℕ) (us : List ℕ) (j' k at' : ℕ) (us' : List ℕ) : Type 0 where
  pub rest : {r : ℕ} {us₂ : List ℕ} → Arguments ws es near j' k d at' us' us₂ r → Arguments ws es near j n d at us us₂ r

module _ {ws : List ℕ} {j n d at : ℕ} {us : List ℕ} where
  pub passes_all : PassesLeft ws j n d at us j n at us
  passes_all = record { rest = λ {r} {us₂} (f : Passes ws j n d at us us₂ r). f }

  pub passes_end : {j' k at' : ℕ} {us' : List ℕ} → PassesLeft ws j n d at us j' k at' us' → k ≡ 0 → Passes ws j n d at us us' at'
  passes_end s z = s.rest (passes_none z)

  module _ {es : List ℕ} {near : Bool} where
    pub arguments_all : ArgumentsLeft ws es near j n d at us j n at us
    arguments_all = record { rest = λ {r} {us₂} (f : Arguments ws es near j n d at us us₂ r). f }

    pub arguments_end : {j' k at' : ℕ} {us' : List ℕ} → ArgumentsLeft ws es near j n d at us j' k at' us' → k ≡ 0 → Arguments ws es near j n d at us us' at'
    arguments_end s z = s.rest (arguments_none z)

  module _ {j' k at' start before below r₁ : ℕ} {us' us₁ : List ℕ} (z : k ≡ 0 → ⊥) (small : j' ≤ 1073741824) (st : Starts ws j' start) (w : Weighs ws start (k - 1) before)
      (sum : d + before < 4294967296 → below ≡ d + before) where
    pub passes_next : {p : Place} → PassesLeft ws j n d at us j' k at' us' → PlaceAt ws j' below p → Emits (passing p (k - 1)) at' us' us₁ r₁ → PassesLeft ws j n d at us start (k - 1) r₁ us₁
    passes_next s pl v = record { rest = λ {r} {us₂} (f : Passes ws start (k - 1) d r₁ us₁ us₂ r). s.rest (passes_more ws j' k d at' z small st w sum pl v f) }

    pub arguments_next : {es : List ℕ} {near : Bool} → ArgumentsLeft ws es near j n d at us j' k at' us' → Values ws es near j' below at' us' us₁ r₁ →
        ArgumentsLeft ws es near j n d at us start (k - 1) r₁ us₁
    arguments_next {es} {near} s v = record { rest = λ {r} {us₂} (f : Arguments ws es near start (k - 1) d r₁ us₁ us₂ r). s.rest (arguments_more ws j' k d at' z small st w sum v f) }

-- The call

module _ {ws es : List ℕ} {j n d at : ℕ} {us us₁ us₂ : List ℕ} {r₁ r₂ : ℕ} where
  pub callings : {to f : ℕ} → to ≡ entry_in es f → f ≡ first ws j → n ≡ second ws j → Emits (saves (registers_of d) ++ entering to d) at us us₁ r₁ → Passes ws (j - 4) n d r₁ us₁ us₂ r₂ →
      Callings ws es j d at us us₂ r₂
  callings {to} {f} e g m s p = record {
    each = λ (xs : Args) (i : ℕ) (l : LieAll ws xs i (j - 4)) (c : second ws j ≡ count xs) (h : 4 * d ≤ i).
        subst (λ (x : ℕ). Emits (calling x (places_of xs d) d) at us us₂ r₂) (e ∙ ap (entry_in es) g) (after s (p.each xs i l (sym c ∙ sym m) h));
  }

  pub calls : {near : Bool} → n ≡ second ws j → Callings ws es j d at us us₁ r₁ → Arguments ws es near (j - 4) n d r₁ us₁ us₂ r₂ → Calls ws es near j d at us us₂ r₂
  calls m s a = record {
    each = λ (xs : Args) (i : ℕ) (l : LieAll ws xs i (j - 4)) (c : second ws j ≡ count xs) (h : 4 * d ≤ i). after (s.each xs i l c h) (a.each xs i l (sym c ∙ sym m) h);
  }
