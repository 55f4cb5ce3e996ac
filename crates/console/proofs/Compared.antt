-- The library's comparisons and tests are the definitions'.
use mathlib.Core.Path.{◌≡◌, refl, sym, ap}
use mathlib.Core.List.{List, [], ◌∷◌}
use mathlib.Core.Bool.{Bool, true, false, ◌&&◌, ◌||◌}
use Prim.Native.Nat.{ℕ}
use native.Mathlib.Omega.{arith}
use lib.Dec.{eqb, leb}
use lib.ListN.{length, get_or}
use lib.Pointwise.{pointwise}
use borrow.Author.Tests.{eq-eqb, ne_eqb, eqb-true, eqb-false}
use Rattle.std.specs.Int.{is_in_range}
use Rattle.std.specs.List.{list_any}
use Rattle.word.specs.Choice.{both, either}
use Rattle.language.specs.Tokens.{same, starts, is, is_blank, is_digit}

pub pointwise_same : (v w : List ℕ) → pointwise eqb v w ≡ same v w
unfolding same
pointwise_same [] [] = refl
pointwise_same [] (b ∷ w) = refl
pointwise_same (a ∷ v) [] = refl
pointwise_same (a ∷ v) (b ∷ w) = ap (both (eqb a b)) (pointwise_same v w)

-- one of four bytes
eqb_swap : (a b : ℕ) → eqb a b ≡ eqb b a
eqb_swap a b = go (eqb b a) refl
  where
    go : (t : Bool) → eqb b a ≡ t → eqb a b ≡ t
    go true e = eq-eqb a b (sym (eqb-true b a e))
    go false e = ne_eqb a b (λ q. eqb-false b a e (sym q))

and_both : (s t : Bool) → (s && t) ≡ both s t
and_both true t = refl
and_both false t = refl

pub any_blank : (b : ℕ) → list_any (λ y. eqb y b) (32 ∷ 9 ∷ 10 ∷ 13 ∷ []) ≡ is_blank b
unfolding is_blank
any_blank b = rw (eqb_swap 32 b, eqb_swap 9 b, eqb_swap 10 b, eqb_swap 13 b) (go (eqb b 32) (eqb b 9) (eqb b 10) (eqb b 13))
  where
    go : (s t u v : Bool) → (s || (t || (u || (v || false)))) ≡ either s (either t (either u v))
    go true t u v = refl
    go false true u v = refl
    go false false true v = refl
    go false false false true = refl
    go false false false false = refl

pub in_digits : (b : ℕ) → is_in_range 48 57 b ≡ is_digit b
unfolding is_digit
in_digits b = and_both (leb 48 b) (leb b 57)

pub dash_first : (w : List ℕ) → eqb (get_or w 0 0) 45 ≡ starts (is "-") w
unfolding starts
dash_first [] = refl
dash_first (b ∷ w) = refl

pub dash_none : (w : List ℕ) → length w ≡ 0 → false ≡ starts (is "-") w
unfolding starts
dash_none [] e = refl
dash_none (b ∷ w) e = absurd (omega arith)
