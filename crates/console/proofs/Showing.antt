-- A word shown: the sign stands before the digits, and nothing between.
use mathlib.Core.Path.{◌≡◌, refl, ap, ◌∙◌}
use mathlib.Core.List.{List, [], ◌∷◌, ◌++◌}
use mathlib.Core.Bool.{Bool, true, false}
use Prim.Native.Nat.{ℕ, ◌+◌, ◌-◌, ◌^◌, ◌≤◌, ◌<◌}
use native.Mathlib.Nat.{pow-le-pow_right}
use lib.Dec.{leb}
use native.Mathlib.Omega.{arith}
use lib.ListN.{length, take, drop, set, length-append}
use lib.Seq.{take_at, length-take-le}
use borrow.Author.Tests.{le-leb, lt-leb, leb-true, leb-false}
use Rattle.word.specs.Word.{negative, magnitude}
use Rattle.processor.specs.Machine.{placed}
use Rattle.io.specs.Digits.{last_digits, IsDigitCount}
use Rattle.console.specs.Shown.{Shows}

-- a word has ten digits at most
pub few : (n k : ℕ) → n < 2 ^ 32 → IsDigitCount 10 1 n k → k ≤ 10
few n k h f = go (leb k 10) refl
  where
    go : (t : Bool) → leb k 10 ≡ t → k ≤ 10
    go true e = leb-true k 10 e
    go false e =
        let more : 10 < k = leb-false k 10 e in
        let least : 10 ^ 10 ≤ 10 ^ (k - 1) = pow-le-pow_right {n = 10} (omega arith) {i = 10} {j = k - 1} (omega arith) in
        let most : 10 ^ (k - 1) ≤ n = f.2 (omega arith) in
        absurd (omega arith)

take_placed : (d : List ℕ) (at : ℕ) (s : List ℕ) → at ≤ length d → take (at + length s) (placed d at s) ≡ take at d ++ s
unfolding placed
take_placed d at s h =
    take_at (take at d ++ s) (drop (at + length s) d) (at + length s) (length-append (take at d) s ∙ ap (λ n. n + length s) (length-take-le at d h))

one : (out : List ℕ) → 2 ≤ length out → take 1 (set out 0 32) ≡ 32 ∷ []
one [] h = absurd (omega arith)
one (a ∷ out) h = refl

two : (out : List ℕ) → 2 ≤ length out → take 2 (set (set out 0 32) 1 45) ≡ 32 ∷ 45 ∷ []
two [] h = absurd (omega arith)
two (a ∷ []) h = absurd (omega arith)
two (a ∷ b ∷ out) h = refl

module _ (w k n : ℕ) (out ds o : List ℕ) (enough : 2 ≤ length out) (size : length ds ≡ k) (fewest : IsDigitCount 10 1 n k) (is : ds ≡ last_digits 10 k n) (of : n ≡ magnitude w) where
  pub shows_plain : w < 2 ^ 31 → o ≡ placed (set out 0 32) 1 ds → 1 ≤ length (set out 0 32) → k + 1 ≤ length o → Shows w (k + 1) o
  unfolding negative
  shows_plain s e l h = record {
    within = h;
    places = k;
    fewest = rw of at fewest;
    text =
        let m : k + 1 ≡ 1 + length ds = omega arith in
        rw (e, m, take_placed (set out 0 32) 1 ds l, one out enough, lt-leb (2 ^ 31) w s) (ap (λ (t : List ℕ). 32 ∷ t) (is ∙ ap (last_digits 10 k) of));
  }

  pub shows_negative : 2 ^ 31 ≤ w → o ≡ placed (set (set out 0 32) 1 45) 2 ds → 2 ≤ length (set (set out 0 32) 1 45) → k + 2 ≤ length o → Shows w (k + 2) o
  unfolding negative
  shows_negative s e l h = record {
    within = h;
    places = k;
    fewest = rw of at fewest;
    text =
        let m : k + 2 ≡ 2 + length ds = omega arith in
        rw (e, m, take_placed (set (set out 0 32) 1 45) 2 ds l, two out enough, le-leb (2 ^ 31) w s) (ap (λ (t : List ℕ). 32 ∷ 45 ∷ t) (is ∙ ap (last_digits 10 k) of));
  }
