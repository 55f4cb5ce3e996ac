-- Laws for scanning a text by positions: what stands from byte i on is `drop i text`.
use mathlib.Core.Path.{◌≡◌, refl, sym, ap, ◌∙◌}
use mathlib.Core.Bool.{Bool, true, false}
use mathlib.Core.List.{List, [], ◌∷◌}
use Prim.Native.Nat.{ℕ, zero, suc, ◌+◌, ◌-◌, ◌≤◌, ◌<◌}
use native.Mathlib.Omega.{arith}
use native.Mathlib.Numerals.{add-one}
use lib.Dec.{eqb}
use lib.ListN.{length, get_or, take, drop, length-drop, drop_of_length-le}
use lib.Seq.{drop-cons, take_all}
use borrow.Author.Tests.{eq-eqb, ne_eqb}
use Rattle.word.specs.Choice.{both}
use Rattle.language.specs.Tokens.{starts, same, span}
use Rattle.tokens.specs.Seen.{SpansBy}
use Rattle.tokens.proofs.Lists.{same_eq}

-- the byte at i is the first of the rest; P does not hold of 0, which stands for the end
pub starts_at : (P : ℕ → Bool) → P 0 ≡ false → (text : List ℕ) (i : ℕ) → starts P (drop i text) ≡ P (get_or text i 0)
unfolding starts
starts_at P z [] zero = sym z
starts_at P z [] (suc i) = sym z
starts_at P z (b ∷ l) zero = refl
starts_at P z (b ∷ l) (suc i) = starts_at P z l i

-- how long the longest beginning is: so many bytes that were looked at, and those of the rest
module _ (P : ℕ → Bool) (rest : List ℕ) (i : ℕ) (inv : length (span P rest) ≡ i + length (span P (drop i rest))) where
  pub span_on : i < length rest → P (get_or rest i 0) ≡ true → length (span P rest) ≡ i + 1 + length (span P (drop (i + 1) rest))
  unfolding span
  span_on h e = inv ∙ rw (drop-cons rest i 0 h, e, add-one) (omega arith)

  pub span_off : i < length rest → P (get_or rest i 0) ≡ false → i ≡ length (span P rest)
  unfolding span
  span_off h e = sym (inv ∙ rw (drop-cons rest i 0 h, e) (omega arith))

  pub span_out : length rest ≤ i → i ≤ length rest → length rest ≡ length (span P rest)
  unfolding span
  span_out h k = let q : i ≡ length (span P rest) = sym (inv ∙ rw (drop_of_length-le rest h) (omega arith)) in omega (arith, q, h, k)

-- the text from i on, as a slice of it
pub from_on : (text : List ℕ) (i : ℕ) → take (length text - i) (drop i text) ≡ drop i text
from_on text i = take_all (length text - i) (drop i text) (omega (arith, length-drop i text))

-- how long its longest beginning is
pub counts : {says : ℕ → Bool → Type 0} (P : ℕ → Bool) (text : List ℕ) (i : ℕ) {n : ℕ} → SpansBy says (take (length text - i) (drop i text)) n → ((b : ℕ) (r : Bool) → b < 256 → says b r → r ≡ P b) → n ≡ length (span P (drop i text))
counts P text i s h = s.by P h ∙ ap (λ (l : List ℕ). length (span P l)) (from_on text i)

-- Comparing with a spelling.

module _ (v w : List ℕ) (k : ℕ) (inv : same v w ≡ same (drop k v) (drop k w)) (h : k < length v) (g : k < length w) where
  same_step : same v w ≡ both (eqb (get_or v k 0) (get_or w k 0)) (same (drop (suc k) v) (drop (suc k) w))
  unfolding same
  same_step = inv ∙ rw (drop-cons v k 0 h, drop-cons w k 0 g)

  pub same_on : get_or v k 0 ≡ get_or w k 0 → same v w ≡ same (drop (k + 1) v) (drop (k + 1) w)
  same_on e = same_step ∙ rw (eq-eqb (get_or v k 0) (get_or w k 0) e, add-one)

  pub same_off : (get_or v k 0 ≡ get_or w k 0 → ⊥) → false ≡ same v w
  same_off n = sym (same_step ∙ rw (ne_eqb (get_or v k 0) (get_or w k 0) n))

pub same_out : (v w : List ℕ) (k : ℕ) → same v w ≡ same (drop k v) (drop k w) → length v ≤ k → length w ≤ k → true ≡ same v w
unfolding same
same_out v w k inv h g = sym (inv ∙ rw (drop_of_length-le v h, drop_of_length-le w g))

pub same_other : (v w : List ℕ) → (length v ≡ length w → ⊥) → false ≡ same v w
same_other v w n = go (same v w) refl
  where
    go : (t : Bool) → same v w ≡ t → false ≡ t
    go true e = absurd (n (ap length (same_eq v w e)))
    go false e = refl
