-- The lent log: a word more, and nothing beyond it.
use Prim.Native.Nat.{ℕ, ◌+◌, ◌-◌, ◌<◌, ◌≤◌}
use mathlib.Core.Path.{◌≡◌, refl, sym, ◌∙◌, ap, subst}
use mathlib.Core.List.{List, [], ◌∷◌, ◌++◌}
use native.Mathlib.Omega.{arith}
use native.Mathlib.Numerals.{add-one}
use lib.ListN.{length, take, drop, set, take-append-drop}
use lib.Seq.{take-suc-set, drop-set-lt, drop-drop, drop-append-le, length-take-le}
use Rattle.emulator.specs.Stands.{Grows}

pub one_more : (l : List ℕ) (n x : ℕ) → n < length l → take (n + 1) (set l n x) ≡ take n l ++ (x ∷ [])
one_more l n x h = rw (add-one n) (take-suc-set l n x h)

-- no word
pub same_log : (room : ℕ) (l : List ℕ) (n : ℕ) → n ≤ room → Grows room l n l n
same_log room l n h = record { more = omega arith; fits = h; rest = refl }

-- one word
pub one_word : (room : ℕ) (l : List ℕ) (n x : ℕ) → n < room → Grows room l n (set l n x) (n + 1)
one_word room l n x h = record { more = omega arith; fits = omega arith; rest = drop-set-lt (n + 1) l n x (omega arith) }

-- one step after another
pub then_grows : {room n₀ n₁ n₂ : ℕ} {l₀ l₁ l₂ : List ℕ} → Grows room l₀ n₀ l₁ n₁ → Grows room l₁ n₁ l₂ n₂ → Grows room l₀ n₀ l₂ n₂
then_grows {room} {n₀} {n₁} {n₂} {l₀} {l₁} {l₂} g h = record {
  more = omega (arith, g.more, h.more);
  fits = h.fits;
  rest = h.rest ∙ beyond n₁ n₂ l₁ l₀ h.more g.rest;
}
  where
    beyond : (n k : ℕ) (l l' : List ℕ) → n ≤ k → drop n l ≡ drop n l' → drop k l ≡ drop k l'
    beyond n k l l' h e =
        subst (λ (j : ℕ). drop j l ≡ drop j l') (back n k h) (sym (drop-drop (k - n) n l) ∙ ap (drop (k - n)) e ∙ drop-drop (k - n) n l')
      where
        back : (n k : ℕ) → n ≤ k → n + (k - n) ≡ k
        back n k h = omega arith

-- Where the first words of a log alone were lent on, what they then hold stands before what was beyond them.
pub joined : {n n' : ℕ} (room : ℕ) (l l' : List ℕ) → room ≤ length l → length l' ≡ room → Grows room (take room l) n l' n' → Grows room l n (l' ++ drop room l) n'
joined {n} {n'} room l l' h e g = record {
  more = g.more;
  fits = g.fits;
  rest =
      drop-append-le n' l' (drop room l) (omega (arith, g.fits))
      ∙ ap (λ (x : List ℕ). x ++ drop room l) g.rest
      ∙ sym (drop-append-le n' (take room l) (drop room l) (omega (arith, g.fits, length-take-le room l h)))
      ∙ ap (drop n') (take-append-drop room l);
}
