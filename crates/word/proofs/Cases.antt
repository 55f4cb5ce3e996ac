-- Cases by an order of two numbers, and tests of it.
use Prim.Native.Nat.{ℕ, ◌<◌, ◌≤◌}
use mathlib.Core.Path.{◌≡◌, refl, sym, ◌∙◌}
use mathlib.Core.Bool.{Bool, true, false}
use lib.Dec.{ltb, leb}
use borrow.Author.Tests.{lt-ltb, le-ltb, le-leb, lt-leb, ltb-true, ltb-false}

-- what holds where m < n and where n ≤ m holds
pub by_order {ℓ} : (m n : ℕ) {P : Type ℓ} → (m < n → P) → (n ≤ m → P) → P
by_order m n {P} f g = go (ltb m n) refl
  where
    go : (x : Bool) → ltb m n ≡ x → P
    go true e = f (ltb-true _ _ e)
    go false e = g (ltb-false _ _ e)

-- two tests agree where each side of the one gives that side of the other
pub ltb_iff : (m n m' n' : ℕ) → (m < n → m' < n') → (n ≤ m → n' ≤ m') → ltb m n ≡ ltb m' n'
ltb_iff m n m' n' f g = by_order m n (λ h. lt-ltb m n h ∙ sym (lt-ltb _ _ (f h))) (λ h. le-ltb m n h ∙ sym (le-ltb _ _ (g h)))

pub leb_iff : (m n m' n' : ℕ) → (m ≤ n → m' ≤ n') → (n < m → n' < m') → leb m n ≡ leb m' n'
leb_iff m n m' n' f g = by_order n m (λ h. lt-leb m n h ∙ sym (lt-leb _ _ (g h))) (λ h. le-leb m n h ∙ sym (le-leb _ _ (f h)))
