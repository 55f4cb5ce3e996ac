-- A word is negative or not: the two cases in which every signed operation is proved, and what the signed functions need of them.
use Prim.Native.Nat.{ℕ, ◌+◌, ◌-◌, ◌%◌, ◌^◌, ◌<◌, ◌≤◌}
use mathlib.Core.Path.{◌≡◌, refl}
use mathlib.Core.Bool.{Bool, true, false}
use native.Mathlib.Omega.{arith}
use lib.Dec.{ltb}
use borrow.Author.Tests.{lt-ltb, le-ltb, le-leb, lt-leb, leb-true, leb-false}
use Rattle.word.specs.Choice.{pick, agree}
use Rattle.word.specs.Word.{negative, magnitude, lt_s}
use Rattle.word.proofs.Cases.{ltb_iff}

-- the test and what it says

pub negative_is : (a : ℕ) → 2 ^ 31 ≤ a → negative a ≡ true
unfolding negative
negative_is a h = le-leb _ _ h

pub negative_isnt : (a : ℕ) → a < 2 ^ 31 → negative a ≡ false
unfolding negative
negative_isnt a h = lt-leb _ _ h

pub negative_true : (a : ℕ) → negative a ≡ true → 2 ^ 31 ≤ a
unfolding negative
negative_true a e = leb-true _ _ e

pub negative_false : (a : ℕ) → negative a ≡ false → a < 2 ^ 31
unfolding negative
negative_false a e = leb-false _ _ e

-- what holds of the words of either sign holds of all
pub by_sign {ℓ} : (a : ℕ) (P : Bool → Type ℓ) → (2 ^ 31 ≤ a → P true) → (a < 2 ^ 31 → P false) → P (negative a)
by_sign a P f g = go (negative a) refl
  where
    go : (x : Bool) → negative a ≡ x → P x
    go true e = f (negative_true a e)
    go false e = g (negative_false a e)

-- the magnitude of either

pub magnitude_positive : (a : ℕ) → a < 2 ^ 31 → magnitude a ≡ a
unfolding magnitude
magnitude_positive a h = simp (negative_isnt a h)

pub magnitude_negative : (a : ℕ) → 2 ^ 31 ≤ a → magnitude a ≡ 2 ^ 32 - a
unfolding magnitude
magnitude_negative a h = simp (negative_is a h)

-- only 0 has the magnitude 0
pub magnitude_pos : (b : ℕ) → b < 2 ^ 32 → (b ≡ 0 → ⊥) → 0 < magnitude b
unfolding magnitude
magnitude_pos b hb h = by_sign b (λ x. 0 < pick x (2 ^ 32 - b) b) (λ (p : 2 ^ 31 ≤ b). omega arith) (λ (p : b < 2 ^ 31). omega (arith, h))

-- With the top bit flipped, the unsigned order is the signed one.
pub flipped : (a b : ℕ) → a < 2 ^ 32 → b < 2 ^ 32 → ltb ((a + 2147483648) % 4294967296) ((b + 2147483648) % 4294967296) ≡ lt_s a b
unfolding lt_s
flipped a b ha hb = go (negative a) refl (negative b) refl
  where
    go : (x : Bool) → negative a ≡ x → (y : Bool) → negative b ≡ y → ltb ((a + 2147483648) % 4294967296) ((b + 2147483648) % 4294967296) ≡ pick (agree x y) (ltb a b) x
    go true p true q = let p' = negative_true a p in let q' = negative_true b q in ltb_iff ((a + 2147483648) % 4294967296) ((b + 2147483648) % 4294967296) a b (λ h. omega arith) (λ h. omega arith)
    go true p false q = let p' = negative_true a p in let q' = negative_false b q in lt-ltb ((a + 2147483648) % 4294967296) ((b + 2147483648) % 4294967296) (omega arith)
    go false p true q = let p' = negative_false a p in let q' = negative_true b q in le-ltb ((a + 2147483648) % 4294967296) ((b + 2147483648) % 4294967296) (omega arith)
    go false p false q = let p' = negative_false a p in let q' = negative_false b q in ltb_iff ((a + 2147483648) % 4294967296) ((b + 2147483648) % 4294967296) a b (λ h. omega arith) (λ h. omega arith)
