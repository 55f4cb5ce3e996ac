-- The integers that words stand for. What each operation of Word means is said by these, in proofs/Integers.antt.
use Rattle.std.specs.Prelude.{ℕ, ◌-◌, ◌%◌, ◌^◌, ◌<◌, ◌≡◌, ◌⊎◌, ℤ, pos, negsuc, neg_ℤ, nat_abs, ◌+ℤ◌, ◌-ℤ◌, ◌*ℤ◌, ◌≤ℤ◌}
use Rattle.std.specs.Int.Signed.{non_neg}
use Rattle.word.specs.Choice.{pick}
use Rattle.word.specs.Word.{negative}

-- The number that a word stands for: the word itself, less 2 ^ 32 if its top bit is set.
unfoldable pub to_z : ℕ → ℤ
to_z a = pick (negative a) (pos a -ℤ pos (2 ^ 32)) (pos a)

-- The word of an integer: what it leaves modulo 2 ^ 32. `negsuc n` is - (n + 1).
unfoldable pub of_z : ℤ → ℕ
of_z (pos n) = n % 2 ^ 32
of_z (negsuc n) = 2 ^ 32 - 1 - n % 2 ^ 32

-- An integer wrapped to 32 bits: the number from - 2 ^ 31 to 2 ^ 31 - 1 that differs from it by a multiple of 2 ^ 32.
unfoldable pub wrap : ℤ → ℤ
wrap k = to_z (of_z k)

-- What makes r the wrapped k: it is from - 2 ^ 31 to 2 ^ 31 - 1, and k is r and so many times 2 ^ 32.
pub record Wraps (k r : ℤ) : Type 0 where
  pub least : neg_ℤ (pos (2 ^ 31)) ≤ℤ r
  pub most : r ≤ℤ pos (2 ^ 31 - 1)
  pub times : ℤ
  pub differs : k ≡ r +ℤ times *ℤ pos (2 ^ 32)

-- What makes q the quotient of a by b, rounded toward zero, and r the remainder: the remainder is smaller than b and is 0 or has a's sign.
pub record Divided (a b q r : ℤ) : Type 0 where
  pub whole : a ≡ b *ℤ q +ℤ r
  pub smaller : nat_abs r < nat_abs b
  pub sign : (r ≡ pos 0) ⊎ (non_neg r ≡ non_neg a)

-- What makes q the quotient of a by m, rounded down.
pub record RoundedDown (a : ℤ) (m : ℕ) (q : ℤ) : Type 0 where
  pub rest : ℕ
  pub smaller : rest < m
  pub whole : a ≡ q *ℤ pos m +ℤ pos rest
