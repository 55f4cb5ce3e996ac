-- Sign extension: flipping a number's top bit and taking its weight away copies the bit into all places above it.
use Prim.Native.Nat.{ℕ, suc, ◌+◌, ◌-◌, ◌*◌, ◌/◌, ◌%◌, ◌^◌, ◌<◌, ◌≤◌}
use mathlib.Core.Path.{◌≡◌, sym, ◌∙◌, ap}
use native.Mathlib.Omega.{arith}
use native.Mathlib.Nat.{zero-mul, one-mul, zero-add, add-zero, div-eq_of_lt, div-eq_of_lt-le, pow-succ', mul_assoc, add-mul-mod_self_right, mod-eq_of_lt}
use lib.Pow.{pow_pos, pow_mono, high_ones}
use lib.Bits.{bit_xor, xor_block, xor_zero_r}
use lib.Arith.{digits_div}
use Rattle.word.specs.Word.{sub_w, sign_extend}
use Rattle.word.proofs.Cases.{by_order}

-- the top bit flipped, at a number without it and at one with it

flip_clear : (k n : ℕ) → n < 2 ^ k → bit_xor n (2 ^ k) ≡ 2 ^ k + n
flip_clear k n h = simp (zero-mul, one-mul, zero-add, add-zero, xor_zero_r) at (xor_block k 0 1 n 0 h (pow_pos k))

flip_set : (k n : ℕ) → n < 2 ^ k → bit_xor (2 ^ k + n) (2 ^ k) ≡ n
flip_set k n h = simp (zero-mul, one-mul, zero-add, add-zero, xor_zero_r) at (xor_block k 1 1 n 0 h (pow_pos k))

-- what the function computes, at a number without its top bit and at one with it; H is the bit's weight

clear : (H n : ℕ) → H ≤ 2 ^ 31 → n < H → (H + n + (2 ^ 32 - H)) % 2 ^ 32 ≡ n + 0 * (2 ^ 32 - 2 * H)
clear H n hH h = omega arith

set : (H n : ℕ) → H ≤ 2 ^ 31 → n < H → (n + (2 ^ 32 - H)) % 2 ^ 32 ≡ H + n + 1 * (2 ^ 32 - 2 * H)
set H n hH h = omega arith

-- a width of one bit more doubles the power
pub double : (bits : ℕ) → 0 < bits → 2 ^ bits ≡ 2 * 2 ^ (bits - 1)
double bits h = ap (λ (m : ℕ). 2 ^ m) e ∙ pow-succ' 2 (bits - 1)
  where
    e : bits ≡ suc (bits - 1)
    e = omega arith

module _ (bits : ℕ) (some : 0 < bits) (most : bits ≤ 32) where
  pub weight : 2 ^ (bits - 1) ≤ 2 ^ 31
  weight = pow_mono {j = 31} (omega arith)

  extended_clear : (n : ℕ) → n < 2 ^ (bits - 1) → sub_w (bit_xor n (2 ^ (bits - 1))) (2 ^ (bits - 1)) ≡ sign_extend bits n
  unfolding sub_w sign_extend
  extended_clear n h = rw (flip_clear (bits - 1) n h, div-eq_of_lt h, double bits some) (clear (2 ^ (bits - 1)) n weight h)

  top : (n : ℕ) → n < 2 ^ (bits - 1) → (2 ^ (bits - 1) + n) / 2 ^ (bits - 1) ≡ 1
  top n h = rw one-mul at (digits_div 1 h)

  extended_set : (n : ℕ) → n < 2 ^ (bits - 1) → sub_w (bit_xor (2 ^ (bits - 1) + n) (2 ^ (bits - 1))) (2 ^ (bits - 1)) ≡ sign_extend bits (2 ^ (bits - 1) + n)
  unfolding sub_w sign_extend
  extended_set n h = rw (flip_set (bits - 1) n h, top n h, double bits some) (set (2 ^ (bits - 1)) n weight h)

  -- 1 shifted to the top bit's place
  one_shifted : 1 * 2 ^ (bits - 1) % 2 ^ 32 ≡ 2 ^ (bits - 1)
  one_shifted = omega (arith, weight)

  pub extended : (n : ℕ) → n < 2 ^ bits → sub_w (bit_xor n (1 * 2 ^ (bits - 1) % 2 ^ 32)) (1 * 2 ^ (bits - 1) % 2 ^ 32) ≡ sign_extend bits n
  extended n h = rw one_shifted (by_order n (2 ^ (bits - 1)) (λ l. extended_clear n l) (λ l. rw (sym (rest l)) at (extended_set (n - 2 ^ (bits - 1)) (small l))))
    where
      rest : 2 ^ (bits - 1) ≤ n → n ≡ 2 ^ (bits - 1) + (n - 2 ^ (bits - 1))
      rest l = omega arith

      small : 2 ^ (bits - 1) ≤ n → n - 2 ^ (bits - 1) < 2 ^ (bits - 1)
      small l = omega (arith, double bits some)

  -- a number without its top bit stays, one with it gets all bits above
  pub sign_extend_clear : (n : ℕ) → n < 2 ^ (bits - 1) → sign_extend bits n ≡ n
  unfolding sign_extend
  sign_extend_clear n h = rw (div-eq_of_lt h) (omega arith)

  pub sign_extend_set : (n : ℕ) → 2 ^ (bits - 1) ≤ n → n < 2 ^ bits → sign_extend bits n ≡ n + (2 ^ 32 - 2 ^ bits)
  unfolding sign_extend
  sign_extend_set n l h = rw e (omega arith)
    where
      e : n / 2 ^ (bits - 1) ≡ 1
      e = div-eq_of_lt-le (2 ^ (bits - 1)) (omega arith) (omega (arith, double bits some))

  -- the bits above are a number of whole 2 ^ bits
  above : 2 ^ 32 - 2 ^ bits ≡ (2 ^ (32 - bits) - 1) * 2 ^ bits
  above = ap (λ (m : ℕ). 2 ^ m - 2 ^ bits) e ∙ high_ones (32 - bits) bits
    where
      e : 32 ≡ 32 - bits + bits
      e = omega arith

  -- the lower bits are the number
  pub sign_extend_low : (n : ℕ) → n < 2 ^ bits → sign_extend bits n % 2 ^ bits ≡ n
  unfolding sign_extend
  sign_extend_low n h =
      ap (λ (m : ℕ). (n + m) % 2 ^ bits) (ap (λ (m : ℕ). n / 2 ^ (bits - 1) * m) above ∙ sym (mul_assoc (n / 2 ^ (bits - 1)) (2 ^ (32 - bits) - 1) (2 ^ bits)))
      ∙ add-mul-mod_self_right n (n / 2 ^ (bits - 1) * (2 ^ (32 - bits) - 1)) (2 ^ bits)
      ∙ mod-eq_of_lt h
