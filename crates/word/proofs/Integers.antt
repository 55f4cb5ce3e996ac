-- What the operations on words mean, in the integers that the words stand for (specs/Integers). With these laws beside it the definitions of
-- specs/Word need not be believed. The proofs are in Readings.
use Prim.Native.Nat.{ℕ, ◌-◌, ◌^◌, ◌<◌, ◌≤◌}
use mathlib.Core.Path.{◌≡◌}
use mathlib.Core.Logic.{◌↔◌}
use mathlib.Core.Bool.{true}
use lib.Dec.{leb}
use lib.IntN.{ℤ, pos, neg_ℤ, ◌+ℤ◌, ◌-ℤ◌, ◌*ℤ◌}
use lib.Signed.{quot_z, ◌≤ℤ◌, ◌<ℤ◌}
use Rattle.word.specs.Choice.{pick}
use Rattle.word.specs.Word.{add_w, sub_w, neg_w, mul_w, lt_s, quot_s, rem_s, shl_w, shr_s, mulh_ss, mulh_su, mulh_uu, sign_extend}
use Rattle.word.specs.Integers.{to_z, of_z, wrap, Wraps, Divided, RoundedDown}
use Rattle.word.proofs.Readings as proved

-- A word stands for a number from - 2 ^ 31 to 2 ^ 31 - 1, and no two words for one.
pub to_z_least : (a : ℕ) → neg_ℤ (pos (2 ^ 31)) ≤ℤ to_z a
to_z_least = proved.to_z_least

pub to_z_most : (a : ℕ) → a < 2 ^ 32 → to_z a ≤ℤ pos (2 ^ 31 - 1)
to_z_most = proved.to_z_most

pub of_z_to_z : (a : ℕ) → a < 2 ^ 32 → of_z (to_z a) ≡ a
of_z_to_z = proved.of_z_to_z

-- Wrapping gives the one number in that range that differs by a multiple of 2 ^ 32, so that what is in the range stays.
pub wrap_wraps : (k : ℤ) → Wraps k (wrap k)
wrap_wraps = proved.wrap_wraps

pub wrap_only : (k r : ℤ) → Wraps k r → r ≡ wrap k
wrap_only = proved.wrap_only

pub wrap_fits : (k : ℤ) → neg_ℤ (pos (2 ^ 31)) ≤ℤ k → k ≤ℤ pos (2 ^ 31 - 1) → wrap k ≡ k
wrap_fits = proved.wrap_fits

-- Sums, differences, negations, products and shifts to the left are those of the integers, wrapped.
pub to_z_add_w : (a b : ℕ) → to_z (add_w a b) ≡ wrap (to_z a +ℤ to_z b)
to_z_add_w = proved.to_z_add_w

pub to_z_sub_w : (a b : ℕ) → b < 2 ^ 32 → to_z (sub_w a b) ≡ wrap (to_z a -ℤ to_z b)
to_z_sub_w = proved.to_z_sub_w

pub to_z_neg_w : (a : ℕ) → a < 2 ^ 32 → to_z (neg_w a) ≡ wrap (neg_ℤ (to_z a))
to_z_neg_w = proved.to_z_neg_w

pub to_z_mul_w : (a b : ℕ) → to_z (mul_w a b) ≡ wrap (to_z a *ℤ to_z b)
to_z_mul_w = proved.to_z_mul_w

pub to_z_shl_w : (a s : ℕ) → to_z (shl_w a s) ≡ wrap (to_z a *ℤ pos (2 ^ s))
to_z_shl_w = proved.to_z_shl_w

-- The signed order is that of the integers.
pub lt_s_less : (a b : ℕ) → a < 2 ^ 32 → b < 2 ^ 32 → (lt_s a b ≡ true) ↔ (to_z a <ℤ to_z b)
lt_s_less = proved.lt_s_less

-- The quotient rounds toward zero, and the remainder is what it leaves, with the left side's sign. The quotient wraps at - 2 ^ 31 by - 1 alone.
pub to_z_divided : (a b : ℕ) → a < 2 ^ 32 → b < 2 ^ 32 → (b ≡ 0 → ⊥) → Divided (to_z a) (to_z b) (quot_z (to_z a) (to_z b)) (to_z (rem_s a b))
to_z_divided = proved.to_z_divided

pub to_z_quot_s : (a b : ℕ) → a < 2 ^ 32 → b < 2 ^ 32 → to_z (quot_s a b) ≡ wrap (quot_z (to_z a) (to_z b))
to_z_quot_s = proved.to_z_quot_s

pub to_z_quot_s_exact : (a b : ℕ) → a < 2 ^ 32 → b < 2 ^ 32 → (a ≡ 2 ^ 31 → b ≡ 2 ^ 32 - 1 → ⊥) → to_z (quot_s a b) ≡ quot_z (to_z a) (to_z b)
to_z_quot_s_exact = proved.to_z_quot_s_exact

-- The shift to the right that fills with the top bit divides by 2 ^ s and rounds down.
pub shr_s_rounded : (a s : ℕ) → a < 2 ^ 32 → RoundedDown (to_z a) (2 ^ s) (to_z (shr_s a s))
shr_s_rounded = proved.shr_s_rounded

-- A number of so many bits, sign-extended, stands for itself, less 2 ^ bits if its top bit is set.
pub to_z_sign_extend : (bits n : ℕ) → 0 < bits → bits ≤ 32 → n < 2 ^ bits → to_z (sign_extend bits n) ≡ pick (leb (2 ^ (bits - 1)) n) (pos n -ℤ pos (2 ^ bits)) (pos n)
to_z_sign_extend = proved.to_z_sign_extend

-- The two halves of a product make the product: signed by signed, signed by unsigned, unsigned by unsigned.
pub to_z_mulh_ss : (a b : ℕ) → a < 2 ^ 32 → b < 2 ^ 32 → to_z (mulh_ss a b) *ℤ pos (2 ^ 32) +ℤ pos (mul_w a b) ≡ to_z a *ℤ to_z b
to_z_mulh_ss = proved.to_z_mulh_ss

pub to_z_mulh_su : (a b : ℕ) → a < 2 ^ 32 → b < 2 ^ 32 → to_z (mulh_su a b) *ℤ pos (2 ^ 32) +ℤ pos (mul_w a b) ≡ to_z a *ℤ pos b
to_z_mulh_su = proved.to_z_mulh_su

pub to_z_mulh_uu : (a b : ℕ) → a < 2 ^ 32 → b < 2 ^ 32 → pos (mulh_uu a b) *ℤ pos (2 ^ 32) +ℤ pos (mul_w a b) ≡ pos a *ℤ pos b
to_z_mulh_uu = proved.to_z_mulh_uu
