-- Every operation on words gives a word: `f_w_lt` says that the result of `f_w` is below 2 ^ 32. Each asks of its operands only what it needs.
use Prim.Native.Nat.{ℕ, ◌+◌, ◌-◌, ◌*◌, ◌/◌, ◌%◌, ◌^◌, ◌<◌, ◌≤◌}
use mathlib.Core.Path.{subst}
use mathlib.Core.Bool.{Bool, true, false}
use native.Mathlib.Omega.{arith}
use native.Mathlib.Nat.{mod-lt, mod-le, div-le_self, lt_of_le_of_lt}
use lib.Bits.{and_le_l, or_lt, xor_lt}
use lib.Pow.{pow_pos, shr_le}
use Rattle.word.specs.Choice.{pick, agree}
use Rattle.word.specs.Word.{add_w, sub_w, neg_w, mul_w, negative, magnitude, quot_s, rem_s, quot_u, rem_u, and_w, or_w, xor_w, shl_w, shr_u, shr_s, wide, upper, mulh_ss, mulh_su, mulh_uu, sign_extend, bit_of}
use Rattle.word.proofs.Sign.{by_sign}
use Rattle.word.proofs.Extend.{extended}

-- a property of both ways is a property of the choice
picked {ℓ} : {A : Type 0} (P : A → Type ℓ) (x : Bool) {a b : A} → P a → P b → P (pick x a b)
picked P true p q = p
picked P false p q = q

pub add_w_lt : (a b : ℕ) → add_w a b < 2 ^ 32
unfolding add_w
add_w_lt a b = mod-lt (a + b) (pow_pos 32)

pub sub_w_lt : (a b : ℕ) → sub_w a b < 2 ^ 32
unfolding sub_w
sub_w_lt a b = mod-lt (a + (2 ^ 32 - b)) (pow_pos 32)

pub neg_w_lt : (a : ℕ) → neg_w a < 2 ^ 32
unfolding neg_w
neg_w_lt a = mod-lt (2 ^ 32 - a) (pow_pos 32)

pub mul_w_lt : (a b : ℕ) → mul_w a b < 2 ^ 32
unfolding mul_w
mul_w_lt a b = mod-lt (a * b) (pow_pos 32)

pub magnitude_le : (a : ℕ) → magnitude a ≤ 2 ^ 31
unfolding magnitude
magnitude_le a = by_sign a (λ x. pick x (2 ^ 32 - a) a ≤ 2 ^ 31) (λ (h : 2 ^ 31 ≤ a). omega arith) (λ (h : a < 2 ^ 31). omega arith)

pub magnitude_lt : (a : ℕ) → magnitude a < 2 ^ 32
magnitude_lt a = omega (arith, magnitude_le a)

pub quot_s_lt : (a b : ℕ) → quot_s a b < 2 ^ 32
unfolding quot_s
quot_s_lt a b = picked (λ (n : ℕ). n < 2 ^ 32) (agree (negative a) (negative b)) (lt_of_le_of_lt (div-le_self (magnitude a) (magnitude b)) (magnitude_lt a)) (neg_w_lt (magnitude a / magnitude b))

pub rem_s_lt : (a b : ℕ) → rem_s a b < 2 ^ 32
unfolding rem_s
rem_s_lt a b = picked (λ (n : ℕ). n < 2 ^ 32) (negative a) (neg_w_lt (magnitude a % magnitude b)) (lt_of_le_of_lt (mod-le (magnitude a) (magnitude b)) (magnitude_lt a))

pub quot_u_lt : (a b : ℕ) → a < 2 ^ 32 → quot_u a b < 2 ^ 32
unfolding quot_u
quot_u_lt a b h = lt_of_le_of_lt (div-le_self a b) h

pub rem_u_lt : (a b : ℕ) → a < 2 ^ 32 → rem_u a b < 2 ^ 32
unfolding rem_u
rem_u_lt a b h = lt_of_le_of_lt (mod-le a b) h

pub and_w_lt : (a b : ℕ) → a < 2 ^ 32 → and_w a b < 2 ^ 32
unfolding and_w
and_w_lt a b h = lt_of_le_of_lt (and_le_l a b) h

pub or_w_lt : (a b : ℕ) → a < 2 ^ 32 → b < 2 ^ 32 → or_w a b < 2 ^ 32
unfolding or_w
or_w_lt a b ha hb = or_lt 32 a b ha hb

pub xor_w_lt : (a b : ℕ) → a < 2 ^ 32 → b < 2 ^ 32 → xor_w a b < 2 ^ 32
unfolding xor_w
xor_w_lt a b ha hb = xor_lt 32 a b ha hb

pub shl_w_lt : (a s : ℕ) → shl_w a s < 2 ^ 32
unfolding shl_w
shl_w_lt a s = mod-lt (a * 2 ^ s) (pow_pos 32)

pub shr_u_lt : (a s : ℕ) → a < 2 ^ 32 → shr_u a s < 2 ^ 32
unfolding shr_u
shr_u_lt a s h = lt_of_le_of_lt (shr_le a s) h

pub shr_s_lt : (a s : ℕ) → shr_s a s < 2 ^ 32
unfolding shr_s
shr_s_lt a s = by_sign a (λ x. pick x (2 ^ 32 - 1 - (2 ^ 32 - 1 - a) / 2 ^ s) (a / 2 ^ s) < 2 ^ 32) (λ h. omega arith) (λ (h : a < 2 ^ 31). omega (arith, shr_le a s))

pub upper_lt : (p : ℕ) → upper p < 2 ^ 32
unfolding upper
upper_lt p = omega arith

pub mulh_ss_lt : (a b : ℕ) → mulh_ss a b < 2 ^ 32
unfolding mulh_ss
mulh_ss_lt a b = upper_lt (wide a * wide b)

pub mulh_su_lt : (a b : ℕ) → mulh_su a b < 2 ^ 32
unfolding mulh_su
mulh_su_lt a b = upper_lt (wide a * b)

pub mulh_uu_lt : (a b : ℕ) → mulh_uu a b < 2 ^ 32
unfolding mulh_uu
mulh_uu_lt a b = upper_lt (a * b)

pub sign_extend_lt : (bits n : ℕ) → 0 < bits → bits ≤ 32 → n < 2 ^ bits → sign_extend bits n < 2 ^ 32
sign_extend_lt bits n some most h = subst (λ (m : ℕ). m < 2 ^ 32) (extended bits some most n h) (sub_w_lt _ _)

pub bit_of_lt : (b : Bool) → bit_of b < 2
unfolding bit_of
bit_of_lt b = picked (λ (n : ℕ). n < 2) b (omega arith) (omega arith)
