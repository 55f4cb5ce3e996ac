-- Sums and differences of words: a commutative group, in which differences undo sums.
use Prim.Native.Nat.{ℕ, ◌+◌, ◌-◌, ◌%◌, ◌^◌, ◌<◌, ◌≤◌}
use mathlib.Core.Path.{◌≡◌, ap}
use native.Mathlib.Omega.{arith}
use native.Mathlib.Nat.{mul_comm}
use Rattle.word.specs.Word.{add_w, sub_w, neg_w, mul_w}

pub add_w_comm : (a b : ℕ) → add_w a b ≡ add_w b a
unfolding add_w
add_w_comm a b = omega arith

pub add_w_assoc : (a b c : ℕ) → add_w (add_w a b) c ≡ add_w a (add_w b c)
unfolding add_w
add_w_assoc a b c = omega arith

pub add_w_zero : (a : ℕ) → a < 2 ^ 32 → add_w a 0 ≡ a
unfolding add_w
add_w_zero a h = omega arith

-- no sum wraps that stays below 2 ^ 32
pub add_w_small : (a b : ℕ) → a + b < 2 ^ 32 → add_w a b ≡ a + b
unfolding add_w
add_w_small a b h = omega arith

pub sub_w_small : (a b : ℕ) → a < 2 ^ 32 → b ≤ a → sub_w a b ≡ a - b
unfolding sub_w
sub_w_small a b ha h = omega arith

pub sub_w_add_w : (a b : ℕ) → a < 2 ^ 32 → b < 2 ^ 32 → sub_w (add_w a b) b ≡ a
unfolding add_w sub_w
sub_w_add_w a b ha hb = omega arith

pub add_w_sub_w : (a b : ℕ) → a < 2 ^ 32 → b < 2 ^ 32 → add_w (sub_w a b) b ≡ a
unfolding add_w sub_w
add_w_sub_w a b ha hb = omega arith

pub sub_w_self : (a : ℕ) → a < 2 ^ 32 → sub_w a a ≡ 0
unfolding sub_w
sub_w_self a h = omega arith

-- a difference is the sum with the negation, and the negation the difference from 0
pub add_w_neg_w : (a b : ℕ) → b < 2 ^ 32 → add_w a (neg_w b) ≡ sub_w a b
unfolding add_w sub_w neg_w
add_w_neg_w a b hb = omega arith

pub neg_w_sub_w : (a : ℕ) → neg_w a ≡ sub_w 0 a
unfolding sub_w neg_w
neg_w_sub_w a = omega arith

pub neg_w_neg_w : (a : ℕ) → a < 2 ^ 32 → neg_w (neg_w a) ≡ a
unfolding neg_w
neg_w_neg_w a h = omega arith

pub mul_w_comm : (a b : ℕ) → mul_w a b ≡ mul_w b a
unfolding mul_w
mul_w_comm a b = ap (λ (n : ℕ). n % 2 ^ 32) (mul_comm a b)
