-- Rust's casts between `u32` and `i32`, which are the readings of specs/Integers, and what they make of the signed operations of `i32`.
use Prim.Native.Nat.{ℕ, zero, suc, ◌/◌, ◌^◌, ◌<◌, ◌≤◌}
use mathlib.Core.Path.{◌≡◌, sym, ◌∙◌, ap}
use native.Mathlib.Omega.{arith}
use native.Mathlib.Nat.{div-le_self}
use lib.IntN.{ℤ, pos, negsuc, neg_ℤ}
use lib.Signed.{mag, quot_z, rem_z, shr_z}
use borrow.Author.Tests.{lt-ltb, le-ltb}
use mir.Syntax.{w32}
use mir.Val.{to_z as cast_signed, of_z as cast_unsigned}
use Rattle.std.proofs.lemmas.Int.{of_z-to_z}
use Rattle.word.specs.Word.{quot_s, rem_s, shr_s}
use Rattle.word.specs.Integers.{to_z, of_z}
use Rattle.word.proofs.Cases.{by_order}
use Rattle.word.proofs.Range.{rem_s_lt, shr_s_lt}
use Rattle.word.proofs.Readings.{to_z_positive, to_z_negative, to_z_rem_s, of_z_quot, to_z_shr_s}

pub signed : (a : ℕ) → a < 2 ^ 32 → cast_signed w32 a ≡ to_z a
signed a l = by_order a (2 ^ 31)
    (λ (h : a < 2 ^ 31). rw (lt-ltb a 2147483648 h) (sym (to_z_positive a h)))
    (λ (h : 2 ^ 31 ≤ a). rw (le-ltb a 2147483648 h) (ap negsuc (omega arith) ∙ sym (to_z_negative a h l)))

back : (a : ℕ) → a < 2 ^ 32 → cast_unsigned w32 (to_z a) ≡ a
back a l = ap (cast_unsigned w32) (sym (signed a l)) ∙ of_z-to_z w32 a l

-- an integer that lies within 2 ^ 32 of 0 is cast to its word
unsigned : (z : ℤ) → mag z < 2 ^ 32 → cast_unsigned w32 z ≡ of_z z
unfolding of_z
unsigned (pos n) l = omega arith
unsigned (negsuc n) l = omega arith

mag_word : (a : ℕ) → a < 2 ^ 32 → mag (to_z a) < 2 ^ 31
mag_word a l = by_order a (2 ^ 31)
    (λ (h : a < 2 ^ 31). rw (to_z_positive a h) h)
    (λ (h : 2 ^ 31 ≤ a). rw (to_z_negative a h l) (omega arith))

mag_neg : (n : ℕ) → mag (neg_ℤ (pos n)) ≤ n
mag_neg zero = omega arith
mag_neg (suc n) = omega arith

mag_quot : (z d : ℤ) → mag (quot_z z d) ≤ suc (mag z)
mag_quot (pos a) (pos b) = omega (arith, div-le_self a b)
mag_quot (pos a) (negsuc b) = omega (arith, div-le_self a (suc b), mag_neg (a / suc b))
mag_quot (negsuc a) (pos b) = omega (arith, div-le_self (suc a) b, mag_neg (suc a / b))
mag_quot (negsuc a) (negsuc b) = omega (arith, div-le_self (suc a) (suc b))

-- what the operations of `i32` give, cast back

pub signed_quotient : (a b : ℕ) → a < 2 ^ 32 → b < 2 ^ 32 → cast_unsigned w32 (quot_z (cast_signed w32 a) (cast_signed w32 b)) ≡ quot_s a b
signed_quotient a b ha hb = rw (signed a ha, signed b hb) (unsigned _ (omega (arith, mag_quot (to_z a) (to_z b), mag_word a ha)) ∙ of_z_quot a b ha hb)

pub signed_remainder : (a b : ℕ) → a < 2 ^ 32 → b < 2 ^ 32 → cast_unsigned w32 (rem_z (cast_signed w32 a) (cast_signed w32 b)) ≡ rem_s a b
signed_remainder a b ha hb = rw (signed a ha, signed b hb, ← to_z_rem_s a b ha hb) (back (rem_s a b) (rem_s_lt a b))

pub signed_shift : (a s : ℕ) → a < 2 ^ 32 → cast_unsigned w32 (shr_z (cast_signed w32 a) (2 ^ s)) ≡ shr_s a s
signed_shift a s h = rw (signed a h, ← to_z_shr_s a s h) (back (shr_s a s) (shr_s_lt a s))
