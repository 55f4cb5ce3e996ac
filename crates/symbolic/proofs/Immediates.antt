-- Which immediates a format holds: of so many bits, a number below the half of them, or the negative of one up to that half.
use Prim.Native.Nat.{ℕ, ◌+◌, ◌-◌, ◌*◌, ◌/◌, ◌%◌, ◌^◌, ◌≤◌, ◌<◌}
use mathlib.Core.Path.{◌≡◌, refl, ap, ◌∙◌}
use native.Mathlib.Omega.{arith}
use native.Mathlib.Nat.{mod-eq_of_lt}
use lib.Arith.{digits_div, digits_mod}
use Rattle.word.specs.Word.{sign_extend}
use Rattle.processor.specs.Instructions.{Extended}

-- of bits whose half is h
small : (h c n : ℕ) → n < h → n ≡ n % (2 * h) + n % (2 * h) / h * c
small h c n k =
    let a : n % (2 * h) ≡ n = mod-eq_of_lt (omega arith) in
    let z : n ≡ 0 * h + n = omega arith in
    let b : n / h ≡ 0 = ap (λ (w : ℕ). w / h) z ∙ digits_div 0 k in
    rw (a, b) (omega arith)

minus : (h q n : ℕ) → 2 ^ 32 ≡ (q + 1) * (2 * h) → 0 < n → n ≤ h → 2 ^ 32 - n ≡ (2 ^ 32 - n) % (2 * h) + (2 ^ 32 - n) % (2 * h) / h * (2 ^ 32 - 2 * h)
minus h q n e k l =
    let s : 2 ^ 32 - n ≡ q * (2 * h) + (2 * h - n) = omega (arith, e) in
    let a : (2 ^ 32 - n) % (2 * h) ≡ 2 * h - n = ap (λ (w : ℕ). w % (2 * h)) s ∙ digits_mod q (omega arith) in
    let t : 2 * h - n ≡ 1 * h + (h - n) = omega arith in
    let b : (2 * h - n) / h ≡ 1 = ap (λ (w : ℕ). w / h) t ∙ digits_div 1 (omega arith) in
    rw (a, b) (omega (arith, e))

-- of 12 bits (loads, stores, operations with an immediate), 13 (branches), 21 (jumps)
pub small12 : (n : ℕ) → n < 2 ^ 11 → Extended 12 n
unfolding sign_extend
small12 n h = small 2048 4294963200 n h

pub minus12 : (n : ℕ) → 0 < n → n ≤ 2 ^ 11 → Extended 12 (2 ^ 32 - n)
unfolding sign_extend
minus12 n h k = minus 2048 1048575 n refl h k

pub small13 : (n : ℕ) → n < 2 ^ 12 → Extended 13 n
unfolding sign_extend
small13 n h = small 4096 4294959104 n h

pub minus13 : (n : ℕ) → 0 < n → n ≤ 2 ^ 12 → Extended 13 (2 ^ 32 - n)
unfolding sign_extend
minus13 n h k = minus 4096 524287 n refl h k

pub small21 : (n : ℕ) → n < 2 ^ 20 → Extended 21 n
unfolding sign_extend
small21 n h = small 1048576 4292870144 n h

pub minus21 : (n : ℕ) → 0 < n → n ≤ 2 ^ 20 → Extended 21 (2 ^ 32 - n)
unfolding sign_extend
minus21 n h k = minus 1048576 2047 n refl h k
