-- Division by 0, as the definitions have it: the quotient is 0 and the remainder the dividend.
use Prim.Native.Nat.{ℕ, ◌-◌, ◌%◌, ◌^◌, ◌<◌, ◌≤◌}
use mathlib.Core.Path.{◌≡◌, refl}
use mathlib.Core.Bool.{Bool, true, false}
use native.Mathlib.Omega.{arith}
use native.Mathlib.Nat.{div-zero, mod-zero}
use Rattle.word.specs.Choice.{pick, agree}
use Rattle.word.specs.Word.{negative, magnitude, neg_w, quot_s, rem_s}
use Rattle.word.proofs.Sign.{by_sign, magnitude_positive, magnitude_negative}

pub quot_s_zero : (a : ℕ) → quot_s a 0 ≡ 0
unfolding quot_s magnitude negative neg_w
quot_s_zero a = rw (div-zero (magnitude a)) (same (agree (negative a) false))
  where
    same : (x : Bool) → ◌≡◌ {A = ℕ} (pick x 0 0) 0
    same true = refl
    same false = refl

pub rem_s_zero : (a : ℕ) → a < 2 ^ 32 → rem_s a 0 ≡ a
unfolding rem_s magnitude negative neg_w
rem_s_zero a h = rw (mod-zero (magnitude a)) (by_sign a (λ x. pick x ((2 ^ 32 - magnitude a) % 2 ^ 32) (magnitude a) ≡ a) (λ (p : 2 ^ 31 ≤ a). rw (magnitude_negative a p) (omega arith)) (λ p. magnitude_positive a p))
