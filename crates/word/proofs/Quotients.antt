-- The two divisions of integers: the library's quotient and remainder are those that round toward zero, and its shift is the quotient that rounds down.
use Prim.Native.Nat.{ℕ, zero, suc, ◌+◌, ◌-◌, ◌*◌, ◌/◌, ◌%◌, ◌<◌}
use mathlib.Core.Path.{◌≡◌, refl, sym, ◌∙◌, ap, ap₂, subst}
use mathlib.Core.Logic.{◌⊎◌, inl, inr}
use native.Mathlib.Omega.{arith}
use native.Mathlib.Nat.{div-add-mod, div-add-mod', mod-lt, suc-mul}
use lib.IntN.{ℤ, pos, negsuc, neg_ℤ, nat_abs, sub_ℕ, ◌+ℤ◌, ◌*ℤ◌}
use lib.Signed.{quot_z, rem_z, shr_z, non_neg}
use Rattle.word.specs.Integers.{Divided, RoundedDown}
use Rattle.word.proofs.Differences.{pos_diff, negsuc_diff, neg_pos_diff, diff_eq, diff_add, diff_mul}

-- a ≡ b * q + r, in differences
whole : (a a' b b' q q' r r' : ℕ) → a + (b * q' + b' * q + r') ≡ b * q + b' * q' + r + a' → sub_ℕ a a' ≡ sub_ℕ b b' *ℤ sub_ℕ q q' +ℤ sub_ℕ r r'
whole a a' b b' q q' r r' e =
    diff_eq a a' (b * q + b' * q' + r) (b * q' + b' * q + r') e
    ∙ sym (ap (λ z. z +ℤ sub_ℕ r r') (diff_mul b b' q q') ∙ diff_add (b * q + b' * q') (b * q' + b' * q) r r')

abs_neg : (n : ℕ) → nat_abs (neg_ℤ (pos n)) ≡ n
abs_neg zero = refl
abs_neg (suc n) = refl

-- minus n is 0 or negative
neg_side : (n a : ℕ) → (neg_ℤ (pos n) ≡ pos 0) ⊎ (non_neg (neg_ℤ (pos n)) ≡ non_neg (negsuc a))
neg_side zero a = inl refl
neg_side (suc n) a = inr refl

put : {a b q r a' b' q' r' : ℤ} → a ≡ a' → b ≡ b' → q ≡ q' → r ≡ r' → a' ≡ b' *ℤ q' +ℤ r' → a ≡ b *ℤ q +ℤ r
put e f g h k = e ∙ k ∙ sym (ap₂ (λ x y. x +ℤ y) (ap₂ (λ x y. x *ℤ y) f g) h)

quot_whole : (a b : ℤ) → a ≡ b *ℤ quot_z a b +ℤ rem_z a b
quot_whole (pos a) (pos b) = ap pos (sym (div-add-mod a b))
quot_whole (pos a) (negsuc b) = put (pos_diff a) (negsuc_diff b) (neg_pos_diff (a / suc b)) (pos_diff (a % suc b))
    (whole a 0 0 (suc b) 0 (a / suc b) (a % suc b) 0 (omega (arith, div-add-mod a (suc b))))
quot_whole (negsuc a) (pos b) = put (negsuc_diff a) (pos_diff b) (neg_pos_diff (suc a / b)) (neg_pos_diff (suc a % b))
    (whole 0 (suc a) b 0 0 (suc a / b) 0 (suc a % b) (omega (arith, div-add-mod (suc a) b)))
quot_whole (negsuc a) (negsuc b) = put (negsuc_diff a) (negsuc_diff b) (pos_diff (suc a / suc b)) (neg_pos_diff (suc a % suc b))
    (whole 0 (suc a) 0 (suc b) (suc a / suc b) 0 0 (suc a % suc b) (omega (arith, div-add-mod (suc a) (suc b))))

pub divided : (a b : ℤ) → 0 < nat_abs b → Divided a b (quot_z a b) (rem_z a b)
divided (pos a) b h = record { whole = quot_whole (pos a) b; smaller = mod-lt a h; sign = inr refl }
divided (negsuc a) b h = record {
  whole = quot_whole (negsuc a) b;
  smaller = subst (λ (n : ℕ). n < nat_abs b) (sym (abs_neg (suc a % nat_abs b))) (mod-lt (suc a) h);
  sign = neg_side (suc a % nat_abs b) a;
}

pub rounded_down : (a : ℤ) (m : ℕ) → 0 < m → RoundedDown a m (shr_z a m)
rounded_down (pos a) m h = record { rest = a % m; smaller = mod-lt a h; whole = ap pos (sym (div-add-mod' a m)) }
rounded_down (negsuc a) m h = record {
  rest = m - 1 - a % m;
  smaller = omega arith;
  whole = put (negsuc_diff a) (negsuc_diff (a / m)) (pos_diff m) (pos_diff (m - 1 - a % m))
      (whole 0 (suc a) 0 (suc (a / m)) m 0 (m - 1 - a % m) 0 (omega (arith, suc-mul (a / m) m, div-add-mod' a m, mod-lt a h)));
}
