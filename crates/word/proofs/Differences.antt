-- Integers as differences of natural numbers, `sub_ℕ p q` for p - q: sums, products and negations of differences are differences, so that
-- an equation of integers becomes one of natural numbers.
use Prim.Native.Nat.{ℕ, zero, suc, ◌+◌, ◌-◌, ◌*◌, ◌<◌, ◌≤◌}
use mathlib.Core.Path.{◌≡◌, refl, sym, ◌∙◌, ap, subst}
use native.Mathlib.Omega.{arith}
use native.Mathlib.Nat.{add-mul, mul-add}
use borrow.Author.Tests.{lt-ltb, le-ltb, le-leb, lt-leb}
use lib.Dec.{T, ltb, leb, le→leb}
use lib.IntN.{ℤ, pos, negsuc, neg_ℤ, sub_ℕ, ◌+ℤ◌, ◌-ℤ◌, ◌*ℤ◌}
use lib.Signed.{lt_z, le_z, ◌≤ℤ◌, le_z_yes}
use Rattle.word.proofs.Cases.{by_order, ltb_iff, leb_iff}

pub diff_ge : (p q : ℕ) → q ≤ p → sub_ℕ p q ≡ pos (p - q)
diff_ge p q h = simp (le-ltb p q h)

pub diff_lt : (p q : ℕ) → p < q → sub_ℕ p q ≡ negsuc (q - suc p)
diff_lt p q h = simp (lt-ltb p q h)

-- a difference is x for p = q + x, and - (x + 1) for q = p + x + 1
pub diff_ind {ℓ} : (P : ℕ → ℕ → ℤ → Type ℓ) → ((q x : ℕ) → P (q + x) q (pos x)) → ((p x : ℕ) → P p (p + suc x) (negsuc x)) → (p q : ℕ) → P p q (sub_ℕ p q)
diff_ind P f g p q = by_order p q
    (λ (h : p < q). subst (λ z. P p q z) (sym (diff_lt p q h)) (subst (λ (m : ℕ). P p m (negsuc (q - suc p))) (less h) (g p (q - suc p))))
    (λ (h : q ≤ p). subst (λ z. P p q z) (sym (diff_ge p q h)) (subst (λ (m : ℕ). P m q (pos (p - q))) (more h) (f q (p - q))))
  where
    less : p < q → p + suc (q - suc p) ≡ q
    less h = omega arith

    more : q ≤ p → q + (p - q) ≡ p
    more h = omega arith

-- equal differences, by their cross sums
pub diff_eq : (p q r s : ℕ) → p + s ≡ r + q → sub_ℕ p q ≡ sub_ℕ r s
diff_eq p q r s e = by_order p q
    (λ (h : p < q). diff_lt p q h ∙ ap negsuc (omega arith) ∙ sym (diff_lt r s (omega arith)))
    (λ (h : q ≤ p). diff_ge p q h ∙ ap pos (omega arith) ∙ sym (diff_ge r s (omega arith)))

pub pos_diff : (n : ℕ) → pos n ≡ sub_ℕ n 0
pos_diff n = sym (diff_ge n 0 (omega arith) ∙ ap pos (omega arith))

pub negsuc_diff : (n : ℕ) → negsuc n ≡ sub_ℕ 0 (suc n)
negsuc_diff n = sym (diff_lt 0 (suc n) (omega arith) ∙ ap negsuc (omega arith))

pub neg_pos_diff : (n : ℕ) → neg_ℤ (pos n) ≡ sub_ℕ 0 n
neg_pos_diff zero = refl
neg_pos_diff (suc n) = negsuc_diff n

-- every integer is a difference

abbrev pub up : ℤ → ℕ
up (pos n) = n
up (negsuc n) = 0

abbrev pub down : ℤ → ℕ
down (pos n) = 0
down (negsuc n) = suc n

pub as_diff : (z : ℤ) → z ≡ sub_ℕ (up z) (down z)
as_diff (pos n) = pos_diff n
as_diff (negsuc n) = negsuc_diff n

-- sums, negations, differences and products of differences

pub diff_add : (p q r s : ℕ) → sub_ℕ p q +ℤ sub_ℕ r s ≡ sub_ℕ (p + r) (q + s)
diff_add p q r s = diff_ind (λ p q z. z +ℤ sub_ℕ r s ≡ sub_ℕ (p + r) (q + s))
    (λ q x. diff_ind (λ r s w. pos x +ℤ w ≡ sub_ℕ (q + x + r) (q + s))
    (λ s y. pos_diff (x + y) ∙ diff_eq (x + y) 0 (q + x + (s + y)) (q + s) (omega arith))
    (λ r y. diff_eq x (suc y) (q + x + r) (q + (r + suc y)) (omega arith)) r s)
    (λ p x. diff_ind (λ r s w. negsuc x +ℤ w ≡ sub_ℕ (p + r) (p + suc x + s))
    (λ s y. diff_eq y (suc x) (p + (s + y)) (p + suc x + s) (omega arith))
    (λ r y. negsuc_diff (suc (x + y)) ∙ diff_eq 0 (suc (suc (x + y))) (p + r) (p + suc x + (r + suc y)) (omega arith)) r s) p q

pub diff_neg : (p q : ℕ) → neg_ℤ (sub_ℕ p q) ≡ sub_ℕ q p
diff_neg p q = diff_ind (λ p q z. neg_ℤ z ≡ sub_ℕ q p)
    (λ q x. neg_pos_diff x ∙ diff_eq 0 x q (q + x) (omega arith))
    (λ p x. pos_diff (suc x) ∙ diff_eq (suc x) 0 (p + suc x) p (omega arith)) p q

pub diff_sub : (p q r s : ℕ) → sub_ℕ p q -ℤ sub_ℕ r s ≡ sub_ℕ (p + s) (q + r)
diff_sub p q r s = ap (λ z. sub_ℕ p q +ℤ z) (diff_neg r s) ∙ diff_add p q s r

-- (q + x) * (s + y), expanded
expand : (q x s y : ℕ) → x * y + ((q + x) * s + q * (s + y)) ≡ (q + x) * (s + y) + q * s
expand q x s y = simp (add-mul, mul-add) (omega arith)

pub diff_mul : (p q r s : ℕ) → sub_ℕ p q *ℤ sub_ℕ r s ≡ sub_ℕ (p * r + q * s) (p * s + q * r)
diff_mul p q r s = diff_ind (λ p q z. z *ℤ sub_ℕ r s ≡ sub_ℕ (p * r + q * s) (p * s + q * r))
    (λ q x. diff_ind (λ r s w. pos x *ℤ w ≡ sub_ℕ ((q + x) * r + q * s) ((q + x) * s + q * r))
    (λ s y. pos_diff (x * y) ∙ diff_eq (x * y) 0 ((q + x) * (s + y) + q * s) ((q + x) * s + q * (s + y)) (omega (arith, expand q x s y)))
    (λ r y. neg_pos_diff (x * suc y) ∙ diff_eq 0 (x * suc y) ((q + x) * r + q * (r + suc y)) ((q + x) * (r + suc y) + q * r) (omega (arith, expand q x r (suc y)))) r s)
    (λ p x. diff_ind (λ r s w. negsuc x *ℤ w ≡ sub_ℕ (p * r + (p + suc x) * s) (p * s + (p + suc x) * r))
    (λ s y. neg_pos_diff (suc x * y) ∙ diff_eq 0 (suc x * y) (p * (s + y) + (p + suc x) * s) (p * s + (p + suc x) * (s + y)) (omega (arith, expand p (suc x) s y)))
    (λ r y. pos_diff (suc x * suc y) ∙ diff_eq (suc x * suc y) 0 (p * r + (p + suc x) * (r + suc y)) (p * (r + suc y) + (p + suc x) * r) (omega (arith, expand p (suc x) r (suc y)))) r s) p q

-- the order of differences, by their cross sums

pub lt_z_diff : (p q r s : ℕ) → lt_z (sub_ℕ p q) (sub_ℕ r s) ≡ ltb (p + s) (r + q)
lt_z_diff p q r s = diff_ind (λ p q z. lt_z z (sub_ℕ r s) ≡ ltb (p + s) (r + q))
    (λ q x. diff_ind (λ r s w. lt_z (pos x) w ≡ ltb (q + x + s) (r + q))
    (λ s y. ltb_iff x y (q + x + s) (s + y + q) (λ h. omega arith) (λ h. omega arith))
    (λ r y. sym (le-ltb (q + x + (r + suc y)) (r + q) (omega arith))) r s)
    (λ p x. diff_ind (λ r s w. lt_z (negsuc x) w ≡ ltb (p + s) (r + (p + suc x)))
    (λ s y. sym (lt-ltb (p + s) (s + y + (p + suc x)) (omega arith)))
    (λ r y. ltb_iff y x (p + (r + suc y)) (r + (p + suc x)) (λ h. omega arith) (λ h. omega arith)) r s) p q

pub le_z_diff : (p q r s : ℕ) → le_z (sub_ℕ p q) (sub_ℕ r s) ≡ leb (p + s) (r + q)
le_z_diff p q r s = diff_ind (λ p q z. le_z z (sub_ℕ r s) ≡ leb (p + s) (r + q))
    (λ q x. diff_ind (λ r s w. le_z (pos x) w ≡ leb (q + x + s) (r + q))
    (λ s y. leb_iff x y (q + x + s) (s + y + q) (λ h. omega arith) (λ h. omega arith))
    (λ r y. sym (lt-leb (q + x + (r + suc y)) (r + q) (omega arith))) r s)
    (λ p x. diff_ind (λ r s w. le_z (negsuc x) w ≡ leb (p + s) (r + (p + suc x)))
    (λ s y. sym (le-leb (p + s) (s + y + (p + suc x)) (omega arith)))
    (λ r y. leb_iff y x (p + (r + suc y)) (r + (p + suc x)) (λ h. omega arith) (λ h. omega arith)) r s) p q

pub diff_le : (p q r s : ℕ) → p + s ≤ r + q → sub_ℕ p q ≤ℤ sub_ℕ r s
diff_le p q r s h = le_z_yes (subst T (sym (le_z_diff p q r s)) (le→leb (p + s) (r + q) h))
