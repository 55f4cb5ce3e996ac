-- The proofs of what Integers states: a word is read as a difference of natural numbers, and each law becomes an equation of those.
use Prim.Native.Nat.{ℕ, zero, suc, ◌+◌, ◌-◌, ◌*◌, ◌/◌, ◌%◌, ◌^◌, ◌<◌, ◌≤◌}
use mathlib.Core.Path.{◌≡◌, refl, sym, ◌∙◌, ap, ap₂, subst}
use mathlib.Core.Logic.{◌↔◌}
use mathlib.Core.Bool.{Bool, true, false}
use native.Mathlib.Omega.{arith}
use native.Mathlib.Nat.{mul_assoc, mul_comm, mul_right_comm, mul-mul-mul_comm, mod-le, div-le_self, div-lt_iff_lt-mul}
use lib.Pow.{pow_pos, shr_le}
use lib.Dec.{T, ltb, leb, leb→le}
use borrow.Author.Tests.{lt-ltb, le-ltb, le-leb, lt-leb}
use lib.Signed.{lt_z, ◌≤ℤ◌, ◌<ℤ◌, lt_z_yes, quot_z, rem_z, shr_z}
use lib.IntN.{ℤ, pos, negsuc, neg_ℤ, nat_abs, sub_ℕ, ◌+ℤ◌, ◌-ℤ◌, ◌*ℤ◌}
use Rattle.word.specs.Choice.{pick, agree}
use Rattle.word.specs.Word.{add_w, sub_w, neg_w, mul_w, negative, magnitude, lt_s, quot_s, rem_s, shl_w, shr_s, mulh_ss, mulh_su, mulh_uu, sign_extend, bit_of}
use Rattle.word.specs.Integers.{to_z, of_z, wrap, Wraps, Divided, RoundedDown}
use Rattle.word.proofs.Cases.{by_order, ltb_iff}
use Rattle.word.proofs.Sign.{by_sign, negative_is, negative_isnt, magnitude_positive, magnitude_negative, magnitude_pos}
use Rattle.word.proofs.Extend.{double, weight, sign_extend_clear, sign_extend_set}
use Rattle.word.proofs.Halves.{unsigned_whole, mixed_half, signed_half}
use Rattle.word.proofs.Quotients.{divided, rounded_down}
use Rattle.word.proofs.Differences.{diff_lt, diff_le, pos_diff, negsuc_diff, neg_pos_diff, up, down, as_diff, diff_ind, diff_eq, diff_add, diff_sub, diff_neg, diff_mul, lt_z_diff}

-- a word stands for itself less its top bit's 2 ^ 32
pub to_z_diff : (a : ℕ) → to_z a ≡ sub_ℕ a (bit_of (negative a) * 2 ^ 32)
unfolding to_z bit_of
to_z_diff a = by_sign a (λ x. pick x (pos a -ℤ pos (2 ^ 32)) (pos a) ≡ sub_ℕ a (pick x 1 0 * 2 ^ 32)) (λ h. refl) (λ h. pos_diff a)

-- the word of a difference
pub of_z_diff : (p q : ℕ) → of_z (sub_ℕ p q) ≡ (p + (2 ^ 32 - q % 2 ^ 32)) % 2 ^ 32
unfolding of_z
of_z_diff p q = diff_ind (λ p q z. of_z z ≡ (p + (2 ^ 32 - q % 2 ^ 32)) % 2 ^ 32)
    (λ q x. of_z_pos q x) (λ p x. of_z_negsuc p x) p q
  where
    of_z_pos : (q x : ℕ) → x % 2 ^ 32 ≡ (q + x + (2 ^ 32 - q % 2 ^ 32)) % 2 ^ 32
    of_z_pos q x = omega arith

    of_z_negsuc : (p x : ℕ) → 2 ^ 32 - 1 - x % 2 ^ 32 ≡ (p + (2 ^ 32 - (p + suc x) % 2 ^ 32)) % 2 ^ 32
    of_z_negsuc p x = omega arith

-- What a word stands for, by its sign.

pub to_z_positive : (a : ℕ) → a < 2 ^ 31 → to_z a ≡ pos a
unfolding to_z
to_z_positive a h = simp (negative_isnt a h)

pub to_z_negative : (a : ℕ) → 2 ^ 31 ≤ a → a < 2 ^ 32 → to_z a ≡ negsuc (2 ^ 32 - 1 - a)
unfolding to_z
to_z_negative a h l = simp (negative_is a h) (diff_lt a (2 ^ 32) l ∙ ap negsuc (omega arith))

-- Wrapping: it gives what its name says, and nothing else does; what fits is its own wrapping.

of_z_lt : (k : ℤ) → of_z k < 2 ^ 32
unfolding of_z
of_z_lt (pos n) = omega arith
of_z_lt (negsuc n) = omega arith

pub of_z_to_z : (a : ℕ) → a < 2 ^ 32 → of_z (to_z a) ≡ a
of_z_to_z a h = ap of_z (to_z_diff a) ∙ of_z_diff a (bit_of (negative a) * 2 ^ 32) ∙ omega arith

pub to_z_least : (a : ℕ) → neg_ℤ (pos (2 ^ 31)) ≤ℤ to_z a
unfolding bit_of
to_z_least a = rw (to_z_diff a, neg_pos_diff (2 ^ 31))
    (diff_le 0 (2 ^ 31) a (bit_of (negative a) * 2 ^ 32)
    (by_sign a (λ x. 0 + pick x 1 0 * 2 ^ 32 ≤ a + 2 ^ 31) (λ (h : 2 ^ 31 ≤ a). omega arith) (λ h. omega arith)))

pub to_z_most : (a : ℕ) → a < 2 ^ 32 → to_z a ≤ℤ pos (2 ^ 31 - 1)
unfolding bit_of
to_z_most a l = rw (to_z_diff a, pos_diff (2 ^ 31 - 1))
    (diff_le a (bit_of (negative a) * 2 ^ 32) (2 ^ 31 - 1) 0
    (by_sign a (λ x. a + 0 ≤ 2 ^ 31 - 1 + pick x 1 0 * 2 ^ 32) (λ h. omega arith) (λ (h : a < 2 ^ 31). omega arith)))

-- so many times 2 ^ 32
times_diff : (t u : ℕ) → sub_ℕ t u *ℤ pos (2 ^ 32) ≡ sub_ℕ (t * 2 ^ 32) (u * 2 ^ 32)
times_diff t u = ap (λ z. sub_ℕ t u *ℤ z) (pos_diff (2 ^ 32)) ∙ diff_mul t u (2 ^ 32) 0 ∙ diff_eq (t * 2 ^ 32 + u * 0) (t * 0 + u * 2 ^ 32) (t * 2 ^ 32) (u * 2 ^ 32) (omega arith)

apart : (p q a t u : ℕ) → p + (bit_of (negative a) * 2 ^ 32 + u * 2 ^ 32) ≡ a + t * 2 ^ 32 + q → sub_ℕ p q ≡ to_z a +ℤ sub_ℕ t u *ℤ pos (2 ^ 32)
apart p q a t u e = rw (to_z_diff a, times_diff t u, diff_add a (bit_of (negative a) * 2 ^ 32) (t * 2 ^ 32) (u * 2 ^ 32)) (diff_eq p q (a + t * 2 ^ 32) (bit_of (negative a) * 2 ^ 32 + u * 2 ^ 32) e)

pub wrap_wraps : (k : ℤ) → Wraps k (wrap k)
unfolding wrap of_z
wrap_wraps (pos n) = record {
  least = to_z_least (of_z (pos n));
  most = to_z_most (of_z (pos n)) (of_z_lt (pos n));
  times = sub_ℕ (n / 2 ^ 32 + bit_of (negative (n % 2 ^ 32))) 0;
  differs = pos_diff n ∙ apart n 0 (n % 2 ^ 32) (n / 2 ^ 32 + bit_of (negative (n % 2 ^ 32))) 0 (omega arith);
}
wrap_wraps (negsuc n) = record {
  least = to_z_least (of_z (negsuc n));
  most = to_z_most (of_z (negsuc n)) (of_z_lt (negsuc n));
  times = sub_ℕ (bit_of (negative (2 ^ 32 - 1 - n % 2 ^ 32))) (suc (n / 2 ^ 32));
  differs = negsuc_diff n ∙ apart 0 (suc n) (2 ^ 32 - 1 - n % 2 ^ 32) (bit_of (negative (2 ^ 32 - 1 - n % 2 ^ 32))) (suc (n / 2 ^ 32)) (omega arith);
}

pub wrap_fits : (r : ℤ) → neg_ℤ (pos (2 ^ 31)) ≤ℤ r → r ≤ℤ pos (2 ^ 31 - 1) → wrap r ≡ r
unfolding wrap of_z
wrap_fits (pos n) l m =
    let h : n ≤ 2 ^ 31 - 1 = leb→le n (2 ^ 31 - 1) m.le in
    to_z_positive (n % 2 ^ 32) (omega arith) ∙ ap pos (omega arith)
wrap_fits (negsuc n) l m =
    let h : n ≤ 2 ^ 31 - 1 = leb→le n (2 ^ 31 - 1) l.le in
    to_z_negative (2 ^ 32 - 1 - n % 2 ^ 32) (omega arith) (omega arith) ∙ ap negsuc (omega arith)

of_z_times : (r t : ℤ) → of_z (r +ℤ t *ℤ pos (2 ^ 32)) ≡ of_z r
of_z_times r t =
    ap of_z (ap₂ (λ y z. y +ℤ z *ℤ pos (2 ^ 32)) (as_diff r) (as_diff t) ∙ ap (λ z. sub_ℕ (up r) (down r) +ℤ z) (times_diff (up t) (down t)) ∙ diff_add (up r) (down r) (up t * 2 ^ 32) (down t * 2 ^ 32))
    ∙ of_z_diff (up r + up t * 2 ^ 32) (down r + down t * 2 ^ 32) ∙ same (up r) (down r) (up t) (down t) ∙ sym (ap of_z (as_diff r) ∙ of_z_diff (up r) (down r))
  where
    same : (p q t u : ℕ) → (p + t * 2 ^ 32 + (2 ^ 32 - (q + u * 2 ^ 32) % 2 ^ 32)) % 2 ^ 32 ≡ (p + (2 ^ 32 - q % 2 ^ 32)) % 2 ^ 32
    same p q t u = omega arith

pub wrap_only : (k r : ℤ) → Wraps k r → r ≡ wrap k
unfolding wrap
wrap_only k r w = sym (wrap_fits r w.least w.most) ∙ ap to_z (sym (ap of_z w.differs ∙ of_z_times r w.times))

-- Sums, differences, negations and products are those of the integers, wrapped.

of_z_add : (a b : ℕ) → of_z (to_z a +ℤ to_z b) ≡ add_w a b
unfolding add_w
of_z_add a b = rw (to_z_diff a, to_z_diff b, diff_add a (bit_of (negative a) * 2 ^ 32) b (bit_of (negative b) * 2 ^ 32), of_z_diff) (omega arith)

pub to_z_add_w : (a b : ℕ) → to_z (add_w a b) ≡ wrap (to_z a +ℤ to_z b)
unfolding wrap
to_z_add_w a b = ap to_z (sym (of_z_add a b))

of_z_sub : (a b : ℕ) → b < 2 ^ 32 → of_z (to_z a -ℤ to_z b) ≡ sub_w a b
unfolding sub_w
of_z_sub a b h = rw (to_z_diff a, to_z_diff b, diff_sub a (bit_of (negative a) * 2 ^ 32) b (bit_of (negative b) * 2 ^ 32), of_z_diff) (omega arith)

pub to_z_sub_w : (a b : ℕ) → b < 2 ^ 32 → to_z (sub_w a b) ≡ wrap (to_z a -ℤ to_z b)
unfolding wrap
to_z_sub_w a b h = ap to_z (sym (of_z_sub a b h))

of_z_neg : (a : ℕ) → a < 2 ^ 32 → of_z (neg_ℤ (to_z a)) ≡ neg_w a
unfolding neg_w
of_z_neg a h = rw (to_z_diff a, diff_neg a (bit_of (negative a) * 2 ^ 32), of_z_diff) (omega arith)

pub to_z_neg_w : (a : ℕ) → a < 2 ^ 32 → to_z (neg_w a) ≡ wrap (neg_ℤ (to_z a))
unfolding wrap
to_z_neg_w a h = ap to_z (sym (of_z_neg a h))

of_z_mul : (a b : ℕ) → of_z (to_z a *ℤ to_z b) ≡ mul_w a b
unfolding mul_w
of_z_mul a b = rw (to_z_diff a, to_z_diff b, diff_mul a (bit_of (negative a) * 2 ^ 32) b (bit_of (negative b) * 2 ^ 32), of_z_diff) (whole (bit_of (negative a)) (bit_of (negative b)))
  where
    -- all but a * b is so many times 2 ^ 32
    whole : (β γ : ℕ) → (a * b + β * 2 ^ 32 * (γ * 2 ^ 32) + (2 ^ 32 - (a * (γ * 2 ^ 32) + β * 2 ^ 32 * b) % 2 ^ 32)) % 2 ^ 32 ≡ a * b % 2 ^ 32
    whole β γ = rw (← mul_assoc (β * 2 ^ 32) γ (2 ^ 32), ← mul_assoc a γ (2 ^ 32), mul_right_comm β (2 ^ 32) b) (omega arith)

pub to_z_mul_w : (a b : ℕ) → to_z (mul_w a b) ≡ wrap (to_z a *ℤ to_z b)
unfolding wrap
to_z_mul_w a b = ap to_z (sym (of_z_mul a b))

of_z_shl : (a s : ℕ) → of_z (to_z a *ℤ pos (2 ^ s)) ≡ shl_w a s
unfolding shl_w
of_z_shl a s = rw (to_z_diff a, pos_diff (2 ^ s), diff_mul a (bit_of (negative a) * 2 ^ 32) (2 ^ s) 0, of_z_diff) (whole (2 ^ s) (bit_of (negative a)))
  where
    whole : (m β : ℕ) → (a * m + β * 2 ^ 32 * 0 + (2 ^ 32 - (a * 0 + β * 2 ^ 32 * m) % 2 ^ 32)) % 2 ^ 32 ≡ a * m % 2 ^ 32
    whole m β = rw (mul_right_comm β (2 ^ 32) m) (omega arith)

pub to_z_shl_w : (a s : ℕ) → to_z (shl_w a s) ≡ wrap (to_z a *ℤ pos (2 ^ s))
unfolding wrap
to_z_shl_w a s = ap to_z (sym (of_z_shl a s))

-- The signed order is that of the integers.

pub to_z_lt_s : (a b : ℕ) → a < 2 ^ 32 → b < 2 ^ 32 → lt_s a b ≡ lt_z (to_z a) (to_z b)
unfolding lt_s bit_of
to_z_lt_s a b ha hb = rw (to_z_diff a, to_z_diff b) (go (negative a) refl (negative b) refl ∙ sym (lt_z_diff a (bit_of (negative a) * 2 ^ 32) b (bit_of (negative b) * 2 ^ 32)))
  where
    go : (x : Bool) → negative a ≡ x → (y : Bool) → negative b ≡ y → pick (agree x y) (ltb a b) x ≡ ltb (a + pick y 1 0 * 2 ^ 32) (b + pick x 1 0 * 2 ^ 32)
    go true p true q = ltb_iff a b (a + 1 * 2 ^ 32) (b + 1 * 2 ^ 32) (λ h. omega arith) (λ h. omega arith)
    go true p false q = sym (lt-ltb (a + 0 * 2 ^ 32) (b + 1 * 2 ^ 32) (omega arith))
    go false p true q = sym (le-ltb (a + 1 * 2 ^ 32) (b + 0 * 2 ^ 32) (omega arith))
    go false p false q = ltb_iff a b (a + 0 * 2 ^ 32) (b + 0 * 2 ^ 32) (λ h. omega arith) (λ h. omega arith)

pub lt_s_less : (a b : ℕ) → a < 2 ^ 32 → b < 2 ^ 32 → (lt_s a b ≡ true) ↔ (to_z a <ℤ to_z b)
lt_s_less a b ha hb = (λ (e : lt_s a b ≡ true). lt_z_yes (subst T (sym (sym (to_z_lt_s a b ha hb) ∙ e)) tt), λ l. to_z_lt_s a b ha hb ∙ T_true (lt_z (to_z a) (to_z b)) l.lt)
  where
    T_true : (x : Bool) → T x → x ≡ true
    T_true true t = refl
    T_true false t = absurd t

-- Division: the quotient rounds toward zero and wraps (at - 2 ^ 31 by - 1 alone), and the remainder has the left side's sign.

pub nat_abs_to_z : (a : ℕ) → a < 2 ^ 32 → nat_abs (to_z a) ≡ magnitude a
nat_abs_to_z a l = by_order a (2 ^ 31)
    (λ h. ap nat_abs (to_z_positive a h) ∙ sym (magnitude_positive a h))
    (λ (h : 2 ^ 31 ≤ a). ap nat_abs (to_z_negative a h l) ∙ omega (arith, magnitude_negative a h))

one_more : (a : ℕ) → a < 2 ^ 32 → suc (2 ^ 32 - 1 - a) ≡ 2 ^ 32 - a
one_more a h = omega arith

-- minus n, as an integer and as a word
to_z_minus : (n : ℕ) → n ≤ 2 ^ 31 → to_z (neg_w n) ≡ neg_ℤ (pos n)
unfolding neg_w
to_z_minus zero h = to_z_positive 0 (omega arith)
to_z_minus (suc n) h = to_z_negative ((2 ^ 32 - suc n) % 2 ^ 32) (omega arith) (omega arith) ∙ ap negsuc (omega arith)

of_z_minus : (n : ℕ) → n < 2 ^ 32 → of_z (neg_ℤ (pos n)) ≡ neg_w n
unfolding neg_w
of_z_minus n h = ap of_z (neg_pos_diff n) ∙ of_z_diff 0 n ∙ omega arith

of_z_pos : (n : ℕ) → n < 2 ^ 32 → of_z (pos n) ≡ n
unfolding of_z
of_z_pos n h = omega arith

pub to_z_rem_s : (a b : ℕ) → a < 2 ^ 32 → b < 2 ^ 32 → to_z (rem_s a b) ≡ rem_z (to_z a) (to_z b)
unfolding rem_s
to_z_rem_s a b ha hb = by_order a (2 ^ 31)
    (λ (h : a < 2 ^ 31). rw (negative_isnt a h, magnitude_positive a h, to_z_positive a h, nat_abs_to_z b hb)
    (to_z_positive (a % magnitude b) (omega (arith, mod-le a (magnitude b)))))
    (λ (h : 2 ^ 31 ≤ a). rw (negative_is a h, magnitude_negative a h, to_z_negative a h ha, nat_abs_to_z b hb, one_more a ha)
    (to_z_minus ((2 ^ 32 - a) % magnitude b) (omega (arith, mod-le (2 ^ 32 - a) (magnitude b)))))

pub of_z_quot : (a b : ℕ) → a < 2 ^ 32 → b < 2 ^ 32 → of_z (quot_z (to_z a) (to_z b)) ≡ quot_s a b
unfolding quot_s
of_z_quot a b ha hb = by_order a (2 ^ 31)
    (λ (h : a < 2 ^ 31). by_order b (2 ^ 31)
    (λ k. rw (negative_isnt a h, negative_isnt b k, magnitude_positive a h, magnitude_positive b k, to_z_positive a h, to_z_positive b k) (of_z_pos (a / b) (omega (arith, div-le_self a b))))
    (λ k. rw (negative_isnt a h, negative_is b k, magnitude_positive a h, magnitude_negative b k, to_z_positive a h, to_z_negative b k hb, one_more b hb) (of_z_minus (a / (2 ^ 32 - b)) (omega (arith, div-le_self a (2 ^ 32 - b))))))
    (λ (h : 2 ^ 31 ≤ a). by_order b (2 ^ 31)
    (λ k. rw (negative_is a h, negative_isnt b k, magnitude_negative a h, magnitude_positive b k, to_z_negative a h ha, to_z_positive b k, one_more a ha) (of_z_minus ((2 ^ 32 - a) / b) (omega (arith, div-le_self (2 ^ 32 - a) b))))
    (λ k. rw (negative_is a h, negative_is b k, magnitude_negative a h, magnitude_negative b k, to_z_negative a h ha, to_z_negative b k hb, one_more a ha, one_more b hb) (of_z_pos ((2 ^ 32 - a) / (2 ^ 32 - b)) (omega (arith, div-le_self (2 ^ 32 - a) (2 ^ 32 - b))))))

pub to_z_quot_s : (a b : ℕ) → a < 2 ^ 32 → b < 2 ^ 32 → to_z (quot_s a b) ≡ wrap (quot_z (to_z a) (to_z b))
unfolding wrap
to_z_quot_s a b ha hb = ap to_z (sym (of_z_quot a b ha hb))

pub to_z_divided : (a b : ℕ) → a < 2 ^ 32 → b < 2 ^ 32 → (b ≡ 0 → ⊥) → Divided (to_z a) (to_z b) (quot_z (to_z a) (to_z b)) (to_z (rem_s a b))
to_z_divided a b ha hb h = rw (to_z_rem_s a b ha hb) (divided (to_z a) (to_z b) (rw (nat_abs_to_z b hb) (magnitude_pos b hb h)))

-- The quotient of two negative words fits, unless it is - 2 ^ 31 by - 1.
quotient_fits : (m n : ℕ) → m ≤ 2 ^ 31 → 0 < n → (m ≡ 2 ^ 31 → n ≡ 1 → ⊥) → m / n < 2 ^ 31
quotient_fits m n hm hn h = (div-lt_iff_lt-mul hn).1 (by_order m (2 ^ 31)
    (λ (l : m < 2 ^ 31). omega arith)
    (λ (l : 2 ^ 31 ≤ m). by_order n 2 (λ (k : n < 2). absurd (h (omega arith) (omega arith))) (λ (k : 2 ≤ n). omega arith)))

pub to_z_quot_s_exact : (a b : ℕ) → a < 2 ^ 32 → b < 2 ^ 32 → (a ≡ 2 ^ 31 → b ≡ 2 ^ 32 - 1 → ⊥) → to_z (quot_s a b) ≡ quot_z (to_z a) (to_z b)
unfolding quot_s
to_z_quot_s_exact a b ha hb e = by_order a (2 ^ 31)
    (λ (h : a < 2 ^ 31). by_order b (2 ^ 31)
    (λ k. rw (negative_isnt a h, negative_isnt b k, magnitude_positive a h, magnitude_positive b k, to_z_positive a h, to_z_positive b k) (to_z_positive (a / b) (omega (arith, div-le_self a b))))
    (λ k. rw (negative_isnt a h, negative_is b k, magnitude_positive a h, magnitude_negative b k, to_z_positive a h, to_z_negative b k hb, one_more b hb) (to_z_minus (a / (2 ^ 32 - b)) (omega (arith, div-le_self a (2 ^ 32 - b))))))
    (λ (h : 2 ^ 31 ≤ a). by_order b (2 ^ 31)
    (λ k. rw (negative_is a h, negative_isnt b k, magnitude_negative a h, magnitude_positive b k, to_z_negative a h ha, to_z_positive b k, one_more a ha) (to_z_minus ((2 ^ 32 - a) / b) (omega (arith, div-le_self (2 ^ 32 - a) b))))
    (λ (k : 2 ^ 31 ≤ b). rw (negative_is a h, negative_is b k, magnitude_negative a h, magnitude_negative b k, to_z_negative a h ha, to_z_negative b k hb, one_more a ha, one_more b hb)
    (to_z_positive ((2 ^ 32 - a) / (2 ^ 32 - b)) (quotient_fits (2 ^ 32 - a) (2 ^ 32 - b) (omega arith) (omega arith) (λ p q. e (omega arith) (omega arith))))))

-- The shift that fills with the top bit rounds down.

pub to_z_shr_s : (a s : ℕ) → a < 2 ^ 32 → to_z (shr_s a s) ≡ shr_z (to_z a) (2 ^ s)
unfolding shr_s
to_z_shr_s a s l = by_order a (2 ^ 31)
    (λ (h : a < 2 ^ 31). rw (negative_isnt a h, to_z_positive a h) (to_z_positive (a / 2 ^ s) (omega (arith, shr_le a s))))
    (λ (h : 2 ^ 31 ≤ a). rw (negative_is a h, to_z_negative a h l) (to_z_negative (2 ^ 32 - 1 - (2 ^ 32 - 1 - a) / 2 ^ s) (omega (arith, shr_le (2 ^ 32 - 1 - a) s)) (omega arith) ∙ ap negsuc (omega (arith, shr_le (2 ^ 32 - 1 - a) s))))

pub shr_s_rounded : (a s : ℕ) → a < 2 ^ 32 → RoundedDown (to_z a) (2 ^ s) (to_z (shr_s a s))
shr_s_rounded a s l = rw (to_z_shr_s a s l) (rounded_down (to_z a) (2 ^ s) (pow_pos s))

-- A number of so many bits, sign-extended, stands for itself, less 2 ^ bits if its top bit is set.

pos_sub : (m n : ℕ) → m < n → pos m -ℤ pos n ≡ negsuc (n - suc m)
pos_sub m n h = ap₂ (λ x y. x -ℤ y) (pos_diff m) (pos_diff n) ∙ diff_sub m 0 n 0 ∙ diff_lt (m + 0) (0 + n) (omega arith) ∙ ap negsuc (omega arith)

pub to_z_sign_extend : (bits n : ℕ) → 0 < bits → bits ≤ 32 → n < 2 ^ bits → to_z (sign_extend bits n) ≡ pick (leb (2 ^ (bits - 1)) n) (pos n -ℤ pos (2 ^ bits)) (pos n)
to_z_sign_extend bits n some most h = by_order n (2 ^ (bits - 1))
    (λ (l : n < 2 ^ (bits - 1)). rw (sign_extend_clear bits some most n l, lt-leb (2 ^ (bits - 1)) n l) (to_z_positive n (omega (arith, weight bits some most))))
    (λ (l : 2 ^ (bits - 1) ≤ n). rw (sign_extend_set bits some most n l h, le-leb (2 ^ (bits - 1)) n l)
    (to_z_negative (n + (2 ^ 32 - 2 ^ bits)) (omega (arith, weight bits some most, double bits some)) (omega (arith, weight bits some most, double bits some))
    ∙ ap negsuc (omega (arith, weight bits some most, double bits some)) ∙ sym (pos_sub n (2 ^ bits) h)))

-- The two halves of a product make the product: the upper one signed where a side is, the lower one not.

upper_lower : (h l : ℕ) → to_z h *ℤ pos (2 ^ 32) +ℤ pos l ≡ sub_ℕ (h * 2 ^ 32 + l) (bit_of (negative h) * 2 ^ 32 * 2 ^ 32 + 0)
upper_lower h l = rw (to_z_diff h, times_diff h (bit_of (negative h) * 2 ^ 32), pos_diff l) (diff_add (h * 2 ^ 32) (bit_of (negative h) * 2 ^ 32 * 2 ^ 32) l 0)

pub to_z_mulh_uu : (a b : ℕ) → a < 2 ^ 32 → b < 2 ^ 32 → pos (mulh_uu a b) *ℤ pos (2 ^ 32) +ℤ pos (mul_w a b) ≡ pos a *ℤ pos b
to_z_mulh_uu a b ha hb = ap pos (unsigned_whole a b ha hb)

pub to_z_mulh_su : (a b : ℕ) → a < 2 ^ 32 → b < 2 ^ 32 → to_z (mulh_su a b) *ℤ pos (2 ^ 32) +ℤ pos (mul_w a b) ≡ to_z a *ℤ pos b
to_z_mulh_su a b ha hb =
    upper_lower (mulh_su a b) (mul_w a b)
    ∙ diff_eq (mulh_su a b * 2 ^ 32 + mul_w a b) (bit_of (negative (mulh_su a b)) * 2 ^ 32 * 2 ^ 32 + 0) (a * b + α * 2 ^ 32 * 0) (a * 0 + α * 2 ^ 32 * b)
    (omega (arith, mixed_half a b ha hb, unsigned_whole a b ha hb, mul_right_comm α (2 ^ 32) b))
    ∙ sym (ap₂ (λ x y. x *ℤ y) (to_z_diff a) (pos_diff b) ∙ diff_mul a (α * 2 ^ 32) b 0)
  where
    α : ℕ
    α = bit_of (negative a)

pub to_z_mulh_ss : (a b : ℕ) → a < 2 ^ 32 → b < 2 ^ 32 → to_z (mulh_ss a b) *ℤ pos (2 ^ 32) +ℤ pos (mul_w a b) ≡ to_z a *ℤ to_z b
to_z_mulh_ss a b ha hb =
    upper_lower (mulh_ss a b) (mul_w a b)
    ∙ diff_eq (mulh_ss a b * 2 ^ 32 + mul_w a b) (bit_of (negative (mulh_ss a b)) * 2 ^ 32 * 2 ^ 32 + 0) (a * b + α * 2 ^ 32 * (β * 2 ^ 32)) (a * (β * 2 ^ 32) + α * 2 ^ 32 * b)
    (omega (arith, signed_half a b ha hb, unsigned_whole a b ha hb, mul_right_comm α (2 ^ 32) b, mul_comm a (β * 2 ^ 32) ∙ mul_right_comm β (2 ^ 32) a, mul-mul-mul_comm α (2 ^ 32) β (2 ^ 32)))
    ∙ sym (ap₂ (λ x y. x *ℤ y) (to_z_diff a) (to_z_diff b) ∙ diff_mul a (α * 2 ^ 32) b (β * 2 ^ 32))
  where
    α : ℕ
    α = bit_of (negative a)

    β : ℕ
    β = bit_of (negative b)
