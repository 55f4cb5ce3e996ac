-- The two halves of a product: it fits 64 bits, and a factor that is read as negative takes the other factor away from the upper half.
use Prim.Native.Nat.{ℕ, ◌+◌, ◌-◌, ◌*◌, ◌/◌, ◌%◌, ◌^◌, ◌<◌, ◌≤◌}
use mathlib.Core.Path.{◌≡◌, refl, sym, ◌∙◌, ap}
use mathlib.Core.Bool.{Bool, true, false}
use native.Mathlib.Omega.{arith}
use native.Mathlib.Nat.{lt_of_le_of_lt, mul-le-mul, mul-le-mul_left, mul-le-mul_right, mul-lt-mul_of_pos_right, le_of_lt, add-mul, mul-add, mul_comm}
use lib.Pow.{pow_pos}
use Rattle.word.specs.Choice.{pick}
use Rattle.word.specs.Word.{negative, wide, upper, sub_w, mul_w, bit_of, mulh_ss, mulh_su, mulh_uu}
use Rattle.word.proofs.Cases.{by_order}
use Rattle.word.proofs.Sign.{by_sign, negative_is, negative_isnt}

-- a product of two words fits 64 bits
pub product : (a b : ℕ) → a < 2 ^ 32 → b < 2 ^ 32 → a * b < 2 ^ 64
product a b ha hb = lt_of_le_of_lt (mul-le-mul_left a (le_of_lt hb)) (mul-lt-mul_of_pos_right ha (pow_pos 32))

pub upper_small : (p : ℕ) → p < 2 ^ 64 → p / 4294967296 ≡ upper p
unfolding upper
upper_small p h = omega arith

pub upper_of_unsigned : (a b : ℕ) → a < 2 ^ 32 → b < 2 ^ 32 → a * b / 4294967296 ≡ mulh_uu a b
unfolding mulh_uu
upper_of_unsigned a b ha hb = upper_small (a * b) (product a b ha hb)

upper_less : (p w : ℕ) → (p % 2 ^ 64 / 2 ^ 32 + (2 ^ 32 - w % 2 ^ 32)) % 2 ^ 32 ≡ ((2 ^ 64 - 2 ^ 32) * w + p) % 2 ^ 64 / 2 ^ 32
upper_less p w = omega arith

-- the upper half of a product with one more factor read as negative: w is a, or a in 64 bits
upper_sub : (p w a b : ℕ) → w % 2 ^ 32 ≡ a → w * b ≡ p → sub_w (upper p) a ≡ upper (w * (2 ^ 64 - 2 ^ 32 + b))
unfolding upper sub_w
upper_sub p w a b e q =
    rw (← e, upper_less p w, ← q, mul-add w (2 ^ 64 - 2 ^ 32) b, mul_comm w (2 ^ 64 - 2 ^ 32))

pub wide_low : (a : ℕ) → a < 2 ^ 32 → wide a % 2 ^ 32 ≡ a
unfolding wide
wide_low a h = go (negative a)
  where
    go : (x : Bool) → pick x (2 ^ 64 - 2 ^ 32 + a) a % 2 ^ 32 ≡ a
    go true = omega arith
    go false = omega arith

pub wide_positive : (a : ℕ) → a < 2 ^ 31 → wide a ≡ a
unfolding wide
wide_positive a h = simp (negative_isnt a h)

pub wide_negative : (a : ℕ) → 2 ^ 31 ≤ a → wide a ≡ 2 ^ 64 - 2 ^ 32 + a
unfolding wide
wide_negative a h = simp (negative_is a h)

-- signed by unsigned, at a left side of either sign

pub mixed_positive : (a b : ℕ) → a < 2 ^ 31 → mulh_uu a b ≡ mulh_su a b
unfolding mulh_uu mulh_su
mixed_positive a b h = rw (wide_positive a h)

pub mixed_negative : (a b : ℕ) → b < 2 ^ 32 → 2 ^ 31 ≤ a → sub_w (mulh_uu a b) b ≡ mulh_su a b
unfolding mulh_uu mulh_su
mixed_negative a b hb h = rw (wide_negative a h, mul_comm (2 ^ 64 - 2 ^ 32 + a) b) (upper_sub (a * b) b b a (omega arith) (mul_comm b a))

-- signed by signed, at a right side of either sign

pub signed_positive : (a b : ℕ) → b < 2 ^ 31 → mulh_su a b ≡ mulh_ss a b
unfolding mulh_su mulh_ss
signed_positive a b h = rw (wide_positive b h)

pub signed_negative : (a b : ℕ) → a < 2 ^ 32 → 2 ^ 31 ≤ b → sub_w (mulh_su a b) a ≡ mulh_ss a b
unfolding mulh_su mulh_ss
signed_negative a b ha h = rw (wide_negative b h) (upper_sub (wide a * b) (wide a) a b (wide_low a ha) refl)

-- Where the upper half lies, in natural numbers: H stands for that of the unsigned product, h for the word that the signed one gives. What H is
-- too large by wraps, and h's top bit tells that it did.

pub unsigned_whole : (a b : ℕ) → a < 2 ^ 32 → b < 2 ^ 32 → mulh_uu a b * 2 ^ 32 + mul_w a b ≡ a * b
unfolding mulh_uu upper mul_w
unsigned_whole a b ha hb = halves (a * b) (product a b ha hb)
  where
    halves : (p : ℕ) → p < 2 ^ 64 → p % 2 ^ 64 / 2 ^ 32 * 2 ^ 32 + p % 2 ^ 32 ≡ p
    halves p h = omega arith

-- a left side below 2 ^ 31
positive_half : (a b : ℕ) → a < 2 ^ 31 → b < 2 ^ 32 → mulh_uu a b < 2 ^ 31
unfolding mulh_uu upper
positive_half a b ha hb = small (a * b) (lt_of_le_of_lt (mul-le-mul_left a (le_of_lt hb)) (mul-lt-mul_of_pos_right ha (pow_pos 32)))
  where
    small : (p : ℕ) → p < 2 ^ 63 → p % 2 ^ 64 / 2 ^ 32 < 2 ^ 31
    small p h = omega arith

-- a left side from 2 ^ 31 on
negative_half : (a b : ℕ) → 2 ^ 31 ≤ a → a < 2 ^ 32 → b < 2 ^ 32 → (mulh_uu a b ≤ b) × (b ≤ 2 * mulh_uu a b + 1)
unfolding mulh_uu upper
negative_half a b h ha hb = (above (a * b) (mul-le-mul_right b (le_of_lt ha)), below (a * b) (product a b ha hb) (mul-le-mul_right b h))
  where
    above : (p : ℕ) → p ≤ 2 ^ 32 * b → p % 2 ^ 64 / 2 ^ 32 ≤ b
    above p l = omega arith

    below : (p : ℕ) → p < 2 ^ 64 → 2 ^ 31 * b ≤ p → b ≤ 2 * (p % 2 ^ 64 / 2 ^ 32) + 1
    below p k l = omega arith

-- two words and what they lack of 2 ^ 32
lacks : (a b x y : ℕ) → a + x ≡ 2 ^ 32 → b + y ≡ 2 ^ 32 → x * y + 2 ^ 32 * (a + b) ≡ a * b + 2 ^ 64
lacks a b x y p q = omega (arith, ap (λ (m : ℕ). m * b) (sym p) ∙ add-mul a x b, ap (λ (m : ℕ). a * m) (sym q) ∙ mul-add a b y, ap (λ (m : ℕ). x * m) (sym q) ∙ mul-add x b y)

-- both sides from 2 ^ 31 on
both_negative_half : (a b : ℕ) → 2 ^ 31 ≤ a → a < 2 ^ 32 → 2 ^ 31 ≤ b → b < 2 ^ 32 → (a + b ≤ mulh_uu a b + 2 ^ 32) × (mulh_uu a b + 2 ^ 32 < a + b + 2 ^ 31)
unfolding mulh_uu upper
both_negative_half a b h ha k hb = (low (a * b) rest (product a b ha hb) whole, high (a * b) rest (product a b ha hb) (mul-le-mul {n₂ = 2 ^ 31} {m₂ = 2 ^ 31} (omega arith) (omega arith)) whole)
  where
    rest : ℕ
    rest = (2 ^ 32 - a) * (2 ^ 32 - b)

    whole : rest + 2 ^ 32 * (a + b) ≡ a * b + 2 ^ 64
    whole = lacks a b (2 ^ 32 - a) (2 ^ 32 - b) (omega arith) (omega arith)

    low : (p z : ℕ) → p < 2 ^ 64 → z + 2 ^ 32 * (a + b) ≡ p + 2 ^ 64 → a + b ≤ p % 2 ^ 64 / 2 ^ 32 + 2 ^ 32
    low p z l e = omega arith

    high : (p z : ℕ) → p < 2 ^ 64 → z ≤ 2 ^ 62 → z + 2 ^ 32 * (a + b) ≡ p + 2 ^ 64 → p % 2 ^ 64 / 2 ^ 32 + 2 ^ 32 < a + b + 2 ^ 31
    high p z l m e = omega arith

-- The signed halves, up to 2 ^ 32 for each top bit.

once : (H h b : ℕ) → b < 2 ^ 32 → H ≤ b → b ≤ 2 * H + 1 → (H + (2 ^ 32 - b)) % 2 ^ 32 ≡ h → h + b ≡ H + bit_of (negative h) * 2 ^ 32
unfolding bit_of
once H h b hb l m e = by_sign h (λ x. h + b ≡ H + pick x 1 0 * 2 ^ 32) (λ (k : 2 ^ 31 ≤ h). omega arith) (λ (k : h < 2 ^ 31). omega arith)

twice : (H h a b : ℕ) → a < 2 ^ 32 → b < 2 ^ 32 → a + b ≤ H + 2 ^ 32 → H + 2 ^ 32 < a + b + 2 ^ 31 → ((H + (2 ^ 32 - b)) % 2 ^ 32 + (2 ^ 32 - a)) % 2 ^ 32 ≡ h → h + b + a ≡ H + 2 ^ 32 + bit_of (negative h) * 2 ^ 32
unfolding bit_of
twice H h a b ha hb l m e = by_sign h (λ x. h + b + a ≡ H + 2 ^ 32 + pick x 1 0 * 2 ^ 32) (λ (k : 2 ^ 31 ≤ h). omega arith) (λ (k : h < 2 ^ 31). omega arith)

pub mixed_half : (a b : ℕ) → a < 2 ^ 32 → b < 2 ^ 32 → mulh_su a b + bit_of (negative a) * b ≡ mulh_uu a b + bit_of (negative (mulh_su a b)) * 2 ^ 32
unfolding bit_of sub_w
mixed_half a b ha hb = by_order a (2 ^ 31)
    (λ (h : a < 2 ^ 31). rw (negative_isnt a h, ← mixed_positive a b h, negative_isnt (mulh_uu a b) (positive_half a b h hb)) (omega arith))
    (λ (h : 2 ^ 31 ≤ a). rw (negative_is a h)
    (let k = negative_half a b h ha hb in
    omega (arith, once (mulh_uu a b) (mulh_su a b) b hb k.0 k.1 (mixed_negative a b hb h))))

unsigned_comm : (a b : ℕ) → mulh_uu a b ≡ mulh_uu b a
unfolding mulh_uu
unsigned_comm a b = ap upper (mul_comm a b)

right_negative : (a b : ℕ) → a < 2 ^ 31 → b < 2 ^ 32 → 2 ^ 31 ≤ b → mulh_ss a b + a ≡ mulh_uu a b + bit_of (negative (mulh_ss a b)) * 2 ^ 32
unfolding sub_w
right_negative a b ha hb h =
    let k : (mulh_uu a b ≤ a) × (a ≤ 2 * mulh_uu a b + 1) = rw (unsigned_comm a b) (negative_half b a h hb (omega arith)) in
    once (mulh_uu a b) (mulh_ss a b) a (omega arith) k.0 k.1 (rw (mixed_positive a b ha) (signed_negative a b (omega arith) h))

both_negative : (a b : ℕ) → 2 ^ 31 ≤ a → a < 2 ^ 32 → 2 ^ 31 ≤ b → b < 2 ^ 32 → mulh_ss a b + b + a ≡ mulh_uu a b + 2 ^ 32 + bit_of (negative (mulh_ss a b)) * 2 ^ 32
unfolding sub_w
both_negative a b k ha h hb =
    let l : (a + b ≤ mulh_uu a b + 2 ^ 32) × (mulh_uu a b + 2 ^ 32 < a + b + 2 ^ 31) = both_negative_half a b k ha h hb in
    twice (mulh_uu a b) (mulh_ss a b) a b ha hb l.0 l.1 (ap (λ (m : ℕ). (m + (2 ^ 32 - a)) % 2 ^ 32) (mixed_negative a b hb k) ∙ signed_negative a b ha h)

pub signed_half : (a b : ℕ) → a < 2 ^ 32 → b < 2 ^ 32 → mulh_ss a b + bit_of (negative a) * b + bit_of (negative b) * a ≡ mulh_uu a b + bit_of (negative a) * bit_of (negative b) * 2 ^ 32 + bit_of (negative (mulh_ss a b)) * 2 ^ 32
unfolding bit_of
signed_half a b ha hb = by_order b (2 ^ 31)
    (λ (h : b < 2 ^ 31). rw (negative_isnt b h, ← signed_positive a b h) (omega (arith, mixed_half a b ha hb)))
    (λ (h : 2 ^ 31 ≤ b). by_order a (2 ^ 31)
    (λ (k : a < 2 ^ 31). rw (negative_is b h, negative_isnt a k) (omega (arith, right_negative a b k hb h)))
    (λ (k : 2 ^ 31 ≤ a). rw (negative_is b h, negative_is a k) (omega (arith, both_negative a b k ha h hb))))
