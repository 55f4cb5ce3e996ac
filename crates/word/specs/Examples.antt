-- The definitions at numbers, as checked equations. A negative number is written as 2 ^ 32 less its magnitude.
use Rattle.std.specs.Prelude.{ℕ, ◌-◌, ◌^◌, ◌≡◌, refl, true, false, [], ◌∷◌}
use Rattle.word.specs.Word.{add_w, sub_w, neg_w, mul_w, lt_s, lt_u, quot_s, rem_s, quot_u, shl_w, shr_u, shr_s, mulh_ss, mulh_su, mulh_uu, sign_extend, negative, magnitude, wide, upper, and_w, or_w, xor_w}
use Rattle.word.specs.Bytes.{word_of, bytes_of, words_of_bytes}

-- minus n, as a word
abbrev minus : ℕ → ℕ
minus n = 2 ^ 32 - n

-- the largest signed number and 1 more is the least
wraps : add_w 0x7fffffff 1 ≡ 0x80000000
unfolding add_w
wraps = refl

below_zero : sub_w 2 5 ≡ minus 3
unfolding sub_w
below_zero = refl

-- the least signed number is its own negation
own_negation : neg_w 0x80000000 ≡ 0x80000000
unfolding neg_w
own_negation = refl

product : mul_w (minus 3) 5 ≡ minus 15
unfolding mul_w
product = refl

signed : lt_s (minus 1) 0 ≡ true
unfolding lt_s negative
signed = refl

unsigned : lt_u (minus 1) 0 ≡ false
unfolding lt_u
unsigned = refl

-- -7 / 2 is -3, and -1 is left; 7 / -2 is -3, and 1 is left
toward_zero : quot_s (minus 7) 2 ≡ minus 3
unfolding quot_s negative magnitude neg_w
toward_zero = refl

left_sign : rem_s (minus 7) 2 ≡ minus 1
unfolding rem_s negative magnitude neg_w
left_sign = refl

left_sign_positive : rem_s 7 (minus 2) ≡ 1
unfolding rem_s negative magnitude neg_w
left_sign_positive = refl

-- the one quotient that does not fit wraps, and leaves nothing
least_by_minus_one : quot_s 0x80000000 (minus 1) ≡ 0x80000000
unfolding quot_s negative magnitude neg_w
least_by_minus_one = refl

nothing_left : rem_s 0x80000000 (minus 1) ≡ 0
unfolding rem_s negative magnitude neg_w
nothing_left = refl

unsigned_quotient : quot_u (minus 7) 2 ≡ 2147483644
unfolding quot_u
unsigned_quotient = refl

all_ones : shr_s 0x80000000 31 ≡ 0xffffffff
unfolding shr_s negative
all_ones = refl

top_bit : shr_u 0x80000000 31 ≡ 1
unfolding shr_u
top_bit = refl

shifted_out : shl_w 0x80000001 1 ≡ 2
unfolding shl_w
shifted_out = refl

-- -1 * -1 is 1; -1 * (2 ^ 32 - 1) is -2 ^ 32 + 1; (2 ^ 32 - 1) * (2 ^ 32 - 1) is 2 ^ 64 - 2 ^ 33 + 1
upper_signed : mulh_ss (minus 1) (minus 1) ≡ 0
unfolding mulh_ss wide upper negative
upper_signed = refl

upper_mixed : mulh_su (minus 1) 0xffffffff ≡ minus 1
unfolding mulh_su wide upper negative
upper_mixed = refl

upper_unsigned : mulh_uu 0xffffffff 0xffffffff ≡ 0xfffffffe
unfolding mulh_uu upper
upper_unsigned = refl

bit_by_bit : xor_w (or_w 0b1100 0b0010) (and_w 0b0110 0b0011) ≡ 0b1100
unfolding xor_w or_w and_w
bit_by_bit = refl

extended : sign_extend 12 0xfff ≡ 0xffffffff
unfolding sign_extend
extended = refl

not_extended : sign_extend 12 0x7ff ≡ 0x7ff
unfolding sign_extend
not_extended = refl

lowest_first : bytes_of 0x12345678 ≡ 0x78 ∷ 0x56 ∷ 0x34 ∷ 0x12 ∷ []
unfolding bytes_of
lowest_first = refl

from_bytes : word_of 0x78 0x56 0x34 0x12 ≡ 0x12345678
unfolding word_of
from_bytes = refl

part_left_out : words_of_bytes (1 ∷ 0 ∷ 0 ∷ 0 ∷ 2 ∷ 0 ∷ []) ≡ 1 ∷ []
unfolding words_of_bytes word_of
part_left_out = refl
