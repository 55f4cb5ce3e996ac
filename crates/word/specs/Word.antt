-- Words of 32 bits, the numbers of both documents: a word is a natural number below 2 ^ 32.
-- Where an operation is signed, a word whose top bit is set stands for itself less 2 ^ 32 (two's complement).
use Rattle.std.specs.Prelude.{ℕ, ◌+◌, ◌-◌, ◌*◌, ◌/◌, ◌%◌, ◌^◌, Bool, leb, ltb}
use Rattle.std.specs.Int.Bits.{bit_and, bit_or, bit_xor}
use Rattle.word.specs.Choice.{pick, agree}

-- Sums, differences and products wrap.

unfoldable pub add_w : ℕ → ℕ → ℕ
add_w a b = (a + b) % 2 ^ 32

unfoldable pub sub_w : ℕ → ℕ → ℕ
sub_w a b = (a + (2 ^ 32 - b)) % 2 ^ 32

unfoldable pub neg_w : ℕ → ℕ
neg_w a = (2 ^ 32 - a) % 2 ^ 32

unfoldable pub mul_w : ℕ → ℕ → ℕ
mul_w a b = a * b % 2 ^ 32

-- Whether a word stands for a negative number, and that number without its sign.

unfoldable pub negative : ℕ → Bool
negative a = leb (2 ^ 31) a

unfoldable pub magnitude : ℕ → ℕ
magnitude a = pick (negative a) (2 ^ 32 - a) a

-- The signed order: of two words of one sign the unsigned order, else the negative one is less.
unfoldable pub lt_s : ℕ → ℕ → Bool
lt_s a b = pick (agree (negative a) (negative b)) (ltb a b) (negative a)

-- The unsigned order.
unfoldable pub lt_u : ℕ → ℕ → Bool
lt_u a b = ltb a b

-- The signed quotient rounds toward zero and the signed remainder has its left side's sign. The divisor is not 0.

unfoldable pub quot_s : ℕ → ℕ → ℕ
quot_s a b = pick (agree (negative a) (negative b)) (magnitude a / magnitude b) (neg_w (magnitude a / magnitude b))

unfoldable pub rem_s : ℕ → ℕ → ℕ
rem_s a b = pick (negative a) (neg_w (magnitude a % magnitude b)) (magnitude a % magnitude b)

-- The unsigned ones. The divisor is not 0.

unfoldable pub quot_u : ℕ → ℕ → ℕ
quot_u a b = a / b

unfoldable pub rem_u : ℕ → ℕ → ℕ
rem_u a b = a % b

-- Bit by bit.

unfoldable pub and_w : ℕ → ℕ → ℕ
and_w a b = bit_and a b

unfoldable pub or_w : ℕ → ℕ → ℕ
or_w a b = bit_or a b

unfoldable pub xor_w : ℕ → ℕ → ℕ
xor_w a b = bit_xor a b

-- Shifts by 0 to 31 places: to the left, to the right filling with zeros, to the right filling with the top bit.

unfoldable pub shl_w : ℕ → ℕ → ℕ
shl_w a s = a * 2 ^ s % 2 ^ 32

unfoldable pub shr_u : ℕ → ℕ → ℕ
shr_u a s = a / 2 ^ s

unfoldable pub shr_s : ℕ → ℕ → ℕ
shr_s a s = pick (negative a) (2 ^ 32 - 1 - (2 ^ 32 - 1 - a) / 2 ^ s) (a / 2 ^ s)

-- The upper 32 bits of the 64-bit product: of signed by signed, signed by unsigned, unsigned by unsigned.

-- a word in 64 bits, with copies of its top bit above it
unfoldable pub wide : ℕ → ℕ
wide a = pick (negative a) (2 ^ 64 - 2 ^ 32 + a) a

-- bits 63 to 32
unfoldable pub upper : ℕ → ℕ
upper p = p % 2 ^ 64 / 2 ^ 32

unfoldable pub mulh_ss : ℕ → ℕ → ℕ
mulh_ss a b = upper (wide a * wide b)

unfoldable pub mulh_su : ℕ → ℕ → ℕ
mulh_su a b = upper (wide a * b)

unfoldable pub mulh_uu : ℕ → ℕ → ℕ
mulh_uu a b = upper (a * b)

-- A number of so many bits, with copies of its top bit above it up to bit 31.
unfoldable pub sign_extend : ℕ → ℕ → ℕ
sign_extend bits n = n + n / 2 ^ (bits - 1) * (2 ^ 32 - 2 ^ bits)

-- A test as a word.
unfoldable pub bit_of : Bool → ℕ
bit_of b = pick b 1 0
