-- The immediates: the number that a word's bits hold, and the bits of that number. First those of 12 bits (I and S), then of 13 (B), then of 21 (J).
use Prim.Native.Nat.{ℕ, ◌+◌, ◌*◌, ◌/◌, ◌%◌, ◌^◌, ◌<◌, ◌≤◌}
use mathlib.Core.Path.{◌≡◌, sym, ◌∙◌, ap}
use native.Mathlib.Omega.{arith}
use native.Mathlib.Nat.{mod-eq_of_lt}
use lib.Arith.{digits_div, digits_mod}
use lib.Pow.{mod-pow-add, mod-mod-pow, field}
use Rattle.word.specs.Word.{sign_extend}
use Rattle.word.proofs.Extend.{sign_extend_low}
use Rattle.processor.specs.Formats.{bits, low, funct7, rd, imm_b, imm_j}
use Rattle.processor.specs.Instructions.{Extended, Even}
use Rattle.processor.proofs.Fields.{part}

-- What is extended from n bits is a number that n bits, extended, give.
pub extended : (n x : ℕ) → 0 < n → n ≤ 32 → x < 2 ^ n → Extended n (sign_extend n x)
extended n x some most h = ap (sign_extend n) (sym (sign_extend_low n some most x h))

-- j bits from the k-th on, of a number and of its low r + j + k bits
pub sub_bits : (y r j k : ℕ) → y % 2 ^ (r + j + k) / 2 ^ k % 2 ^ j ≡ y / 2 ^ k % 2 ^ j
sub_bits y r j k = ap (λ (x : ℕ). x % 2 ^ j) (field y (r + j) k) ∙ mod-mod-pow (y / 2 ^ k) r j

-- 12 bits, in 7 and 5

pub imm12_of : (n : ℕ) → Extended 12 n → sign_extend 12 (bits 11 5 n * 2 ^ 5 + low 5 n) ≡ n
imm12_of n h = rw (← mod-pow-add n 7 5) (sym h)

pub record Imm12 (f b n : ℕ) : Type 0 where
  pub high : bits 11 5 n ≡ f
  pub rest : low 5 n ≡ b
  pub fine : Extended 12 n

pub imm12 : (f b : ℕ) → f < 128 → b < 32 → Imm12 f b (sign_extend 12 (f * 2 ^ 5 + b))
imm12 f b hf hb =
    let x : ℕ = f * 2 ^ 5 + b in
    let e : sign_extend 12 x % 2 ^ 12 ≡ x = sign_extend_low 12 (omega arith) (omega arith) x (omega arith) in
    record {
      high = sym (sub_bits (sign_extend 12 x) 0 7 5) ∙ rw e (rw (digits_div f {m = 32} {r = b} hb) (mod-eq_of_lt hf));
      rest = sym (mod-mod-pow (sign_extend 12 x) 7 5) ∙ rw e (digits_mod f {m = 32} {r = b} hb);
      fine = extended 12 x (omega arith) (omega arith) (omega arith);
    }

-- 13 bits, the last clear, in 1, 1, 6 and 4

abbrev pub thirteen : ℕ → ℕ → ℕ → ℕ → ℕ
thirteen a b c d = a * 2 ^ 12 + b * 2 ^ 11 + c * 2 ^ 5 + d * 2 ^ 1

-- by the columns that hold it
pub imm_b_is : (w : ℕ) → imm_b w ≡ sign_extend 13 (thirteen (funct7 w / 2 ^ 6 % 2 ^ 1) (rd w % 2 ^ 1) (funct7 w % 2 ^ 6) (rd w / 2 ^ 1 % 2 ^ 4))
unfolding imm_b
imm_b_is w = rw (part w 25 0 1 6, part w 7 0 4 1, mod-mod-pow (w / 2 ^ 25) 1 6, mod-mod-pow (w / 2 ^ 7) 4 1)

pub imm13_of : (n : ℕ) → Extended 13 n → Even n → sign_extend 13 (thirteen (bits 12 12 n) (bits 11 11 n) (bits 10 5 n) (bits 4 1 n)) ≡ n
imm13_of n h even = rw (whole (n % 2 ^ 13) (bits 12 12 n) (bits 11 11 n) (bits 10 5 n) (bits 4 1 n) (mod-pow-add n 1 12) (mod-pow-add n 1 11) (mod-pow-add n 6 5) (rw (← even) (mod-pow-add n 4 1))) (sym h)
  where
    whole : (n a b c d : ℕ) {p q r : ℕ} → n ≡ a * 2 ^ 12 + p → p ≡ b * 2 ^ 11 + q → q ≡ c * 2 ^ 5 + r → r ≡ d * 2 ^ 1 + 0 → thirteen a b c d ≡ n
    whole n a b c d h1 h2 h3 h4 = omega arith

pub record Imm13 (a b c d n : ℕ) : Type 0 where
  pub a_is : bits 12 12 n ≡ a
  pub b_is : bits 11 11 n ≡ b
  pub c_is : bits 10 5 n ≡ c
  pub d_is : bits 4 1 n ≡ d
  pub fine : Extended 13 n
  pub even : Even n

pub imm13 : (a b c d : ℕ) → a < 2 → b < 2 → c < 64 → d < 16 → Imm13 a b c d (sign_extend 13 (thirteen a b c d))
imm13 a b c d ha hb hc hd =
    let x : ℕ = thirteen a b c d in
    let e : sign_extend 13 x % 2 ^ 13 ≡ x = sign_extend_low 13 (omega arith) (omega arith) x (omega arith) in
    record {
      a_is = sym (sub_bits (sign_extend 13 x) 0 1 12) ∙ rw e (omega arith);
      b_is = sym (sub_bits (sign_extend 13 x) 1 1 11) ∙ rw e (omega arith);
      c_is = sym (sub_bits (sign_extend 13 x) 2 6 5) ∙ rw e (omega arith);
      d_is = sym (sub_bits (sign_extend 13 x) 8 4 1) ∙ rw e (omega arith);
      fine = extended 13 x (omega arith) (omega arith) (omega arith);
      even = sym (mod-mod-pow (sign_extend 13 x) 12 1) ∙ rw e (omega arith);
    }

-- 21 bits, the last clear, in 1, 8, 1 and 10

abbrev pub twenty_one : ℕ → ℕ → ℕ → ℕ → ℕ
twenty_one a b c d = a * 2 ^ 20 + b * 2 ^ 12 + c * 2 ^ 11 + d * 2 ^ 1

-- the column that holds it
abbrev pub column : ℕ → ℕ → ℕ → ℕ → ℕ
column a b c d = a * 2 ^ 19 + d * 2 ^ 9 + c * 2 ^ 8 + b

pub imm_j_is : (w : ℕ) → imm_j w ≡ sign_extend 21 (twenty_one (bits 31 12 w / 2 ^ 19 % 2 ^ 1) (bits 31 12 w % 2 ^ 8) (bits 31 12 w / 2 ^ 8 % 2 ^ 1) (bits 31 12 w / 2 ^ 9 % 2 ^ 10))
unfolding imm_j
imm_j_is w = rw (part w 12 0 1 19, mod-mod-pow (w / 2 ^ 12) 12 8, part w 12 11 1 8, part w 12 1 10 9)

pub imm21_of : (n : ℕ) → Extended 21 n → Even n → sign_extend 21 (twenty_one (bits 20 20 n) (bits 19 12 n) (bits 11 11 n) (bits 10 1 n)) ≡ n
imm21_of n h even = rw (whole (n % 2 ^ 21) (bits 20 20 n) (bits 19 12 n) (bits 11 11 n) (bits 10 1 n) (mod-pow-add n 1 20) (mod-pow-add n 8 12) (mod-pow-add n 1 11) (rw (← even) (mod-pow-add n 10 1))) (sym h)
  where
    whole : (n a b c d : ℕ) {p q r : ℕ} → n ≡ a * 2 ^ 20 + p → p ≡ b * 2 ^ 12 + q → q ≡ c * 2 ^ 11 + r → r ≡ d * 2 ^ 1 + 0 → twenty_one a b c d ≡ n
    whole n a b c d h1 h2 h3 h4 = omega arith

pub record Imm21 (a b c d n : ℕ) : Type 0 where
  pub a_is : bits 20 20 n ≡ a
  pub b_is : bits 19 12 n ≡ b
  pub c_is : bits 11 11 n ≡ c
  pub d_is : bits 10 1 n ≡ d
  pub fine : Extended 21 n
  pub even : Even n

pub imm21 : (a b c d : ℕ) → a < 2 → b < 256 → c < 2 → d < 1024 → Imm21 a b c d (sign_extend 21 (twenty_one a b c d))
imm21 a b c d ha hb hc hd =
    let x : ℕ = twenty_one a b c d in
    let e : sign_extend 21 x % 2 ^ 21 ≡ x = sign_extend_low 21 (omega arith) (omega arith) x (omega arith) in
    record {
      a_is = sym (sub_bits (sign_extend 21 x) 0 1 20) ∙ rw e (omega arith);
      b_is = sym (sub_bits (sign_extend 21 x) 1 8 12) ∙ rw e (omega arith);
      c_is = sym (sub_bits (sign_extend 21 x) 9 1 11) ∙ rw e (omega arith);
      d_is = sym (sub_bits (sign_extend 21 x) 10 10 1) ∙ rw e (omega arith);
      fine = extended 21 x (omega arith) (omega arith) (omega arith);
      even = sym (mod-mod-pow (sign_extend 21 x) 20 1) ∙ rw e (omega arith);
    }

-- a column from its parts, and its parts
pub record Column (a b c d u : ℕ) : Type 0 where
  pub a_is : u / 2 ^ 19 % 2 ^ 1 ≡ a
  pub b_is : u % 2 ^ 8 ≡ b
  pub c_is : u / 2 ^ 8 % 2 ^ 1 ≡ c
  pub d_is : u / 2 ^ 9 % 2 ^ 10 ≡ d
  pub small : u < 2 ^ 20

pub column_parts : (a b c d : ℕ) → a < 2 → b < 256 → c < 2 → d < 1024 → Column a b c d (column a b c d)
column_parts a b c d ha hb hc hd = omega arith

pub column_whole : (u : ℕ) → u < 2 ^ 20 → column (u / 2 ^ 19 % 2 ^ 1) (u % 2 ^ 8) (u / 2 ^ 8 % 2 ^ 1) (u / 2 ^ 9 % 2 ^ 10) ≡ u
column_whole u h = whole u (u / 2 ^ 19 % 2 ^ 1) (u % 2 ^ 8) (u / 2 ^ 8 % 2 ^ 1) (u / 2 ^ 9 % 2 ^ 10) (sym (mod-eq_of_lt h) ∙ mod-pow-add u 1 19) (mod-pow-add u 10 9) (mod-pow-add u 1 8)
  where
    whole : (n a b c d : ℕ) {p q : ℕ} → n ≡ a * 2 ^ 19 + p → p ≡ d * 2 ^ 9 + q → q ≡ c * 2 ^ 8 + b → column a b c d ≡ n
    whole n a b c d h1 h2 h3 = omega arith
