-- Document 03 §2: the formats of an instruction's word.
use Rattle.std.specs.Prelude.{ℕ, ◌+◌, ◌-◌, ◌*◌, ◌/◌, ◌%◌, ◌^◌}
use Rattle.word.specs.Word.{sign_extend}

-- bits hi to lo of a word, as a number; and its low n bits
abbrev pub bits : ℕ → ℕ → ℕ → ℕ
bits hi lo w = w / 2 ^ lo % 2 ^ (hi + 1 - lo)

abbrev pub low : ℕ → ℕ → ℕ
low n w = w % 2 ^ n

-- |   | 31..25 | 24..20 | 19..15 | 14..12 | 11..7 | 6..0   |
-- | R | funct7 | rs2    | rs1    | funct3 | rd    | opcode |

abbrev pub funct7 : ℕ → ℕ
funct7 w = bits 31 25 w

abbrev pub rs2 : ℕ → ℕ
rs2 w = bits 24 20 w

abbrev pub rs1 : ℕ → ℕ
rs1 w = bits 19 15 w

abbrev pub funct3 : ℕ → ℕ
funct3 w = bits 14 12 w

abbrev pub rd : ℕ → ℕ
rd w = bits 11 7 w

abbrev pub opcode : ℕ → ℕ
opcode w = low 7 w

-- "Immediates are sign-extended from their top bit; those of B and J have bit 0 clear; that of U fills the upper 20 bits."

-- | I | imm[11:5] | imm[4:0] | rs1 | funct3 | rd | opcode |
unfoldable pub imm_i : ℕ → ℕ
imm_i w = sign_extend 12 (bits 31 25 w * 2 ^ 5 + bits 24 20 w)

-- | S | imm[11:5] | rs2 | rs1 | funct3 | imm[4:0] | opcode |
unfoldable pub imm_s : ℕ → ℕ
imm_s w = sign_extend 12 (bits 31 25 w * 2 ^ 5 + bits 11 7 w)

-- | B | imm[12], imm[10:5] | rs2 | rs1 | funct3 | imm[4:1], imm[11] | opcode |
unfoldable pub imm_b : ℕ → ℕ
imm_b w = sign_extend 13 (bits 31 31 w * 2 ^ 12 + bits 7 7 w * 2 ^ 11 + bits 30 25 w * 2 ^ 5 + bits 11 8 w * 2 ^ 1)

-- | U | imm[31:12], bits 31 to 12 | | | | rd | opcode |
unfoldable pub imm_u : ℕ → ℕ
imm_u w = bits 31 12 w * 2 ^ 12

-- | J | imm[20], imm[10:1], imm[11], imm[19:12], bits 31 to 12 | | | | rd | opcode |
unfoldable pub imm_j : ℕ → ℕ
imm_j w = sign_extend 21 (bits 31 31 w * 2 ^ 20 + bits 19 12 w * 2 ^ 12 + bits 20 20 w * 2 ^ 11 + bits 30 21 w * 2 ^ 1)

-- The words of the formats: what stands in each column, from the left. A column takes the low bits of what it is given.

unfoldable pub r_word : ℕ → ℕ → ℕ → ℕ → ℕ → ℕ → ℕ
r_word f7 b a f3 d o = low 7 f7 * 2 ^ 25 + low 5 b * 2 ^ 20 + low 5 a * 2 ^ 15 + low 3 f3 * 2 ^ 12 + low 5 d * 2 ^ 7 + low 7 o

unfoldable pub i_word : ℕ → ℕ → ℕ → ℕ → ℕ → ℕ
i_word imm a f3 d o = r_word (bits 11 5 imm) (low 5 imm) a f3 d o

unfoldable pub s_word : ℕ → ℕ → ℕ → ℕ → ℕ → ℕ
s_word imm b a f3 o = r_word (bits 11 5 imm) b a f3 (low 5 imm) o

unfoldable pub b_word : ℕ → ℕ → ℕ → ℕ → ℕ → ℕ
b_word imm b a f3 o = r_word (bits 12 12 imm * 2 ^ 6 + bits 10 5 imm) b a f3 (bits 4 1 imm * 2 ^ 1 + bits 11 11 imm) o

unfoldable pub u_word : ℕ → ℕ → ℕ → ℕ
u_word imm d o = bits 31 12 imm * 2 ^ 12 + low 5 d * 2 ^ 7 + low 7 o

unfoldable pub j_word : ℕ → ℕ → ℕ → ℕ
j_word imm d o = u_word ((bits 20 20 imm * 2 ^ 19 + bits 10 1 imm * 2 ^ 9 + bits 11 11 imm * 2 ^ 8 + bits 19 12 imm) * 2 ^ 12) d o
