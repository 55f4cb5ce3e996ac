-- The columns of a word, and the word of its columns: one law for the formats R, I, S and B, one for U and J.
use Prim.Native.Nat.{ℕ, ◌+◌, ◌*◌, ◌/◌, ◌%◌, ◌^◌, ◌<◌}
use mathlib.Core.Path.{◌≡◌, sym, ◌∙◌, ap}
use native.Mathlib.Omega.{arith}
use native.Mathlib.Nat.{mod-eq_of_lt}
use lib.Arith.{digits_div, digits_mod}
use lib.Pow.{mod-pow-add, mod-mod-pow, field, shr-shr}
use Rattle.processor.specs.Formats.{bits, low, funct7, rs2, rs1, funct3, rd, opcode, r_word, u_word}

-- columns that are in range, put together
abbrev pub raw : ℕ → ℕ → ℕ → ℕ → ℕ → ℕ → ℕ
raw f b a t d o = f * 2 ^ 25 + b * 2 ^ 20 + a * 2 ^ 15 + t * 2 ^ 12 + d * 2 ^ 7 + o

pub record Fields (w f b a t d o : ℕ) : Type 0 where
  pub f_is : funct7 w ≡ f
  pub b_is : rs2 w ≡ b
  pub a_is : rs1 w ≡ a
  pub t_is : funct3 w ≡ t
  pub d_is : rd w ≡ d
  pub o_is : opcode w ≡ o
  pub small : w < 2 ^ 32

-- a number in two parts, taken apart
pub digit : (m : ℕ) {w x q : ℕ} → x < m → w ≡ q * m + x → (w / m ≡ q) × (w % m ≡ x)
digit m {w} {x} {q} h e = (rw e (digits_div q h), rw e (digits_mod q h))

raw_fields : (f b a t d o : ℕ) → f < 128 → b < 32 → a < 32 → t < 8 → d < 32 → o < 128 → Fields (raw f b a t d o) f b a t d o
raw_fields f b a t d o hf hb ha ht hd ho =
    let w : ℕ = raw f b a t d o in
    let x4 : ℕ = f * 32 + b in
    let x3 : ℕ = x4 * 32 + a in
    let x2 : ℕ = x3 * 8 + t in
    let x1 : ℕ = x2 * 32 + d in
    let p1 = digit (2 ^ 7) {w = w} {x = o} {q = x1} ho (omega arith) in
    let p2 = digit (2 ^ 12) {w = w} {x = d * 128 + o} {q = x2} (omega arith) (omega arith) in
    let p3 = digit (2 ^ 15) {w = w} {x = t * 4096 + (d * 128 + o)} {q = x3} (omega arith) (omega arith) in
    let p4 = digit (2 ^ 20) {w = w} {x = a * 32768 + (t * 4096 + (d * 128 + o))} {q = x4} (omega arith) (omega arith) in
    let p5 = digit (2 ^ 25) {w = w} {x = b * 1048576 + (a * 32768 + (t * 4096 + (d * 128 + o)))} {q = f} (omega arith) (omega arith) in
    record {
      f_is = rw p5.0 (mod-eq_of_lt hf);
      b_is = rw p4.0 (digits_mod f hb);
      a_is = rw p3.0 (digits_mod x4 ha);
      t_is = rw p2.0 (digits_mod x3 ht);
      d_is = rw p1.0 (digits_mod x2 hd);
      o_is = p1.1;
      small = omega arith;
    }

pub r_fields : (f b a t d o : ℕ) → Fields (r_word f b a t d o) (low 7 f) (low 5 b) (low 5 a) (low 3 t) (low 5 d) (low 7 o)
unfolding r_word
r_fields f b a t d o =
    raw_fields (low 7 f) (low 5 b) (low 5 a) (low 3 t) (low 5 d) (low 7 o) (omega arith) (omega arith) (omega arith) (omega arith) (omega arith) (omega arith)

-- of columns in range, the word has exactly these
pub r_exact : (f b a t d o : ℕ) → f < 128 → b < 32 → a < 32 → t < 8 → d < 32 → o < 128 → Fields (r_word f b a t d o) f b a t d o
unfolding r_word
r_exact f b a t d o hf hb ha ht hd ho =
    rw (mod-eq_of_lt hf, mod-eq_of_lt hb, mod-eq_of_lt ha, mod-eq_of_lt ht, mod-eq_of_lt hd, mod-eq_of_lt ho) (raw_fields f b a t d o hf hb ha ht hd ho)

-- the word of the columns of w is w
pub r_whole : (w : ℕ) → w < 2 ^ 32 → r_word (funct7 w) (rs2 w) (rs1 w) (funct3 w) (rd w) (opcode w) ≡ w
unfolding r_word
r_whole w h =
    rw (
      mod-eq_of_lt {n = funct7 w} {m = 128} (omega arith),
      mod-eq_of_lt {n = rs2 w} {m = 32} (omega arith),
      mod-eq_of_lt {n = rs1 w} {m = 32} (omega arith),
      mod-eq_of_lt {n = funct3 w} {m = 8} (omega arith),
      mod-eq_of_lt {n = rd w} {m = 32} (omega arith),
      mod-eq_of_lt {n = opcode w} {m = 128} (omega arith),
    )
    (whole w (funct7 w) (rs2 w) (rs1 w) (funct3 w) (rd w) (opcode w) (mod-pow-add w 5 7) (mod-pow-add w 3 12) (mod-pow-add w 5 15) (mod-pow-add w 5 20)
    (sym (mod-eq_of_lt h) ∙ mod-pow-add w 7 25))
  where
    whole : (w f b a t d o : ℕ) {p q r s : ℕ} → p ≡ d * 2 ^ 7 + o → q ≡ t * 2 ^ 12 + p → r ≡ a * 2 ^ 15 + q → s ≡ b * 2 ^ 20 + r → w ≡ f * 2 ^ 25 + s
        → raw f b a t d o ≡ w
    whole w f b a t d o h1 h2 h3 h4 h5 = omega arith

-- The same for a word whose upper 20 bits are one column.

pub record UFields (w u d o : ℕ) : Type 0 where
  pub u_is : bits 31 12 w ≡ u
  pub d_is : rd w ≡ d
  pub o_is : opcode w ≡ o
  pub small : w < 2 ^ 32

raw_ufields : (u d o : ℕ) → u < 2 ^ 20 → d < 32 → o < 128 → UFields (u * 2 ^ 12 + d * 2 ^ 7 + o) u d o
raw_ufields u d o hu hd ho = omega arith

pub u_fields : (imm d o : ℕ) → UFields (u_word imm d o) (bits 31 12 imm) (low 5 d) (low 7 o)
unfolding u_word
u_fields imm d o = raw_ufields (bits 31 12 imm) (low 5 d) (low 7 o) (omega arith) (omega arith) (omega arith)

pub u_whole : (w : ℕ) → w < 2 ^ 32 → u_word (bits 31 12 w * 2 ^ 12) (rd w) (opcode w) ≡ w
unfolding u_word
u_whole w h = whole (bits 31 12 w) (rd w) (opcode w) (omega arith) (omega arith) (omega arith) ∙ same w h
  where
    whole : (u d o : ℕ) → u < 2 ^ 20 → d < 32 → o < 128 → bits 31 12 (u * 2 ^ 12) * 2 ^ 12 + low 5 d * 2 ^ 7 + low 7 o ≡ u * 2 ^ 12 + d * 2 ^ 7 + o
    whole u d o hu hd ho = omega arith

    same : (w : ℕ) → w < 2 ^ 32 → bits 31 12 w * 2 ^ 12 + rd w * 2 ^ 7 + opcode w ≡ w
    same w h = omega arith

-- bits of a column are bits of the word: j bits from the k-th on, of a column of r + j + k bits that stands at bit l
pub part : (w l r j k : ℕ) → w / 2 ^ l % 2 ^ (r + j + k) / 2 ^ k % 2 ^ j ≡ w / 2 ^ (l + k) % 2 ^ j
part w l r j k =
    ap (λ (x : ℕ). x % 2 ^ j) (field (w / 2 ^ l) (r + j) k)
    ∙ mod-mod-pow (w / 2 ^ l / 2 ^ k) r j
    ∙ ap (λ (x : ℕ). x % 2 ^ j) (shr-shr w l k)
