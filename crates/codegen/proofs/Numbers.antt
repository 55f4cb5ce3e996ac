-- Arithmetic of words that the instructions need: the two parts of a constant, addresses, sums that don't wrap.
use mathlib.Core.Path.{◌≡◌, refl, sym, ◌∙◌}
use mathlib.Core.Bool.{Bool, true, false, not}
use Prim.Native.Nat.{ℕ, ◌+◌, ◌-◌, ◌*◌, ◌/◌, ◌%◌, ◌^◌, ◌≤◌, ◌<◌}
use native.Mathlib.Omega.{arith}
use native.Mathlib.Decide.{dec_lt}
use lib.Dec.{eqb}
use borrow.Author.Tests.{le-leb, eq-eqb}
use Rattle.word.specs.Word.{add_w, shl_w, sign_extend, lt_s, lt_u}
use Rattle.processor.specs.declared.Width.TheVariants.{Word}
use Rattle.processor.specs.declared.Cond.{Cond}
use Rattle.processor.specs.declared.Cond.TheVariants.{Eq, Ne, Lt, Ge, Ltu, Geu}
use Rattle.processor.specs.Execute.{reaches, cond_of}
use Rattle.codegen.specs.Places.{upper_of, lower_of}
use Rattle.codegen.specs.Operators.{opposite}

pub add_none : (n : ℕ) → n < 2 ^ 32 → add_w 0 n ≡ n
unfolding add_w
add_none n h = omega arith

pub add_is : (a b : ℕ) → a + b < 2 ^ 32 → add_w a b ≡ a + b
unfolding add_w
add_is a b h = omega arith

-- a constant in two parts
parts_low : (q r : ℕ) → r < 2048 → q < 1048576 → add_w (q * 4096 % 2 ^ 32) (r + 0 * 4294963200) ≡ q * 4096 + r
unfolding add_w
parts_low q r hr hq = omega arith

parts_high : (q r : ℕ) → 2048 ≤ r → r < 4096 → q < 1048576 → add_w ((q + 1) * 4096 % 2 ^ 32) (r + 1 * 4294963200) ≡ q * 4096 + r
unfolding add_w
parts_high q r hr hr2 hq = omega arith

pub parts : (n : ℕ) → n < 2 ^ 32 → add_w (upper_of n) (lower_of n) ≡ n
unfolding upper_of lower_of sign_extend
parts n h = go (n / 4096) (n % 4096) (omega arith) (omega arith) (omega arith) (dec_lt (n % 4096) 2048)
  where
    go : (q r : ℕ) → n ≡ q * 4096 + r → r < 4096 → q < 1048576 → Dec (r < 2048) → add_w ((n + 2048) / 4096 * 4096 % 2 ^ 32) (r + r / 2048 * 4294963200) ≡ n
    go q r e hr hq (yes k) =
        let a : (n + 2048) / 4096 ≡ q = omega arith in
        let b : r / 2048 ≡ 0 = omega arith in
        rw (a, b) (parts_low q r k hq ∙ sym e)
    go q r e hr hq (no k) =
        let a : (n + 2048) / 4096 ≡ q + 1 = omega arith in
        let b : r / 2048 ≡ 1 = omega arith in
        rw (a, b) (parts_high q r (omega arith) hr hq ∙ sym e)

-- an index times 4
pub shift_is : (i : ℕ) → i < 1073741824 → shl_w i (2 % 32) ≡ 4 * i
unfolding shl_w
shift_is i h = omega arith

-- an element's address: 4 times the index and the upper part of the base, and then the lower part
sums : (x u l b : ℕ) → (u + l) % 2 ^ 32 ≡ b → x + b < 2 ^ 32 → ((x + u) % 2 ^ 32 + l) % 2 ^ 32 ≡ b + x
sums x u l b e h = omega arith

pub element_at : (x b : ℕ) → x + b < 2 ^ 32 → add_w (add_w x (upper_of b)) (lower_of b) ≡ b + x
unfolding add_w
element_at x b h = sums x (upper_of b) (lower_of b) b (parts b (omega arith)) h

-- a word of data may be loaded and stored
pub in_data : (a : ℕ) → 0x100000 ≤ a → a + 4 ≤ 0x200000 → a % 4 ≡ 0 → reaches Word a ≡ true
unfolding reaches
in_data a hl hh he = rw (eq-eqb (a % 4) 0 he, le-leb (a + 4) 0x200000 hh, le-leb 0x100000 a hl) refl

-- the next frame, and back
pub down : (b : ℕ) → b < 0x200000 → add_w (b + 1984) (2 ^ 32 - 1984) ≡ b
unfolding add_w
down b h = omega arith

not_not : (b : Bool) → b ≡ not (not b)
not_not true = refl
not_not false = refl

-- the opposite comparison
pub opposite_is : (c : Cond) (a b : ℕ) → cond_of (opposite c) a b ≡ not (cond_of c a b)
unfolding cond_of
opposite_is Eq a b = refl
opposite_is Ne a b = not_not (eqb a b)
opposite_is Lt a b = refl
opposite_is Ge a b = not_not (lt_s a b)
opposite_is Ltu a b = refl
opposite_is Geu a b = not_not (lt_u a b)
