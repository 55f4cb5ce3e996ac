-- The signed order of words is a strict total order, as the unsigned order of the words with their top bits flipped is.
use Prim.Native.Nat.{ℕ, ◌+◌, ◌%◌, ◌^◌, ◌<◌, ◌≤◌}
use mathlib.Core.Path.{◌≡◌, sym, ◌∙◌}
use mathlib.Core.Bool.{true, false}
use native.Mathlib.Omega.{arith}
use borrow.Author.Tests.{lt-ltb, le-ltb, ltb-true, ltb-false}
use Rattle.word.specs.Word.{lt_s}
use Rattle.word.proofs.Sign.{flipped}

-- the top bit flipped
abbrev flip : ℕ → ℕ
flip a = (a + 2147483648) % 4294967296

pub lt_s_irrefl : (a : ℕ) → a < 2 ^ 32 → lt_s a a ≡ false
lt_s_irrefl a h = sym (flipped a a h h) ∙ le-ltb (flip a) (flip a) (omega arith)

pub lt_s_trans : (a b c : ℕ) → a < 2 ^ 32 → b < 2 ^ 32 → c < 2 ^ 32 → lt_s a b ≡ true → lt_s b c ≡ true → lt_s a c ≡ true
lt_s_trans a b c ha hb hc p q =
    let p' : flip a < flip b = ltb-true _ _ (flipped a b ha hb ∙ p) in
    let q' : flip b < flip c = ltb-true _ _ (flipped b c hb hc ∙ q) in
    sym (flipped a c ha hc) ∙ lt-ltb (flip a) (flip c) (omega arith)

-- words of which neither is less are one word
pub lt_s_total : (a b : ℕ) → a < 2 ^ 32 → b < 2 ^ 32 → lt_s a b ≡ false → lt_s b a ≡ false → a ≡ b
lt_s_total a b ha hb p q =
    let p' : flip b ≤ flip a = ltb-false _ _ (flipped a b ha hb ∙ p) in
    let q' : flip a ≤ flip b = ltb-false _ _ (flipped b a hb ha ∙ q) in
    omega arith
