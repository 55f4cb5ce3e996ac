-- Words and their bytes: each is got back from the other, one at a time and in lists.
use Prim.Native.Nat.{ℕ, zero, suc, ◌+◌, ◌*◌, ◌/◌, ◌%◌, ◌^◌, ◌<◌}
use mathlib.Core.Path.{◌≡◌, refl, sym, ◌∙◌, ap, subst}
use mathlib.Core.List.{List, [], ◌∷◌, ◌++◌, append_assoc}
use native.Mathlib.Omega.{arith}
use lib.ListN.{length, get_or, get_or-append}
use lib.Seq.{get_or-append-add}
use Rattle.word.specs.Bytes.{word_of, byte₀, byte₁, byte₂, byte₃, bytes_of, bytes_of_words, words_of_bytes}

-- one word

pub word_of_lt : (b₀ b₁ b₂ b₃ : ℕ) → b₀ < 256 → b₁ < 256 → b₂ < 256 → b₃ < 256 → word_of b₀ b₁ b₂ b₃ < 2 ^ 32
unfolding word_of
word_of_lt b₀ b₁ b₂ b₃ h₀ h₁ h₂ h₃ = omega arith

pub word_of_bytes : (w : ℕ) → w < 2 ^ 32 → word_of (byte₀ w) (byte₁ w) (byte₂ w) (byte₃ w) ≡ w
unfolding word_of
word_of_bytes w h = omega arith

module _ (b₀ b₁ b₂ b₃ : ℕ) (h₀ : b₀ < 256) (h₁ : b₁ < 256) (h₂ : b₂ < 256) (h₃ : b₃ < 256) where
  pub byte₀_word_of : byte₀ (word_of b₀ b₁ b₂ b₃) ≡ b₀
  unfolding word_of
  byte₀_word_of = omega arith

  pub byte₁_word_of : byte₁ (word_of b₀ b₁ b₂ b₃) ≡ b₁
  unfolding word_of
  byte₁_word_of = omega arith

  pub byte₂_word_of : byte₂ (word_of b₀ b₁ b₂ b₃) ≡ b₂
  unfolding word_of
  byte₂_word_of = omega arith

  pub byte₃_word_of : byte₃ (word_of b₀ b₁ b₂ b₃) ≡ b₃
  unfolding word_of
  byte₃_word_of = omega arith

  pub bytes_of_word_of : bytes_of (word_of b₀ b₁ b₂ b₃) ≡ b₀ ∷ b₁ ∷ b₂ ∷ b₃ ∷ []
  unfolding bytes_of
  bytes_of_word_of = rw (byte₀_word_of, byte₁_word_of, byte₂_word_of, byte₃_word_of)

-- lists of them; a list of words has every element below 2 ^ 32, a list of bytes every one below 256

pub bytes_of_words_length : (ws : List ℕ) → length (bytes_of_words ws) ≡ 4 * length ws
unfolding bytes_of_words bytes_of
bytes_of_words_length [] = refl
bytes_of_words_length (w ∷ ws) = omega (arith, bytes_of_words_length ws)

pub bytes_of_words_append : (vs ws : List ℕ) → bytes_of_words (vs ++ ws) ≡ bytes_of_words vs ++ bytes_of_words ws
unfolding bytes_of_words
bytes_of_words_append [] ws = refl
bytes_of_words_append (v ∷ vs) ws = ap (λ (l : List ℕ). bytes_of v ++ l) (bytes_of_words_append vs ws) ∙ sym (append_assoc (bytes_of v) (bytes_of_words vs) (bytes_of_words ws))

pub words_bytes_words : (ws : List ℕ) → ((i : ℕ) → get_or ws i 0 < 2 ^ 32) → words_of_bytes (bytes_of_words ws) ≡ ws
unfolding bytes_of_words bytes_of words_of_bytes
words_bytes_words [] h = refl
words_bytes_words (w ∷ ws) h = rw (word_of_bytes w (h 0), words_bytes_words ws (λ i. h (suc i)))

pub bytes_words_bytes : (bs : List ℕ) → length bs % 4 ≡ 0 → ((i : ℕ) → get_or bs i 0 < 256) → bytes_of_words (words_of_bytes bs) ≡ bs
unfolding bytes_of_words words_of_bytes
bytes_words_bytes [] e h = refl
bytes_words_bytes (b₀ ∷ []) e h = absurd (omega arith)
bytes_words_bytes (b₀ ∷ b₁ ∷ []) e h = absurd (omega arith)
bytes_words_bytes (b₀ ∷ b₁ ∷ b₂ ∷ []) e h = absurd (omega arith)
bytes_words_bytes (b₀ ∷ b₁ ∷ b₂ ∷ b₃ ∷ bs) e h = rw (bytes_of_word_of b₀ b₁ b₂ b₃ (h 0) (h 1) (h 2) (h 3), bytes_words_bytes bs (omega arith) (λ i. h (suc (suc (suc (suc i))))))

-- the bytes of no word are zeros
bytes_of_zero : (k : ℕ) → get_or (bytes_of 0) k 0 ≡ 0
unfolding bytes_of
bytes_of_zero zero = refl
bytes_of_zero (suc zero) = refl
bytes_of_zero (suc (suc zero)) = refl
bytes_of_zero (suc (suc (suc zero))) = refl
bytes_of_zero (suc (suc (suc (suc k)))) = refl

bytes_of_length : (w : ℕ) → length (bytes_of w) ≡ 4
unfolding bytes_of
bytes_of_length w = refl

-- byte 4 * i + k is byte k of word i
pub bytes_of_words_at : (ws : List ℕ) (i k : ℕ) → k < 4 → get_or (bytes_of_words ws) (4 * i + k) 0 ≡ get_or (bytes_of (get_or ws i 0)) k 0
unfolding bytes_of_words
bytes_of_words_at [] i k h = sym (bytes_of_zero k)
bytes_of_words_at (w ∷ ws) zero k h = ap (λ (n : ℕ). get_or (bytes_of w ++ bytes_of_words ws) n 0) e ∙ get_or-append (bytes_of w) (bytes_of_words ws) 0 k (rw (bytes_of_length w) h)
  where
    e : 4 * 0 + k ≡ k
    e = omega arith
bytes_of_words_at (w ∷ ws) (suc i) k h = ap (λ (n : ℕ). get_or (bytes_of w ++ bytes_of_words ws) n 0) e ∙ get_or-append-add (bytes_of w) (bytes_of_words ws) (4 * i + k) 0 ∙ bytes_of_words_at ws i k h
  where
    e : 4 * suc i + k ≡ length (bytes_of w) + (4 * i + k)
    e = rw (bytes_of_length w) (omega arith)

pub bytes_of_lt : (w k : ℕ) → get_or (bytes_of w) k 0 < 256
unfolding bytes_of
bytes_of_lt w zero = omega arith
bytes_of_lt w (suc zero) = omega arith
bytes_of_lt w (suc (suc zero)) = omega arith
bytes_of_lt w (suc (suc (suc zero))) = omega arith
bytes_of_lt w (suc (suc (suc (suc k)))) = omega arith

pub bytes_of_words_lt : (ws : List ℕ) (i : ℕ) → get_or (bytes_of_words ws) i 0 < 256
bytes_of_words_lt ws i = subst (λ (n : ℕ). get_or (bytes_of_words ws) n 0 < 256) e (subst (λ (b : ℕ). b < 256) (sym (bytes_of_words_at ws (i / 4) (i % 4) (omega arith))) (bytes_of_lt (get_or ws (i / 4) 0) (i % 4)))
  where
    e : 4 * (i / 4) + i % 4 ≡ i
    e = omega arith

pub words_of_bytes_length : (bs : List ℕ) → length (words_of_bytes bs) ≡ length bs / 4
unfolding words_of_bytes
words_of_bytes_length [] = refl
words_of_bytes_length (b₀ ∷ []) = refl
words_of_bytes_length (b₀ ∷ b₁ ∷ []) = refl
words_of_bytes_length (b₀ ∷ b₁ ∷ b₂ ∷ []) = refl
words_of_bytes_length (b₀ ∷ b₁ ∷ b₂ ∷ b₃ ∷ bs) = omega (arith, words_of_bytes_length bs)

-- word i is that of the four bytes from 4 * i on
pub words_of_bytes_at : (bs : List ℕ) (i : ℕ) → 4 * i + 3 < length bs → get_or (words_of_bytes bs) i 0 ≡ word_of (get_or bs (4 * i) 0) (get_or bs (4 * i + 1) 0) (get_or bs (4 * i + 2) 0) (get_or bs (4 * i + 3) 0)
unfolding words_of_bytes
words_of_bytes_at [] i h = absurd (omega arith)
words_of_bytes_at (b₀ ∷ []) i h = absurd (omega arith)
words_of_bytes_at (b₀ ∷ b₁ ∷ []) i h = absurd (omega arith)
words_of_bytes_at (b₀ ∷ b₁ ∷ b₂ ∷ []) i h = absurd (omega arith)
words_of_bytes_at (b₀ ∷ b₁ ∷ b₂ ∷ b₃ ∷ bs) zero h = refl
words_of_bytes_at (b₀ ∷ b₁ ∷ b₂ ∷ b₃ ∷ bs) (suc i) h =
    words_of_bytes_at bs i (omega arith)
    ∙ sym (ap₄ (past (4 * suc i) (4 * i) (omega arith)) (past (4 * suc i + 1) (4 * i + 1) (omega arith)) (past (4 * suc i + 2) (4 * i + 2) (omega arith)) (past (4 * suc i + 3) (4 * i + 3) (omega arith)))
  where
    past : (n m : ℕ) → n ≡ suc (suc (suc (suc m))) → get_or (b₀ ∷ b₁ ∷ b₂ ∷ b₃ ∷ bs) n 0 ≡ get_or bs m 0
    past n m e = ap (λ (j : ℕ). get_or (b₀ ∷ b₁ ∷ b₂ ∷ b₃ ∷ bs) j 0) e

    ap₄ : {x₀ x₁ x₂ x₃ y₀ y₁ y₂ y₃ : ℕ} → x₀ ≡ y₀ → x₁ ≡ y₁ → x₂ ≡ y₂ → x₃ ≡ y₃ → word_of x₀ x₁ x₂ x₃ ≡ word_of y₀ y₁ y₂ y₃
    ap₄ e₀ e₁ e₂ e₃ = cc
