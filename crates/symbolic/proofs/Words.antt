-- Memory of bytes, seen as words: what a store leaves, and what it doesn't touch.
use Prim.Native.Nat.{ℕ, ◌+◌, ◌%◌, ◌^◌, ◌≤◌, ◌<◌}
use mathlib.Core.Path.{◌≡◌, ◌∙◌}
use mathlib.Core.List.{List}
use native.Mathlib.Omega.{arith}
use lib.ListN.{length, get_or, set, length-set}
use lib.Seq.{get_or-set_other, get_or-set_same}
use Rattle.word.specs.Bytes.{word_of, byte₀, byte₁, byte₂, byte₃}
use Rattle.word.proofs.WordBytes.{word_of_bytes}
use Rattle.processor.specs.declared.Width.TheVariants.{Word}
use Rattle.processor.specs.Machine.{word_at}
use Rattle.processor.specs.Execute.{write_at}

-- the word of four bytes that are these
pub four : {a b c d a' b' c' d' : ℕ} → a ≡ a' → b ≡ b' → c ≡ c' → d ≡ d' → word_of a b c d ≡ word_of a' b' c' d'
four e f g h = rw (e, f, g, h)

-- four bytes stored from a on
module _ (m : List ℕ) (a w x y z : ℕ) where
  abbrev m1 : List ℕ
  m1 = set m a w

  abbrev m2 : List ℕ
  m2 = set m1 (a + 1) x

  abbrev m3 : List ℕ
  m3 = set m2 (a + 2) y

  abbrev m4 : List ℕ
  m4 = set m3 (a + 3) z

  others : (j : ℕ) → (j ≡ a → ⊥) → (j ≡ a + 1 → ⊥) → (j ≡ a + 2 → ⊥) → (j ≡ a + 3 → ⊥) → get_or m4 j 0 ≡ get_or m j 0
  others j h0 h1 h2 h3 =
      get_or-set_other m3 (a + 3) j z 0 h3 ∙ get_or-set_other m2 (a + 2) j y 0 h2 ∙ get_or-set_other m1 (a + 1) j x 0 h1 ∙ get_or-set_other m a j w 0 h0

  these : a + 4 ≤ length m → word_at m4 a ≡ word_of w x y z
  unfolding word_at
  these h =
      four
      (get_or-set_other m3 (a + 3) a z 0 (λ e. omega arith) ∙ get_or-set_other m2 (a + 2) a y 0 (λ e. omega arith) ∙ get_or-set_other m1 (a + 1) a x 0 (λ e. omega arith) ∙ get_or-set_same m a w 0 (omega arith))
      (get_or-set_other m3 (a + 3) (a + 1) z 0 (λ e. omega arith) ∙ get_or-set_other m2 (a + 2) (a + 1) y 0 (λ e. omega arith) ∙ get_or-set_same m1 (a + 1) x 0 (rw length-set (omega arith)))
      (get_or-set_other m3 (a + 3) (a + 2) z 0 (λ e. omega arith) ∙ get_or-set_same m2 (a + 2) y 0 (simp length-set (omega arith)))
      (get_or-set_same m3 (a + 3) z 0 (simp length-set (omega arith)))

-- a byte that a store doesn't reach
byte_other : (m : List ℕ) (a v j : ℕ) → (j ≡ a → ⊥) → (j ≡ a + 1 → ⊥) → (j ≡ a + 2 → ⊥) → (j ≡ a + 3 → ⊥) → get_or (write_at Word m a v) j 0 ≡ get_or m j 0
unfolding write_at
byte_other m a v j = others m a (byte₀ v) (byte₁ v) (byte₂ v) (byte₃ v) j

-- a word apart from the one that is stored
pub word_other : (m : List ℕ) (a v b : ℕ) → a % 4 ≡ 0 → b % 4 ≡ 0 → (b ≡ a → ⊥) → word_at (write_at Word m a v) b ≡ word_at m b
unfolding word_at
word_other m a v b ha hb ne = four (off 0 b (omega arith) (omega arith)) (off 1 (b + 1) (omega arith) (omega arith)) (off 2 (b + 2) (omega arith) (omega arith)) (off 3 (b + 3) (omega arith) (omega arith))
  where
    off : (k j : ℕ) → j ≡ b + k → k < 4 → get_or (write_at Word m a v) j 0 ≡ get_or m j 0
    off k j e h = byte_other m a v j (λ q. ne (omega arith)) (λ q. ne (omega arith)) (λ q. ne (omega arith)) (λ q. ne (omega arith))

-- the word that is stored
pub word_same : (m : List ℕ) (a v : ℕ) → a + 4 ≤ length m → v < 2 ^ 32 → word_at (write_at Word m a v) a ≡ v
unfolding write_at
word_same m a v h hv = these m a (byte₀ v) (byte₁ v) (byte₂ v) (byte₃ v) h ∙ word_of_bytes v hv
