-- What is read after a write: of a register, of a byte, of a word of memory.
use Prim.Native.Nat.{ℕ, zero, suc, ◌+◌, ◌^◌, ◌<◌, ◌≤◌}
use mathlib.Core.Path.{◌≡◌, refl, ◌∙◌, ap}
use mathlib.Core.List.{List}
use native.Mathlib.Omega.{arith}
use native.Mathlib.Nat.{add-zero}
use lib.ListN.{length, get_or, set, length-set}
use lib.Seq.{get_or-set_other, get_or-set_same}
use borrow.Author.Tests.{ne_eqb}
use Rattle.word.specs.Bytes.{byte₀, byte₁, byte₂, byte₃}
use Rattle.word.proofs.WordBytes.{word_of_bytes}
use Rattle.processor.specs.declared.Width.{Width}
use Rattle.processor.specs.declared.Width.TheVariants.{Byte, Half, Word, ByteU, HalfU}
use Rattle.processor.specs.Machine.{register, set_register, byte_at, word_at}
use Rattle.processor.specs.Execute.{size_of, write_at}

-- Registers.

pub register_zero : (l : List ℕ) → register l 0 ≡ 0
unfolding register
register_zero l = refl

pub set_register_zero : (l : List ℕ) (v : ℕ) → set_register l 0 v ≡ l
unfolding set_register
set_register_zero l v = refl

set_register_some : (l : List ℕ) (r v : ℕ) → 0 < r → set_register l r v ≡ set l r v
unfolding set_register
set_register_some l r v h = rw (ne_eqb r 0 (λ e. omega arith))

-- by whether it is x0
by_zero : (P : ℕ → Type 0) → P 0 → ((r : ℕ) → 0 < r → P r) → (r : ℕ) → P r
by_zero P z s zero = z
by_zero P z s (suc r) = s (suc r) (omega arith)

pub set_register_length : (l : List ℕ) (r v : ℕ) → length (set_register l r v) ≡ length l
set_register_length l r v =
    by_zero (λ (r : ℕ). length (set_register l r v) ≡ length l) (ap length (set_register_zero l v))
    (λ r h. ap length (set_register_some l r v h) ∙ length-set l r v) r

pub register_same : (l : List ℕ) (r v : ℕ) → 0 < r → r < length l → register (set_register l r v) r ≡ v
unfolding register
register_same l r v some h = rw (set_register_some l r v some, ne_eqb r 0 (λ e. omega arith)) (get_or-set_same l r v 0 h)

get_other : (l : List ℕ) (r j v : ℕ) → (j ≡ r → ⊥) → get_or (set_register l r v) j 0 ≡ get_or l j 0
get_other l r j v =
    by_zero (λ (r : ℕ). (j ≡ r → ⊥) → get_or (set_register l r v) j 0 ≡ get_or l j 0) (λ ne. ap (λ (x : List ℕ). get_or x j 0) (set_register_zero l v))
    (λ r h ne. ap (λ (x : List ℕ). get_or x j 0) (set_register_some l r v h) ∙ get_or-set_other l r j v 0 ne) r

pub register_other : (l : List ℕ) (r j v : ℕ) → (j ≡ r → ⊥) → register (set_register l r v) j ≡ register l j
unfolding register
register_other l r j v ne = rw (get_other l r j v ne)

-- Memory.

pub write_length : (s : Width) (m : List ℕ) (i v : ℕ) → length (write_at s m i v) ≡ length m
unfolding write_at
write_length Byte m i v = simp length-set
write_length ByteU m i v = simp length-set
write_length Half m i v = simp length-set
write_length HalfU m i v = simp length-set
write_length Word m i v = simp length-set

module _ (m : List ℕ) (i v : ℕ) where
  -- memory with one, two, three bytes of v written
  abbrev m₁ : List ℕ
  m₁ = set m i (byte₀ v)

  abbrev m₂ : List ℕ
  m₂ = set m₁ (i + 1) (byte₁ v)

  abbrev m₃ : List ℕ
  m₃ = set m₂ (i + 2) (byte₂ v)

  one : (j : ℕ) → (j ≡ i → ⊥) → byte_at m₁ j ≡ byte_at m j
  one j h = get_or-set_other m i j (byte₀ v) 0 h

  two : (j : ℕ) → (j ≡ i → ⊥) → (j ≡ i + 1 → ⊥) → byte_at m₂ j ≡ byte_at m j
  two j h k = get_or-set_other m₁ (i + 1) j (byte₁ v) 0 k ∙ one j h

  -- a byte that a write does not reach
  pub byte_other : (s : Width) (j : ℕ) → ((k : ℕ) → k < size_of s → j ≡ i + k → ⊥) → byte_at (write_at s m i v) j ≡ byte_at m j
  unfolding write_at
  byte_other Byte j h = one j (λ e. h 0 (omega arith) (omega arith))
  byte_other ByteU j h = one j (λ e. h 0 (omega arith) (omega arith))
  byte_other Half j h = two j (λ e. h 0 (omega arith) (omega arith)) (h 1 (omega arith))
  byte_other HalfU j h = two j (λ e. h 0 (omega arith) (omega arith)) (h 1 (omega arith))
  byte_other Word j h =
      get_or-set_other m₃ (i + 3) j (byte₃ v) 0 (h 3 (omega arith)) ∙ get_or-set_other m₂ (i + 2) j (byte₂ v) 0 (h 2 (omega arith))
      ∙ two j (λ e. h 0 (omega arith) (omega arith)) (h 1 (omega arith))

  -- the word that was written
  pub word_same : i + 4 ≤ length m → v < 2 ^ 32 → word_at (write_at Word m i v) i ≡ v
  unfolding word_at write_at
  word_same h hv = rw (b₀, b₁, b₂, b₃) (word_of_bytes v hv)
    where
      apart : (l : List ℕ) (j k x : ℕ) → (j ≡ k → ⊥) → byte_at (set l k x) j ≡ byte_at l j
      apart l j k x ne = get_or-set_other l k j x 0 ne

      b₀ : byte_at (set m₃ (i + 3) (byte₃ v)) i ≡ byte₀ v
      b₀ =
          apart m₃ i (i + 3) (byte₃ v) (λ e. omega arith) ∙ apart m₂ i (i + 2) (byte₂ v) (λ e. omega arith) ∙ apart m₁ i (i + 1) (byte₁ v) (λ e. omega arith)
          ∙ get_or-set_same m i (byte₀ v) 0 (omega arith)

      b₁ : byte_at (set m₃ (i + 3) (byte₃ v)) (i + 1) ≡ byte₁ v
      b₁ =
          apart m₃ (i + 1) (i + 3) (byte₃ v) (λ e. omega arith) ∙ apart m₂ (i + 1) (i + 2) (byte₂ v) (λ e. omega arith)
          ∙ get_or-set_same m₁ (i + 1) (byte₁ v) 0 (simp length-set (omega arith))

      b₂ : byte_at (set m₃ (i + 3) (byte₃ v)) (i + 2) ≡ byte₂ v
      b₂ = apart m₃ (i + 2) (i + 3) (byte₃ v) (λ e. omega arith) ∙ get_or-set_same m₂ (i + 2) (byte₂ v) 0 (simp length-set (omega arith))

      b₃ : byte_at (set m₃ (i + 3) (byte₃ v)) (i + 3) ≡ byte₃ v
      b₃ = get_or-set_same m₃ (i + 3) (byte₃ v) 0 (simp length-set (omega arith))

-- a word whose four bytes are those of another memory
pub word_by : (m n : List ℕ) (p : ℕ) → ((k : ℕ) → k < 4 → byte_at m (p + k) ≡ byte_at n (p + k)) → word_at m p ≡ word_at n p
unfolding word_at
word_by m n p h =
    let h₀ : byte_at m p ≡ byte_at n p = rw add-zero at (h 0 (omega arith)) in
    rw (h₀, h 1 (omega arith), h 2 (omega arith), h 3 (omega arith))

-- a word that a write lies apart from
pub word_other : (s : Width) (m : List ℕ) (i v p : ℕ) → ((j k : ℕ) → j < 4 → k < size_of s → p + j ≡ i + k → ⊥) → word_at (write_at s m i v) p ≡ word_at m p
word_other s m i v p apart = word_by (write_at s m i v) m p (λ j h. byte_other m i v s (p + j) (λ k l. apart j k h l))
