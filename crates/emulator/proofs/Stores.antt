-- Bytes put into memory, and the stores of document 03 §3, byte by byte.
use Prim.Native.Nat.{ℕ, suc, ◌+◌, ◌<◌, ◌≤◌}
use mathlib.Core.Path.{◌≡◌, refl, ◌∙◌, ap}
use mathlib.Core.Logic.{◌⊎◌, inl, inr}
use mathlib.Core.List.{List, [], ◌∷◌, ◌++◌, append_assoc, append-nil}
use native.Mathlib.Omega.{arith}
use native.Mathlib.Numerals.{add-one}
use native.Mathlib.Nat.{add-zero}
use lib.ListN.{length, take, drop, set, length-set, take-append-drop}
use lib.Seq.{take-suc-set, drop-set-lt}
use Rattle.word.specs.Bytes.{bytes_of, byte₀, byte₁, byte₂, byte₃}
use Rattle.processor.specs.declared.Width.{Width}
use Rattle.processor.specs.declared.Width.TheVariants.{Byte, Half, Word, ByteU, HalfU}
use Rattle.processor.specs.Machine.{placed}
use Rattle.processor.specs.Execute.{size_of, write_at}

placed_none : (m : List ℕ) (i : ℕ) → placed m i [] ≡ m
unfolding placed
placed_none m i = rw (add-zero, append-nil) (take-append-drop i m)

placed_one : (m : List ℕ) (i j x : ℕ) (xs : List ℕ) → i < length m → j ≡ i + 1 → placed m i (x ∷ xs) ≡ placed (set m i x) j xs
unfolding placed
placed_one m i j x xs h e =
    rw (e, add-one i, take-suc-set m i x h, drop-set-lt (suc i + length xs) m i x (omega arith))
    (simp append_assoc (ap (λ (n : ℕ). take i m ++ (x ∷ (xs ++ drop n m))) (omega arith)))

one : (m : List ℕ) (i v : ℕ) → i + 1 ≤ length m → placed m i (take 1 (bytes_of v)) ≡ set m i (byte₀ v)
unfolding bytes_of
one m i v h = placed_one m i (i + 1) (byte₀ v) [] (omega arith) refl ∙ placed_none _ (i + 1)

pub byte : (s : Width) → (s ≡ Byte) ⊎ (s ≡ ByteU) → (m : List ℕ) (i v : ℕ) → i + size_of s ≤ length m → placed m i (take 1 (bytes_of v)) ≡ write_at s m i v
unfolding write_at
byte s (inl e) m i v h = rw e (one m i v (rw e at h))
byte s (inr e) m i v h = rw e (one m i v (rw e at h))

two : (m : List ℕ) (i v : ℕ) → i + 2 ≤ length m → placed m i (take 2 (bytes_of v)) ≡ set (set m i (byte₀ v)) (i + 1) (byte₁ v)
unfolding bytes_of
two m i v h =
    placed_one m i (i + 1) (byte₀ v) (byte₁ v ∷ []) (omega arith) refl
    ∙ placed_one (set m i (byte₀ v)) (i + 1) (i + 2) (byte₁ v) [] (simp length-set (omega arith)) (omega arith)
    ∙ placed_none _ (i + 2)

pub half : (s : Width) → (s ≡ Half) ⊎ (s ≡ HalfU) → (m : List ℕ) (i v : ℕ) → i + size_of s ≤ length m → placed m i (take 2 (bytes_of v)) ≡ write_at s m i v
unfolding write_at
half s (inl e) m i v h = rw e (two m i v (rw e at h))
half s (inr e) m i v h = rw e (two m i v (rw e at h))

pub word : (m : List ℕ) (i v : ℕ) → i + 4 ≤ length m → placed m i (take 4 (bytes_of v)) ≡ write_at Word m i v
unfolding write_at bytes_of
word m i v h =
    placed_one m i (i + 1) (byte₀ v) (byte₁ v ∷ byte₂ v ∷ byte₃ v ∷ []) (omega arith) refl
    ∙ placed_one (set m i (byte₀ v)) (i + 1) (i + 2) (byte₁ v) (byte₂ v ∷ byte₃ v ∷ []) (simp length-set (omega arith)) (omega arith)
    ∙ placed_one (set (set m i (byte₀ v)) (i + 1) (byte₁ v)) (i + 2) (i + 3) (byte₂ v) (byte₃ v ∷ []) (simp length-set (omega arith)) (omega arith)
    ∙ placed_one (set (set (set m i (byte₀ v)) (i + 1) (byte₁ v)) (i + 2) (byte₂ v)) (i + 3) (i + 4) (byte₃ v) [] (simp length-set (omega arith)) (omega arith)
    ∙ placed_none _ (i + 4)
