-- Memory with bytes put in it: those bytes there, and what it was elsewhere.
use Prim.Native.Nat.{ℕ, zero, suc, ◌+◌, ◌-◌, ◌≤◌, ◌<◌}
use mathlib.Core.Path.{◌≡◌, refl, sym, ap, ◌∙◌}
use mathlib.Core.List.{List, ◌++◌, append_assoc}
use native.Mathlib.Omega.{arith}
use native.Mathlib.Decide.{dec_lt}
use lib.ListN.{length, get_or, take, drop, replicate, length-append, length-drop, length-replicate, get_or-append, get_or-eq_default}
use lib.Seq.{length-take-le, get_or-take, get_or-drop, get_or-append-add}
use Rattle.processor.specs.Machine.{zeros, placed}

pub zeros_length : (n : ℕ) → length (zeros n) ≡ n
unfolding zeros
zeros_length n = length-replicate n 0

pub zeros_at : (n i : ℕ) → get_or (zeros n) i 0 ≡ 0
unfolding zeros
zeros_at n i = go n i
  where
    go : (n i : ℕ) → get_or {A = ℕ} (replicate n 0) i 0 ≡ 0
    go zero i = refl
    go (suc n) zero = refl
    go (suc n) (suc i) = go n i

module _ (m : List ℕ) (at : ℕ) (bytes : List ℕ) where
  parts : placed m at bytes ≡ take at m ++ (bytes ++ drop (at + length bytes) m)
  unfolding placed
  parts = append_assoc (take at m) bytes (drop (at + length bytes) m)

  pub placed_length : at + length bytes ≤ length m → length (placed m at bytes) ≡ length m
  placed_length h =
      ap length parts
      ∙ length-append (take at m) (bytes ++ drop (at + length bytes) m)
      ∙ ap (λ (n : ℕ). n + length (bytes ++ drop (at + length bytes) m)) (length-take-le at m (omega arith))
      ∙ ap (λ (n : ℕ). at + n) (length-append bytes (drop (at + length bytes) m) ∙ ap (λ (n : ℕ). length bytes + n) (length-drop (at + length bytes) m))
      ∙ sum (length bytes) (length m) h
    where
      sum : (l n : ℕ) → at + l ≤ n → at + (l + (n - (at + l))) ≡ n
      sum l n h = omega arith

  module _ (inside : at ≤ length m) where
    front : length (take at m) ≡ at
    front = length-take-le at m inside

    pub placed_before : (j : ℕ) → j < at → get_or (placed m at bytes) j 0 ≡ get_or m j 0
    placed_before j h = ap (λ (l : List ℕ). get_or l j 0) parts ∙ get_or-append (take at m) (bytes ++ drop (at + length bytes) m) 0 j (rw front h) ∙ get_or-take at m j 0 h

    -- from `at` on: the bytes, and then the rest
    from : (i : ℕ) → get_or (placed m at bytes) (at + i) 0 ≡ get_or (bytes ++ drop (at + length bytes) m) i 0
    from i =
        ap (λ (l : List ℕ). get_or l (at + i) 0) parts
        ∙ ap (λ (n : ℕ). get_or (take at m ++ (bytes ++ drop (at + length bytes) m)) (n + i) 0) (sym front)
        ∙ get_or-append-add (take at m) (bytes ++ drop (at + length bytes) m) i 0

    pub placed_in : (i : ℕ) → i < length bytes → get_or (placed m at bytes) (at + i) 0 ≡ get_or bytes i 0
    placed_in i h = from i ∙ get_or-append bytes (drop (at + length bytes) m) 0 i h

    pub placed_after : (i : ℕ) → get_or (placed m at bytes) (at + (length bytes + i)) 0 ≡ get_or m (at + length bytes + i) 0
    placed_after i = from (length bytes + i) ∙ get_or-append-add bytes (drop (at + length bytes) m) i 0 ∙ get_or-drop (at + length bytes) m i 0

    -- where memory was 0 from `at` on: the bytes, and past them 0
    pub placed_clear : ((j : ℕ) → at ≤ j → get_or m j 0 ≡ 0) → (i : ℕ) → get_or (placed m at bytes) (at + i) 0 ≡ get_or bytes i 0
    placed_clear clear i = go (dec_lt i (length bytes))
      where
        go : Dec (i < length bytes) → get_or (placed m at bytes) (at + i) 0 ≡ get_or bytes i 0
        go (yes h) = placed_in i h
        go (no h) =
            let e : at + i ≡ at + (length bytes + (i - length bytes)) = omega arith in
            ap (λ (j : ℕ). get_or (placed m at bytes) j 0) e ∙ placed_after (i - length bytes) ∙ clear (at + length bytes + (i - length bytes)) (omega arith)
            ∙ sym (get_or-eq_default bytes 0 (omega arith))
