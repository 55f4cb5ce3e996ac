-- The arrays as document 03 reads them after a run are the words of symbolic memory from 0x100000 on.
use Prim.Native.Nat.{ℕ, ◌+◌, ◌-◌, ◌*◌, ◌/◌, ◌≤◌, ◌<◌}
use mathlib.Core.Path.{◌≡◌, refl, sym, ap, ◌∙◌}
use mathlib.Core.List.{List}
use native.Mathlib.Omega.{arith}
use lib.ListN.{length, get_or, take, drop, length-drop}
use lib.Seq.{length-take-le, get_or-take, get_or-drop, ext_get_or}
use Rattle.word.specs.Bytes.{words_of_bytes}
use Rattle.word.proofs.WordBytes.{words_of_bytes_length, words_of_bytes_at}
use Rattle.processor.specs.Machine.{Machine, memory_bytes, data_start, word_at}
use Rattle.processor.specs.Image.{arrays_of}
use Rattle.symbolic.specs.Symbolic.{Instruction, State, initial}
use Rattle.symbolic.proofs.Words.{four}
use Rattle.symbolic.proofs.Memory.{in_reach}
use Rattle.symbolic.proofs.Match.{Match}

-- memory that holds these words from 0x100000 on
pub record Holds (memory : ℕ → ℕ) (words : List ℕ) : Type 0 where
  pub cell : (i : ℕ) → i < length words → memory (data_start + 4 * i) ≡ get_or words i 0

pub initial_holds : (arrays : List ℕ) → Holds (initial arrays).memory arrays
initial_holds arrays = record { cell = λ i lt. ap (λ (k : ℕ). get_or arrays k 0) (index i) }
  where
    index : (i : ℕ) → (data_start + 4 * i - data_start) / 4 ≡ i
    index i = omega arith

module _ {code : List Instruction} {σ : State} {m : Machine} (c : Match code σ m) (words : List ℕ) (few : 4 * length words ≤ memory_bytes - data_start) (h : Holds σ.memory words) where
  abbrev block : List ℕ
  block = take (4 * length words) (drop data_start m.memory)

  block_length_lem : length block ≡ 4 * length words
  block_length_lem = length-take-le (4 * length words) (drop data_start m.memory) (rw (length-drop data_start m.memory, c.memory.size) few)

  byte : (j : ℕ) → j < 4 * length words → get_or block j 0 ≡ get_or m.memory (data_start + j) 0
  byte j lt = get_or-take (4 * length words) (drop data_start m.memory) j 0 lt ∙ get_or-drop data_start m.memory j 0

  word : (i : ℕ) → i < length words → get_or (words_of_bytes block) i 0 ≡ get_or words i 0
  unfolding word_at
  word i lt =
      words_of_bytes_at block i (rw block_length_lem (omega arith))
      ∙ four (at 0 (4 * i) _ (omega arith) (omega arith) (omega arith)) (at 1 _ _ refl (omega arith) (omega arith)) (at 2 _ _ refl (omega arith) (omega arith)) (at 3 _ _ refl (omega arith) (omega arith))
      ∙ c.memory.reads (data_start + 4 * i) (in_reach (data_start + 4 * i) (omega arith) (omega arith) (omega arith)) ∙ h.cell i lt
    where
      at : (k j a : ℕ) → j ≡ 4 * i + k → a ≡ data_start + 4 * i + k → k < 4 → get_or block j 0 ≡ get_or m.memory a 0
      at k j a e f lt4 =
          let p : data_start + j ≡ a = omega arith in
          byte j (omega arith) ∙ ap (λ (x : ℕ). get_or m.memory x 0) p

  pub arrays_are : arrays_of (4 * length words) m ≡ words
  unfolding arrays_of
  arrays_are = ext_get_or 0 (words_of_bytes block) words size (λ i lt. word i (rw (sym size) lt))
    where
      size : length (words_of_bytes block) ≡ length words
      size = words_of_bytes_length block ∙ ap (λ (n : ℕ). n / 4) block_length_lem ∙ quarter (length words)
        where
          quarter : (n : ℕ) → 4 * n / 4 ≡ n
          quarter n = omega arith
