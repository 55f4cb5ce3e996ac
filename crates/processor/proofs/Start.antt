-- The machine at the start: how long its memory is, and what lies there; and so what every machine that it becomes has as code.
use Prim.Native.Nat.{ℕ, zero, suc, ◌+◌, ◌-◌, ◌*◌, ◌<◌, ◌≤◌}
use mathlib.Core.Path.{◌≡◌, refl, sym, ◌∙◌, ap, subst}
use mathlib.Core.List.{List, ◌++◌}
use native.Mathlib.Omega.{arith}
use lib.ListN.{length, get_or, take, drop, length-append, length-drop, length-replicate, get_or-append}
use lib.Seq.{length-take-le, get_or-take, get_or-drop, get_or-append-add}
use Rattle.word.specs.Bytes.{word_of, words_of_bytes}
use Rattle.word.proofs.Cases.{by_order}
use Rattle.word.proofs.WordBytes.{words_of_bytes_at}
use Rattle.processor.specs.Machine.{Machine, byte_at, word_at, memory_bytes, code_start, data_start, register_count, zeros, placed, start_memory, start_of}
use Rattle.processor.specs.Image.{longest_code, longest_input}
use Rattle.processor.proofs.Kept.{After, word_kept}
use Rattle.processor.proofs.Sized.{Bytes, Sized}

zeros_length : (n : ℕ) → length (zeros n) ≡ n
unfolding zeros
zeros_length n = length-replicate n 0

pub zeros_at : (n i : ℕ) → byte_at (zeros n) i ≡ 0
unfolding zeros
zeros_at zero i = refl
zeros_at (suc n) zero = refl
zeros_at (suc n) (suc i) = zeros_at n i

-- Bytes placed in a memory that has room for them.
module _ (memory : List ℕ) (at : ℕ) (bytes : List ℕ) (room : at + length bytes ≤ length memory) where
  before : length (take at memory) ≡ at
  before = length-take-le at memory (omega arith)

  placed_length : length (placed memory at bytes) ≡ length memory
  unfolding placed
  placed_length =
      length-append (take at memory ++ bytes) (drop (at + length bytes) memory)
      ∙ rw (length-append (take at memory) bytes, before, length-drop (at + length bytes) memory) (omega arith)

  both_length : length (take at memory ++ bytes) ≡ at + length bytes
  both_length = length-append (take at memory) bytes ∙ ap (λ (n : ℕ). n + length bytes) before

  -- before them, within them, after them

  placed_before : (j : ℕ) → j < at → byte_at (placed memory at bytes) j ≡ byte_at memory j
  unfolding placed
  placed_before j h =
      get_or-append (take at memory ++ bytes) (drop (at + length bytes) memory) 0 j (rw both_length (omega arith))
      ∙ get_or-append (take at memory) bytes 0 j (rw before h)
      ∙ get_or-take at memory j 0 h

  placed_within : (j : ℕ) → j < length bytes → byte_at (placed memory at bytes) (at + j) ≡ byte_at bytes j
  unfolding placed
  placed_within j h =
      get_or-append (take at memory ++ bytes) (drop (at + length bytes) memory) 0 (at + j) (rw both_length (omega arith))
      ∙ ap (λ (n : ℕ). get_or (take at memory ++ bytes) (n + j) 0) (sym before)
      ∙ get_or-append-add (take at memory) bytes j 0

  placed_after : (j : ℕ) → at + length bytes ≤ j → byte_at (placed memory at bytes) j ≡ byte_at memory j
  unfolding placed
  placed_after j h =
      let e : j ≡ at + length bytes + (j - (at + length bytes)) = omega arith in
      ap (λ (n : ℕ). get_or (take at memory ++ bytes ++ drop (at + length bytes) memory) n 0) (e ∙ ap (λ (n : ℕ). n + (j - (at + length bytes))) (sym both_length))
      ∙ get_or-append-add (take at memory ++ bytes) (drop (at + length bytes) memory) (j - (at + length bytes)) 0
      ∙ get_or-drop (at + length bytes) memory (j - (at + length bytes)) 0
      ∙ ap (λ (n : ℕ). get_or memory n 0) (sym e)

  placed_bytes : Bytes memory → Bytes bytes → Bytes (placed memory at bytes)
  placed_bytes M B = record { below = λ j. by_order j at (λ l. rw (placed_before j l) (M.below j)) (λ l. by_order j (at + length bytes) (within j l) (λ k. rw (placed_after j k) (M.below j))) }
    where
      within : (j : ℕ) → at ≤ j → j < at + length bytes → byte_at (placed memory at bytes) j < 256
      within j l k =
          let e : j ≡ at + (j - at) = omega arith in
          subst (λ (n : ℕ). n < 256) (sym (ap (byte_at (placed memory at bytes)) e ∙ placed_within (j - at) (omega arith))) (B.below (j - at))

module _ (code input : List ℕ) (short : length code ≤ longest_code) (small : length input ≤ longest_input) where
  code_room : code_start + length code ≤ length (zeros memory_bytes)
  code_room = rw (zeros_length memory_bytes) (omega arith)

  coded_length : length (placed (zeros memory_bytes) code_start code) ≡ memory_bytes
  coded_length = placed_length (zeros memory_bytes) code_start code code_room ∙ zeros_length memory_bytes

  input_room : data_start + length input ≤ length (placed (zeros memory_bytes) code_start code)
  input_room = rw coded_length (omega arith)

  pub start_length : length (start_memory code input) ≡ memory_bytes
  unfolding start_memory
  start_length = placed_length (placed (zeros memory_bytes) code_start code) data_start input input_room ∙ coded_length

  -- the code, the input block, and what follows it
  pub start_code : (j : ℕ) → j < length code → byte_at (start_memory code input) (code_start + j) ≡ byte_at code j
  unfolding start_memory
  start_code j h =
      placed_before (placed (zeros memory_bytes) code_start code) data_start input input_room (code_start + j) (omega arith)
      ∙ placed_within (zeros memory_bytes) code_start code code_room j h

  pub start_input : (j : ℕ) → j < length input → byte_at (start_memory code input) (data_start + j) ≡ byte_at input j
  unfolding start_memory
  start_input j h = placed_within (placed (zeros memory_bytes) code_start code) data_start input input_room j h

  pub start_rest : (j : ℕ) → data_start + length input ≤ j → byte_at (start_memory code input) j ≡ 0
  unfolding start_memory
  start_rest j h =
      placed_after (placed (zeros memory_bytes) code_start code) data_start input input_room j h
      ∙ placed_after (zeros memory_bytes) code_start code code_room j (omega arith) ∙ zeros_at memory_bytes j

  -- of code and input that are bytes, the machine is one of words and bytes
  pub start_sized : Bytes code → Bytes input → Sized (start_of code input)
  unfolding start_of start_memory
  start_sized C I = record {
    registers = λ r. rw (zeros_at register_count r) (omega arith);
    pc = omega arith;
    bytes = placed_bytes (placed (zeros memory_bytes) code_start code) data_start input input_room (placed_bytes (zeros memory_bytes) code_start code code_room zeros_bytes C) I;
  }
    where
      zeros_bytes : Bytes (zeros memory_bytes)
      zeros_bytes = record { below = λ j. rw (zeros_at memory_bytes j) (omega arith) }

  -- the k-th word of the code
  pub start_word : (k : ℕ) → 4 * k + 3 < length code → word_at (start_memory code input) (code_start + 4 * k) ≡ get_or (words_of_bytes code) k 0
  unfolding word_at
  start_word k h =
      four (at (4 * k) (omega arith) (omega arith)) (at (4 * k + 1) (omega arith) (omega arith)) (at (4 * k + 2) (omega arith) (omega arith)) (at (4 * k + 3) (omega arith) (omega arith))
      ∙ sym (words_of_bytes_at code k h)
    where
      at : (n : ℕ) {p : ℕ} → p ≡ code_start + n → n < length code → byte_at (start_memory code input) p ≡ byte_at code n
      at n e l = ap (byte_at (start_memory code input)) e ∙ start_code n l

      four : {a b c d a' b' c' d' : ℕ} → a ≡ a' → b ≡ b' → c ≡ c' → d ≡ d' → word_of a b c d ≡ word_of a' b' c' d'
      four e f g h = rw (e, f, g, h)

  -- and so of every machine that a run makes of it
  pub code_word : (m : Machine) (k : ℕ) → After (start_of code input) m → 4 * k + 3 < length code → word_at m.memory (code_start + 4 * k) ≡ get_or (words_of_bytes code) k 0
  unfolding start_of
  code_word m k K h = word_kept (start_of code input) m (code_start + 4 * k) K (omega arith) ∙ start_word k h
