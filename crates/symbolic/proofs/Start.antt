-- Document 03's start is the symbolic start: the code's words from 0x1000 on, the arrays from 0x100000 on, all else 0.
use Prim.Native.Nat.{ℕ, zero, suc, ◌+◌, ◌-◌, ◌*◌, ◌/◌, ◌^◌, ◌≤◌, ◌<◌}
use mathlib.Core.Path.{◌≡◌, refl, sym, ap, ◌∙◌}
use mathlib.Core.Bool.{Bool, true, false}
use mathlib.Core.List.{List, [], ◌∷◌}
use native.Mathlib.Nat.{zero-add, add-zero}
use native.Mathlib.Omega.{arith}
use lib.Dec.{eqb}
use lib.ListN.{length, get_or}
use Rattle.word.specs.Choice.{pick}
use Rattle.word.specs.Bytes.{bytes_of, bytes_of_words}
use Rattle.word.proofs.WordBytes.{word_of_bytes, bytes_of_words_at, bytes_of_words_length}
use Rattle.processor.specs.declared.Width.TheVariants.{Word}
use Rattle.processor.specs.Instructions.{encode_of}
use Rattle.processor.specs.Machine.{register_count, memory_bytes, code_start, data_start, register, word_at, zeros, placed, start_memory, start_of}
use Rattle.processor.specs.Execute.{reaches}
use Rattle.processor.proofs.Kept.{reached}
use Rattle.processor.proofs.Round.{encode_small}
use Rattle.symbolic.specs.Symbolic.{Reg, x0, reg, number, Instruction, bad, get, pos, initial}
use Rattle.symbolic.specs.Real.{real, words_from, image_of}
use Rattle.symbolic.specs.Fine.{Valid, most_instructions}
use Rattle.symbolic.proofs.Registers.{SameRegisters}
use Rattle.symbolic.proofs.Words.{four}
use Rattle.symbolic.proofs.Match.{Match}
use Rattle.symbolic.proofs.Placed.{zeros_length, zeros_at, placed_length, placed_before, placed_in, placed_after, placed_clear}

-- The words of the code.

words_length : (k : ℕ) (code : List Instruction) → length (words_from k code) ≡ length code
unfolding words_from
words_length k [] = refl
words_length k (i ∷ rest) = ap suc (words_length (suc k) rest)

words_at : (n : ℕ) (code : List Instruction) (k : ℕ) → k < length code → get_or (words_from n code) k 0 ≡ encode_of (real (n + k) (get_or code k bad))
unfolding words_from
words_at n [] k h = absurd (omega arith)
words_at n (i ∷ rest) zero h = ap (λ (a : ℕ). encode_of (real a i)) (sym (add-zero n))
words_at n (i ∷ rest) (suc k) h = words_at (suc n) rest k (omega arith) ∙ ap (λ (a : ℕ). encode_of (real a (get_or rest k bad))) (let e : suc n + k ≡ n + suc k = omega arith in e)

pub image_length : (code : List Instruction) → length (image_of code) ≡ 4 * length code
unfolding image_of
image_length code = bytes_of_words_length (words_from 0 code) ∙ ap (λ (n : ℕ). 4 * n) (words_length 0 code)

-- Bytes of words, from p on in memory, are those words.
word_in : (ws m : List ℕ) (p i : ℕ) → get_or ws i 0 < 2 ^ 32 → ((k : ℕ) → k < 4 → get_or m (p + (4 * i + k)) 0 ≡ get_or (bytes_of_words ws) (4 * i + k) 0) → word_at m (p + 4 * i) ≡ get_or ws i 0
unfolding word_at bytes_of
word_in ws m p i small h = four (at 0 (p + 4 * i) (omega arith) (omega arith)) (at 1 _ (omega arith) (omega arith)) (at 2 _ (omega arith) (omega arith)) (at 3 _ (omega arith) (omega arith)) ∙ word_of_bytes (get_or ws i 0) small
  where
    at : (k a : ℕ) → a ≡ p + (4 * i + k) → k < 4 → get_or m a 0 ≡ get_or (bytes_of (get_or ws i 0)) k 0
    at k a e lt = ap (λ (j : ℕ). get_or m j 0) e ∙ h k lt ∙ bytes_of_words_at ws i k lt

module _ (code : List Instruction) (arrays : List ℕ) (short : length code ≤ most_instructions) (few : 4 * length arrays ≤ memory_bytes - data_start) (words : (i : ℕ) → get_or arrays i 0 < 2 ^ 32) where
  abbrev coded : List ℕ
  coded = placed (zeros memory_bytes) code_start (image_of code)

  abbrev whole : List ℕ
  whole = placed coded data_start (bytes_of_words arrays)

  image_fits : code_start + length (image_of code) ≤ data_start
  image_fits = rw (image_length code) (omega arith)

  coded_length : length coded ≡ memory_bytes
  coded_length = placed_length (zeros memory_bytes) code_start (image_of code) (rw (zeros_length memory_bytes) (omega (arith, image_fits))) ∙ zeros_length memory_bytes

  whole_length : length whole ≡ memory_bytes
  whole_length = placed_length coded data_start (bytes_of_words arrays) (rw (coded_length, bytes_of_words_length arrays) (omega arith)) ∙ coded_length

  -- the input block is clear of the code
  clear : (j : ℕ) → data_start ≤ j → get_or coded j 0 ≡ 0
  clear j h =
      let e : j ≡ code_start + (length (image_of code) + (j - (code_start + length (image_of code)))) = omega (arith, image_fits) in
      ap (λ (i : ℕ). get_or coded i 0) e
      ∙ placed_after (zeros memory_bytes) code_start (image_of code) (rw (zeros_length memory_bytes) (omega arith)) (j - (code_start + length (image_of code)))
      ∙ zeros_at memory_bytes _

  code_word : (k : ℕ) → k < length code → word_at whole (pos k) ≡ encode_of (real k (get_or code k bad))
  unfolding image_of
  code_word k h =
      word_in (words_from 0 code) whole code_start k (rw is (encode_small (real k (get_or code k bad)))) byte ∙ is
    where
      is : get_or (words_from 0 code) k 0 ≡ encode_of (real k (get_or code k bad))
      is = words_at 0 code k h ∙ ap (λ (a : ℕ). encode_of (real a (get_or code k bad))) (zero-add k)

      byte : (i : ℕ) → i < 4 → get_or whole (code_start + (4 * k + i)) 0 ≡ get_or (bytes_of_words (words_from 0 code)) (4 * k + i) 0
      byte i lt =
          let l = image_length code in
          placed_before coded data_start (bytes_of_words arrays) (rw coded_length (omega arith)) (code_start + (4 * k + i)) (omega arith)
          ∙ placed_in (zeros memory_bytes) code_start (image_of code) (rw (zeros_length memory_bytes) (omega arith)) (4 * k + i) (omega (arith, l))

  array_word : (a : ℕ) → reaches Word a ≡ true → word_at whole a ≡ get_or arrays ((a - data_start) / 4) 0
  array_word a h =
      let f = reached Word a h in
      let e : a ≡ data_start + 4 * ((a - data_start) / 4) = omega arith in
      ap (λ (i : ℕ). word_at whole i) e
      ∙ word_in arrays whole data_start ((a - data_start) / 4) (words _) (λ k lt. placed_clear coded data_start (bytes_of_words arrays) (rw coded_length (omega arith)) clear (4 * ((a - data_start) / 4) + k))

  -- all registers are 0
  registers_start : SameRegisters (λ b n. 0) (zeros register_count)
  unfolding register
  registers_start = record { reads = reads; words = small; count = zeros_length register_count }
    where
      reads : (r : Reg) → Valid r → register (zeros register_count) (number r) ≡ get r (λ b n. 0)
      reads r v = go (eqb (number r) 0) r
        where
          go : (t : Bool) (r : Reg) → pick t 0 (get_or (zeros register_count) (number r) 0) ≡ get r (λ b n. 0)
          go true x0 = refl
          go true (reg b n) = refl
          go false x0 = zeros_at register_count 0
          go false (reg b n) = zeros_at register_count (number (reg b n))

      small : (r : Reg) → Valid r → get r (λ b n. 0) < 2 ^ 32
      small x0 v = omega arith
      small (reg b n) v = omega arith

  pub starts : Match code (initial arrays) (start_of (image_of code) (bytes_of_words arrays))
  unfolding start_of start_memory
  starts = record {
    pc = refl;
    registers = registers_start;
    memory = record { reads = array_word; words = λ a h. words _; size = whole_length; code_in = code_word };
    log = refl;
  }
