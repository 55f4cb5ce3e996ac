-- Document 03 §5: the image, and what a run of it is asked for.
use Rattle.std.specs.Prelude.{ℕ, ◌%◌, Bool, List, leb, eqb, length, take, drop}
use Rattle.word.specs.Choice.{pick, both}
use Rattle.word.specs.Bytes.{words_of_bytes}
use Rattle.processor.specs.Machine.{Machine, register_count, memory_bytes, data_start, start_of}
use Rattle.processor.specs.Run.{Run, run_of}

-- "a whole number of words, at most 524,288 bytes"
abbrev pub longest_code : ℕ
longest_code = 524288

-- "longer than 1 MiB"
abbrev pub longest_input : ℕ
longest_input = 0x100000

-- so many bytes are whole words, and at most this many
unfoldable pub fits : ℕ → ℕ → Bool
fits most size = both (eqb (size % 4) 0) (leb size most)

-- What a run on the processor is lent: its sizes, in bytes, registers and words of log; room is the log's stated size.
pub record Lent : Type 0 where
  pub code : ℕ
  pub input : ℕ
  pub memory : ℕ
  pub registers : ℕ
  pub log : ℕ
  pub room : ℕ

-- the answer to a run that is not refused (document 01 §1)
abbrev pub accepted : ℕ
accepted = 0

-- A run is refused "by answer 4 if the code isn't whole words or is longer than that, 5 if the input block isn't whole words, is longer
-- than 1 MiB .., 6 if the memory or log lent is shorter than stated". The registers are lent too. The smallest that applies is the answer.
unfoldable pub answer_of : Lent → ℕ
answer_of l =
    pick (fits longest_code l.code)
    (pick (fits longest_input l.input)
    (pick (both (leb memory_bytes l.memory) (both (leb register_count l.registers) (leb l.room l.log)))
    accepted 6) 5) 4

-- The run of an image: its code and input block as bytes, the log's room and the step limit.
unfoldable pub run_image : List ℕ → List ℕ → ℕ → ℕ → Run
run_image code input room limit = run_of (length code) room limit (start_of code input) 0

-- "The input block holds all arrays, in order of declaration, one word per element. After exit or trap the arrays are read from there":
-- the words of the block, which is this many bytes.
unfoldable pub arrays_of : ℕ → Machine → List ℕ
arrays_of size m = words_of_bytes (take size (drop data_start m.memory))
