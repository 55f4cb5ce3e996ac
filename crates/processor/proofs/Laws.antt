-- The laws of the processor on one page: what other proofs cite. Each is proved in the file that its line names.
use Prim.Native.Nat.{ℕ, ◌+◌, ◌*◌, ◌^◌, ◌<◌, ◌≤◌}
use mathlib.Core.Path.{◌≡◌}
use mathlib.Core.Bool.{true}
use mathlib.Core.List.{List}
use lib.ListN.{length, get_or}
use Rattle.word.specs.Bytes.{words_of_bytes}
use Rattle.processor.specs.declared.Instr.{Instr}
use Rattle.processor.specs.declared.Instr.TheVariants.{Unknown}
use Rattle.processor.specs.declared.Status.TheVariants.{Going}
use Rattle.processor.specs.Instructions.{decode_of, encode_of, WellFormed}
use Rattle.processor.specs.Machine.{Machine, word_at, code_start, start_of}
use Rattle.processor.specs.Execute.{exec_of}
use Rattle.processor.specs.Run.{in_code, step_of, run_of, onward}
use Rattle.processor.specs.Image.{longest_code, longest_input}
use Rattle.processor.proofs.Round as Round
use Rattle.processor.proofs.Round.{Says}
use Rattle.processor.proofs.Kept as Kept
use Rattle.processor.proofs.Kept.{After}
use Rattle.processor.proofs.Sized as Sized
use Rattle.processor.proofs.Sized.{Bytes, Sized}
use Rattle.processor.proofs.Onward as Onward
use Rattle.processor.proofs.Fetch as Fetch
use Rattle.processor.proofs.Start as Start

-- A well-formed instruction is read back from its word, which is a word.
pub decode_encode : (i : Instr) → WellFormed i → decode_of (encode_of i) ≡ i
decode_encode = Round.decode_encode

pub encode_small : (i : Instr) → encode_of i < 2 ^ 32
encode_small = Round.encode_small

-- A word that is a known instruction is that instruction's word, and the instruction is well formed.
pub encode_decode : (w : ℕ) → w < 2 ^ 32 → (decode_of w ≡ Unknown → ⊥) → Says w (decode_of w)
encode_decode = Round.encode_decode

-- A step at a word that the encoder made carries its instruction out.
pub step_at : (size room : ℕ) (m : Machine) (i : Instr) → WellFormed i → in_code size m.pc ≡ true → word_at m.memory m.pc ≡ encode_of i
    → step_of size room m ≡ exec_of room i m
step_at = Fetch.step_at

-- No step and no run changes memory below 0x100000, how long memory and registers are, or what was logged.
pub step_keeps : (size room : ℕ) (m : Machine) → After m (step_of size room m)
step_keeps = Kept.step_keeps

pub run_keeps : (size room n : ℕ) (m : Machine) (k : ℕ) → After m (run_of size room n m k).machine
run_keeps = Kept.run_keeps

-- So the k-th word of the code is where it was placed, in every machine that a run makes.
pub code_word : (code input : List ℕ) → length code ≤ longest_code → length input ≤ longest_input
    → (m : Machine) (k : ℕ) → After (start_of code input) m → 4 * k + 3 < length code → word_at m.memory (code_start + 4 * k) ≡ get_or (words_of_bytes code) k 0
code_word = Start.code_word

-- Registers and pc are words and stay so, memory is bytes and stays so, the log stays within its room.
pub start_sized : (code input : List ℕ) → length code ≤ longest_code → length input ≤ longest_input → Bytes code → Bytes input → Sized (start_of code input)
start_sized = Start.start_sized

pub run_sized : (size room n : ℕ) (m : Machine) (k : ℕ) → Sized m → Sized (run_of size room n m k).machine
run_sized = Sized.run_sized

pub run_log : (size room n : ℕ) (m : Machine) (k : ℕ) → length m.log ≤ room → length (run_of size room n m k).machine.log ≤ room
run_log = Kept.run_log

-- A run counts at most as many steps as its limit says.
pub run_steps : (size room n : ℕ) (m : Machine) (k : ℕ) → (run_of size room n m k).steps ≤ k + n
run_steps = Onward.run_steps

-- "A run with limit a, gone on with for b more, is the run with limit a + b."
pub run_add : (size room a b : ℕ) (m : Machine) (k : ℕ) → m.status ≡ Going → run_of size room (a + b) m k ≡ onward size room b (run_of size room a m k)
run_add = Onward.run_add
