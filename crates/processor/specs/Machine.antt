-- Document 03 §1: state and memory.
use Rattle.std.specs.Prelude.{ℕ, ◌+◌, ◌*◌, List, [], ◌++◌, eqb, length, get_or, set, take, drop, replicate}
use Rattle.word.specs.Choice.{pick}
use Rattle.word.specs.Bytes.{word_of}
use Rattle.processor.specs.declared.Status.{Status}
use Rattle.processor.specs.declared.Status.TheVariants.{Going}

-- "32 registers x0 to x31 of 32 bits, x0 always 0; pc; a log. Memory is 2 MiB, bytes 0 to 0x1fffff, multi-byte items lowest byte first."
-- Status is whether the run goes on, or how it stopped (§4).
pub record Machine : Type 0 where
  pub registers : List ℕ
  pub pc : ℕ
  pub memory : List ℕ
  pub log : List ℕ
  pub status : Status

abbrev pub state : List ℕ → ℕ → List ℕ → List ℕ → Status → Machine
state r p m l s = record { registers = r; pc = p; memory = m; log = l; status = s }

abbrev pub register_count : ℕ
register_count = 32

abbrev pub memory_bytes : ℕ
memory_bytes = 0x200000

-- "Code lies from 0x1000 on; loads and stores below 0x100000 fault"; the input block lies from there on.
abbrev pub code_start : ℕ
code_start = 0x1000

abbrev pub data_start : ℕ
data_start = 0x100000

-- what is read of a register, and the registers once one is written: x0 is 0, whatever stands in its place, and no write changes it
unfoldable pub register : List ℕ → ℕ → ℕ
register registers r = pick (eqb r 0) 0 (get_or registers r 0)

unfoldable pub set_register : List ℕ → ℕ → ℕ → List ℕ
set_register registers r v = pick (eqb r 0) registers (set registers r v)

abbrev pub reg : Machine → ℕ → ℕ
reg m r = register m.registers r

-- "multi-byte items lowest byte first"
abbrev pub byte_at : List ℕ → ℕ → ℕ
byte_at memory i = get_or memory i 0

unfoldable pub half_at : List ℕ → ℕ → ℕ
half_at memory i = byte_at memory i + byte_at memory (i + 1) * 256

unfoldable pub word_at : List ℕ → ℕ → ℕ
word_at memory i = word_of (byte_at memory i) (byte_at memory (i + 1)) (byte_at memory (i + 2)) (byte_at memory (i + 3))

-- "At the start all registers are 0, pc is 0x1000, memory is 0 except the code and the input block, which lies from 0x100000 on."

unfoldable pub zeros : ℕ → List ℕ
zeros n = replicate n 0

-- memory with these bytes from `at` on
unfoldable pub placed : List ℕ → ℕ → List ℕ → List ℕ
placed memory at bytes = take at memory ++ bytes ++ drop (at + length bytes) memory

unfoldable pub start_memory : List ℕ → List ℕ → List ℕ
start_memory code input = placed (placed (zeros memory_bytes) code_start code) data_start input

unfoldable pub start_of : List ℕ → List ℕ → Machine
start_of code input = state (zeros register_count) code_start (start_memory code input) [] Going
