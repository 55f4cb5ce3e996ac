-- What a function that puts code ensures. Code is written from its end towards its start, so that everything that a jump passes over is written before it:
-- the words, and the position before which the next instruction goes. Before position 0 nothing is written.
use Rattle.std.specs.Prelude.{ℕ, zero, suc, ◌-◌, ◌≤◌, ◌≡◌, List, [], ◌∷◌, set, length}
use Rattle.processor.specs.declared.Instr.{Instr}
use Rattle.processor.specs.Instructions.{encode_of}
use Rattle.symbolic.specs.Symbolic.{Instruction}
use Rattle.symbolic.specs.Real.{real}

pub record Tape : Type 0 where
  pub words : List ℕ
  pub at : ℕ

abbrev pub tape : List ℕ → ℕ → Tape
tape ws at = record { words = ws; at = at }

-- one instruction of document 03
unfoldable pub putting : Instr → List ℕ → ℕ → Tape
putting i ws zero = tape ws zero
putting i ws (suc k) = tape (set ws k (encode_of i)) k

-- code of the symbolic processor, each instruction at its position
unfoldable pub laying : List Instruction → List ℕ → ℕ → Tape
laying [] ws at = tape ws at
laying (i ∷ c) ws at = putting (real ((laying c ws at).at - 1) i) (laying c ws at).words (laying c ws at).at

-- One instruction was put before `at`: the words that are now, and its position.
pub record Puts (i : Instr) (at : ℕ) (ws ws' : List ℕ) (r : ℕ) : Type 0 where
  pub same : putting i ws at ≡ tape ws' r

-- Code was put before `at`. Where there is no room for all of it nothing is promised of the words, since a jump back, which is put last, then has no word.
pub record Emits (c : List Instruction) (at : ℕ) (ws ws' : List ℕ) (r : ℕ) : Type 0 where
  pub position : r ≡ at - length c
  pub words : length c ≤ at → laying c ws at ≡ tape ws' r
