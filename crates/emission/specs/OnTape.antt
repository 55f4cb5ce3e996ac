-- What a function that writes on a tape ensures: what is said of the position and the words before and after, and that the tape is the same one, as long, and no nearer its end.
use Rattle.std.specs.Prelude.{ℕ, ◌≡◌, ◌≤◌, ◌-◌, List, length}
use Rattle.processor.specs.declared.Instr.{Instr}
use Rattle.emission.specs.declared.tape.Tape.{Tape}
use Rattle.emission.specs.Tape.{Puts}

pub record OnTape (P : ℕ → List ℕ → List ℕ → ℕ → Type 0) (t t' : Tape) : Type 0 where
  pub says : P t.at t.words.now t'.words.now t'.at
  pub within : t'.at ≤ t.at
  pub long : length t'.words.now ≡ length t.words.now
  pub same : t'.words.ghost_name ≡ t.words.ghost_name

-- One instruction was put before `end`, somewhere behind the code that is written; the next one's position stays.
pub record Fills (i : Instr) (end at : ℕ) (ws ws' : List ℕ) (r : ℕ) : Type 0 where
  pub puts : Puts i end ws ws' (end - 1)
  pub stays : r ≡ at
