-- A step at a word that the encoder made carries its instruction out.
use Prim.Native.Nat.{ℕ}
use mathlib.Core.Path.{◌≡◌}
use mathlib.Core.Bool.{true}
use Rattle.processor.specs.declared.Instr.{Instr}
use Rattle.processor.specs.Instructions.{encode_of, WellFormed}
use Rattle.processor.specs.Machine.{Machine, word_at}
use Rattle.processor.specs.Execute.{exec_of}
use Rattle.processor.specs.Run.{in_code, step_of}
use Rattle.processor.proofs.Round.{decode_encode}

pub step_at : (size room : ℕ) (m : Machine) (i : Instr) → WellFormed i → in_code size m.pc ≡ true → word_at m.memory m.pc ≡ encode_of i
    → step_of size room m ≡ exec_of room i m
unfolding step_of
step_at size room m i fine inside e = rw (inside, e, decode_encode i fine)
