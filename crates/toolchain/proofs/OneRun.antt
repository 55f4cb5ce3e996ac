-- What `emulate` left, gone on with by `resume`, is the run that `emulate` makes with both limits at once (document 03 §4), as long as their sum is
-- one that 64 bits hold: `resume` counts no further.
use Prim.Native.Nat.{ℕ, ◌+◌, ◌≤◌}
use mathlib.Core.Path.{◌≡◌, refl, sym, ◌∙◌, ap}
use mathlib.Core.List.{List, ◌++◌}
use lib.ListN.{length, take, drop, length-replicate}
use lib.Seq.{take_at}
use Rattle.processor.specs.declared.Status.{Status}
use Rattle.processor.specs.Machine.{state, memory_bytes, register_count, zeros, start_of}
use Rattle.processor.specs.Run.{Run, onward}
use Rattle.processor.specs.Image.{longest_code, longest_input, run_image}
use Rattle.processor.proofs.Kept.{After}
use Rattle.processor.proofs.Laws.{run_keeps, run_add}
use Rattle.processor.proofs.Start.{start_length}
use Rattle.emulator.specs.declared.run.Ended.{Ended}
use Rattle.toolchain.specs.Emulation.{Buffers, Holds, stood}

-- the first k of a list, of a number k that is not computed with
pub front : (k : ℕ) (l m rest : List ℕ) → length m ≡ k → l ≡ m ++ rest → take k l ≡ m
front k l m rest h e = ap (take k) e ∙ take_at m rest k h

-- a run whose machine has the sizes of document 03 stands in the buffers that hold it
stands_in : (run : Run) (before after : Buffers) (e : Ended) → length run.machine.registers ≡ register_count → length run.machine.memory ≡ memory_bytes
    → Holds run before after e → stood e after ≡ run
stands_in run before after e hr hm h =
    ap (λ (l : List ℕ). made l (take memory_bytes after.memory) (take e.logged after.log) e.pc e.status e.steps) registers
    ∙ ap (λ (l : List ℕ). made run.machine.registers l (take e.logged after.log) e.pc e.status e.steps) memory
    ∙ ap (λ (l : List ℕ). made run.machine.registers run.machine.memory l e.pc e.status e.steps) log
    ∙ ap (λ (p : ℕ). made run.machine.registers run.machine.memory run.machine.log p e.status e.steps) h.pc
    ∙ ap (λ (s : Status). made run.machine.registers run.machine.memory run.machine.log run.machine.pc s e.steps) h.status
    ∙ ap (λ (n : ℕ). made run.machine.registers run.machine.memory run.machine.log run.machine.pc run.machine.status n) h.steps
  where
    made : List ℕ → List ℕ → List ℕ → ℕ → Status → ℕ → Run
    made r m l p s n = record { machine = state r p m l s; steps = n }

    registers : take register_count after.registers ≡ run.machine.registers
    registers = front register_count after.registers run.machine.registers (drop register_count before.registers) hr h.registers

    memory : take memory_bytes after.memory ≡ run.machine.memory
    memory = front memory_bytes after.memory run.machine.memory (drop memory_bytes before.memory) hm h.memory

    log : take e.logged after.log ≡ run.machine.log
    log = front e.logged after.log run.machine.log (drop (length run.machine.log) before.log) (sym h.logged) h.log

pub one_run : (code input : List ℕ) (room a b : ℕ) (before after : Buffers) (e : Ended) → length code ≤ longest_code → length input ≤ longest_input
    → Holds (run_image code input room a) before after e → onward (length code) room b (stood e after) ≡ run_image code input room (a + b)
unfolding run_image start_of zeros
one_run code input room a b before after e hc hi h =
    let kept : After (start_of code input) (run_image code input room a).machine = run_keeps (length code) room a (start_of code input) 0 in
    ap (onward (length code) room b) (stands_in (run_image code input room a) before after e (kept.registers_length ∙ length-replicate {A = ℕ} register_count 0) (kept.memory_length ∙ start_length code input hc hi) h)
    ∙ sym (run_add (length code) room a b (start_of code input) 0 refl)
