-- A run whose machine stands in the parts that were handed on is held by the whole buffers.
use Prim.Native.Nat.{ℕ, ◌≤◌}
use mathlib.Core.Path.{◌≡◌, refl, sym, ◌∙◌, ap}
use mathlib.Core.List.{List, ◌++◌}
use lib.ListN.{length, take, drop, take-append-drop}
use lib.Seq.{length-take-le}
use Rattle.processor.specs.Machine.{memory_bytes, register_count}
use Rattle.processor.specs.declared.Status.{Status}
use Rattle.processor.specs.declared.Status.TheVariants.{Going, Exit, Trap, Fault, Limit}
use Rattle.processor.specs.Run.{Run, run_of, resumed, onward}
use Rattle.emulator.specs.declared.run.Ended.{Ended}
use Rattle.emulator.specs.Stands.{stands, Grows}
use Rattle.toolchain.specs.Emulation.{Buffers, buffers, Holds, stood}

pub held : (run : Run) (b : Buffers) (memory registers log : List ℕ) (e : Ended) {room k m x : ℕ}
    → m ≡ memory_bytes → x ≡ register_count → e.logged ≤ length log → Grows room b.log k log e.logged
    → run ≡ record { machine = stands registers e.pc memory log e.logged e.status; steps = e.steps }
    → Holds run b (buffers (memory ++ drop m b.memory) (registers ++ drop x b.registers) log) e
held run b memory registers log e em ex h g so = record {
  pc = ap (λ (r : Run). r.machine.pc) (sym so);
  status = ap (λ (r : Run). r.machine.status) (sym so);
  steps = ap (λ (r : Run). r.steps) (sym so);
  logged = sym count;
  registers = rw (ex, so);
  memory = rw (em, so);
  log = sym (rw (count) (rw so (rw (← g.rest) (take-append-drop e.logged log))));
}
  where
    count : length run.machine.log ≡ e.logged
    count = rw so (length-take-le e.logged log h)

-- A run that the limit stopped goes on from the machine that stands in the parts handed on.
pub gone_on : (size room more n : ℕ) (e : Ended) (b : Buffers) (run : Run) {m x : ℕ} → m ≡ memory_bytes → x ≡ register_count → n ≡ more → e.status ≡ Limit
    → run_of size room n (stands (take x b.registers) e.pc (take m b.memory) b.log e.logged Going) e.steps ≡ run
    → onward size room more (stood e b) ≡ run
gone_on size room more n e b run {m} {x} em ex en limit so =
    ap (λ (s : Status). resumed size room more (stood e b) s) limit
    ∙ sym (ap (λ (k : ℕ). run_of size room more (stands (take register_count b.registers) e.pc (take k b.memory) b.log e.logged Going) e.steps) em)
    ∙ sym (ap (λ (k : ℕ). run_of size room more (stands (take k b.registers) e.pc (take m b.memory) b.log e.logged Going) e.steps) ex)
    ∙ sym (ap (λ (k : ℕ). run_of size room k (stands (take x b.registers) e.pc (take m b.memory) b.log e.logged Going) e.steps) en)
    ∙ so

-- A run that stopped otherwise stays as it ended.

pub not_resumed : (size room more : ℕ) (r : Run) (s : Status) → (s ≡ Limit → ⊥) → resumed size room more r s ≡ r
not_resumed size room more r Going h = refl
not_resumed size room more r Exit h = refl
not_resumed size room more r (Trap t) h = refl
not_resumed size room more r (Fault n) h = refl
not_resumed size room more r Limit h = absurd (h refl)

pub unchanged : (size room more : ℕ) (e : Ended) (b : Buffers) → e.logged ≤ length b.log → onward size room more (stood e b) ≡ stood e b
    → Holds (onward size room more (stood e b)) b b e
unchanged size room more e b h so = record {
  pc = ap (λ (r : Run). r.machine.pc) (sym so);
  status = ap (λ (r : Run). r.machine.status) (sym so);
  steps = ap (λ (r : Run). r.steps) (sym so);
  logged = sym count;
  registers = sym (take-append-drop register_count b.registers) ∙ ap (λ (r : Run). r.machine.registers ++ drop register_count b.registers) (sym so);
  memory = sym (take-append-drop memory_bytes b.memory) ∙ ap (λ (r : Run). r.machine.memory ++ drop memory_bytes b.memory) (sym so);
  log =
      sym (take-append-drop e.logged b.log)
      ∙ ap (λ (k : ℕ). take e.logged b.log ++ drop k b.log) (sym count)
      ∙ ap (λ (r : Run). r.machine.log ++ drop (length (onward size room more (stood e b)).machine.log) b.log) (sym so);
}
  where
    count : length (onward size room more (stood e b)).machine.log ≡ e.logged
    count = ap (λ (r : Run). length r.machine.log) so ∙ length-take-le e.logged b.log h
