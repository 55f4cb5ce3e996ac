-- The ways that a step can end: what holds of the machine after each of them holds of the machine after a step, and by induction after a run.
use Prim.Native.Nat.{ℕ, zero, suc, ◌+◌, ◌<◌}
use mathlib.Core.Path.{◌≡◌, refl}
use mathlib.Core.Bool.{Bool, true, false}
use lib.Dec.{ltb, eqb}
use lib.ListN.{length}
use borrow.Author.Tests.{ltb-true}
use Rattle.word.specs.Choice.{pick}
use Rattle.word.specs.Word.{add_w}
use Rattle.processor.specs.declared.Width.{Width}
use Rattle.processor.specs.declared.Instr.{Instr}
use Rattle.processor.specs.declared.Instr.TheVariants.{Lui, Auipc, Jal, Jalr, Branch, Load, Store, OpImm, Shift, Op, Fence, Ecall, Ebreak, Unknown}
use Rattle.processor.specs.declared.Status.{Status}
use Rattle.processor.specs.declared.Status.TheVariants.{Going, Exit, Trap, Fault, Limit}
use Rattle.processor.specs.Instructions.{decode_of}
use Rattle.processor.specs.Machine.{Machine, reg, word_at}
use Rattle.processor.specs.Execute.{reaches, read_at, write_at, goto, stored, wrote, logged, halt, next, load_of, store_of, call_of, exec_of}
use Rattle.processor.specs.Run.{in_code, step_of, is_going, counted, run_of}

-- a stop that a step can make
abbrev pub Stops : Status → Type 0
Stops Going = ⊥
Stops Exit = Unit {0}
Stops (Trap t) = Unit {0}
Stops (Fault n) = Unit {0}
Stops Limit = ⊥

-- P holds of m gone on, with a register written, with memory written where a store reaches, with a number logged where there is room, and stopped
pub record Ways (room : ℕ) (m : Machine) (P : Machine → Type 0) : Type 0 where
  pub going : (p : ℕ) → P (goto m p)
  pub writing : (rd v p : ℕ) → P (wrote m rd v p)
  pub storing : (s : Width) (at v p : ℕ) → reaches s at ≡ true → P (stored m (write_at s m.memory at v) p)
  pub logging : (v p : ℕ) → length m.log < room → P (logged m v p)
  pub stopping : (s : Status) → Stops s → P (halt m s)

by_test : (P : Machine → Type 0) (x : Bool) (a b : Machine) → (x ≡ true → P a) → P b → P (pick x a b)
by_test P true a b f h = f refl
by_test P false a b f h = h

module _ (room : ℕ) (m : Machine) (P : Machine → Type 0) (W : Ways room m P) where
  load_by : (s : Width) (rd at : ℕ) → P (load_of s rd at m)
  unfolding load_of
  load_by s rd at = by_test P (reaches s at) _ _ (λ e. W.writing rd (read_at s m.memory at) (next m)) (W.stopping (Fault 3) tt)

  store_by : (s : Width) (at v : ℕ) → P (store_of s at v m)
  unfolding store_of
  store_by s at v = by_test P (reaches s at) _ _ (λ e. W.storing s at v (next m) e) (W.stopping (Fault 3) tt)

  call_by : P (call_of room m)
  unfolding call_of
  call_by =
      by_test P (eqb (reg m 17) 0) _ _ (λ e. W.stopping Exit tt)
      (by_test P (eqb (reg m 17) 1) _ _
      (λ e. by_test P (ltb (length m.log) room) _ _ (λ l. W.logging (reg m 10) (next m) (ltb-true _ _ l)) (W.stopping (Trap 4) tt))
      (by_test P (eqb (reg m 17) 2) _ _ (λ e. W.stopping (Trap (reg m 10)) tt) (W.stopping (Fault 5) tt)))

  pub exec_by : (i : Instr) → P (exec_of room i m)
  unfolding exec_of
  exec_by (Lui rd imm) = W.writing rd _ _
  exec_by (Auipc rd imm) = W.writing rd _ _
  exec_by (Jal rd imm) = W.writing rd _ _
  exec_by (Jalr rd rs1 imm) = W.writing rd _ _
  exec_by (Branch c rs1 rs2 imm) = W.going _
  exec_by (Load s rd rs1 imm) = load_by s rd (add_w (reg m rs1) imm)
  exec_by (Store s rs1 rs2 imm) = store_by s (add_w (reg m rs1) imm) (reg m rs2)
  exec_by (OpImm o rd rs1 imm) = W.writing rd _ _
  exec_by (Shift o rd rs1 amount) = W.writing rd _ _
  exec_by (Op o rd rs1 rs2) = W.writing rd _ _
  exec_by (Fence rd rs1 imm) = W.going _
  exec_by Ecall = call_by
  exec_by Ebreak = W.stopping (Fault 4) tt
  exec_by Unknown = W.stopping (Fault 2) tt

  pub step_by : (size : ℕ) → P (step_of size room m)
  unfolding step_of
  step_by size = by_test P (in_code size m.pc) _ _ (λ e. exec_by (decode_of (word_at m.memory m.pc))) (W.stopping (Fault 1) tt)

-- What a step keeps and the limit keeps, a run keeps.
pub run_by : (P : Machine → Type 0) (size room : ℕ) → ((m : Machine) → P m → P (step_of size room m)) → ((m : Machine) → P m → P (halt m Limit))
    → (n : ℕ) (m : Machine) (k : ℕ) → P m → P (run_of size room n m k).machine
unfolding run_of
run_by P size room step limit zero m k h = limit m h
run_by P size room step limit (suc n) m k h = go (is_going (step_of size room m).status) (run_by P size room step limit n (step_of size room m) (k + 1) (step m h))
  where
    go : (x : Bool) → P (run_of size room n (step_of size room m) (k + 1)).machine
        → P (pick x (run_of size room n (step_of size room m) (k + 1)) (record { machine = step_of size room m; steps = k + counted (step_of size room m).status })).machine
    go true r = r
    go false r = step m h
