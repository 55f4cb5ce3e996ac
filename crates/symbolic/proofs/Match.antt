-- A state of the symbolic processor and one of document 03's that are alike, and the ways for both to go on that keep them so.
use Prim.Native.Nat.{ℕ, suc, ◌^◌, ◌≤◌, ◌<◌}
use mathlib.Core.Path.{◌≡◌, refl, sym, ap, ◌∙◌, subst}
use mathlib.Core.Bool.{true}
use mathlib.Core.List.{List, [], ◌∷◌, ◌++◌}
use native.Mathlib.Omega.{arith}
use lib.ListN.{length}
use Rattle.word.specs.Word.{add_w}
use Rattle.processor.specs.declared.Width.TheVariants.{Word}
use Rattle.processor.specs.declared.Status.{Status}
use Rattle.processor.specs.declared.Status.TheVariants.{Going}
use Rattle.processor.specs.Machine.{Machine, set_register}
use Rattle.processor.specs.Execute as R
use Rattle.processor.specs.Execute.{reaches, write_at, wrote, logged, halt, next}
use Rattle.symbolic.specs.Symbolic.{Reg, number, Instruction, State, state, set, pos, quit, goto, puts, stores, logs}
use Rattle.symbolic.specs.Fine.{Valid, most_instructions}
use Rattle.symbolic.proofs.Registers.{SameRegisters, written, zero_kept}
use Rattle.symbolic.proofs.Memory.{SameMemory, stored}
use Rattle.symbolic.proofs.Distances.{next_is}

pub record Match (code : List Instruction) (σ : State) (m : Machine) : Type 0 where
  pub pc : m.pc ≡ pos σ.pc
  pub registers : SameRegisters σ.registers m.registers
  pub memory : SameMemory code σ.memory m.memory
  pub log : m.log ≡ σ.log

-- alike, and both going on, or stopped in one way
pub record Alike (code : List Instruction) (σ : State) (m : Machine) : Type 0 where
  pub status : m.status ≡ σ.status
  pub match : Match code σ m

module _ {code : List Instruction} {σ : State} {m : Machine} (c : Match code σ m) where
  -- stopped
  pub quits : (s : Status) → Alike code (quit s σ) (halt m s)
  quits s = record { status = refl; match = record { pc = c.pc; registers = c.registers; memory = c.memory; log = c.log } }

  -- gone on at another position; with what a jump writes to x0
  pub goes : {p a : ℕ} → a ≡ pos p → Alike code (goto p σ) (R.goto m a)
  goes e = record { status = refl; match = record { pc = e; registers = c.registers; memory = c.memory; log = c.log } }

  pub jumps : {p a : ℕ} (v : ℕ) → a ≡ pos p → Alike code (goto p σ) (wrote m 0 v a)
  jumps {p} {a} v e = record {
    status = refl;
    match = record {
      pc = e;
      registers = subst (λ (l : List ℕ). SameRegisters σ.registers l) (sym (zero_kept m.registers v)) c.registers;
      memory = c.memory;
      log = c.log;
    };
  }

  -- a register written, and gone on at p
  pub writes : {p a v : ℕ} (r : Reg) (w : ℕ) → Valid r → v ≡ w → w < 2 ^ 32 → a ≡ pos p
      → Alike code (state Going p (set r w σ.registers) σ.memory σ.log) (wrote m (number r) v a)
  writes {v = v} r w ok e h at = record {
    status = refl;
    match = record {
      pc = at;
      registers = subst (λ (u : ℕ). SameRegisters (set r w σ.registers) (set_register m.registers (number r) u)) (sym e) (written r w c.registers ok h);
      memory = c.memory;
      log = c.log;
    };
  }

  module _ (here : σ.pc < most_instructions) where
    -- the address of the instruction behind this one
    pub next_pc : next m ≡ pos (suc σ.pc)
    next_pc = ap (λ (p : ℕ). add_w p 4) c.pc ∙ next_is σ.pc (omega arith)

    -- gone on behind this instruction: with a register written, a word stored, a value logged
    pub puts_too : {v : ℕ} (r : Reg) (w : ℕ) → Valid r → v ≡ w → w < 2 ^ 32 → Alike code (puts r w σ) (wrote m (number r) v (next m))
    puts_too r w ok e h = writes r w ok e h next_pc

    pub stores_too : (a v : ℕ) → length code ≤ most_instructions → reaches Word a ≡ true → v < 2 ^ 32 → Alike code (stores a v σ) (R.stored m (write_at Word m.memory a v) (next m))
    stores_too a v short h k = record {
      status = refl;
      match = record { pc = next_pc; registers = c.registers; memory = stored a v short c.memory h k; log = c.log };
    }

    pub logs_too : (v : ℕ) → Alike code (logs v σ) (logged m v (next m))
    logs_too v = record {
      status = refl;
      match = record { pc = next_pc; registers = c.registers; memory = c.memory; log = ap (λ (l : List ℕ). l ++ (v ∷ [])) c.log };
    }
