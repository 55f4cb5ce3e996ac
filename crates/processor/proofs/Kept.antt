-- What no step and no run changes: memory below 0x100000 (so code can't change), how long memory and registers are, and what was logged.
use Prim.Native.Nat.{ℕ, ◌+◌, ◌%◌, ◌<◌, ◌≤◌}
use mathlib.Core.Path.{◌≡◌, refl, sym, ◌∙◌, ap, subst}
use mathlib.Core.Bool.{Bool, true, false}
use mathlib.Core.List.{List, [], ◌∷◌, ◌++◌, append-nil, append_assoc}
use native.Mathlib.Omega.{arith}
use lib.Dec.{leb, eqb, T}
use lib.ListN.{length, length-append}
use borrow.Author.Tests.{leb-true, eqb-true}
use Rattle.word.specs.Choice.{both}
use Rattle.processor.specs.declared.Width.{Width}
use Rattle.processor.specs.declared.Status.{Status}
use Rattle.processor.specs.declared.Status.TheVariants.{Limit}
use Rattle.processor.specs.Machine.{Machine, data_start, memory_bytes, byte_at, word_at}
use Rattle.processor.specs.Execute.{reaches, size_of, halt}
use Rattle.processor.specs.Run.{step_of, run_of}
use Rattle.processor.proofs.Memory.{set_register_length, write_length, byte_other, word_by}
use Rattle.processor.proofs.Ways.{Ways, step_by, run_by}

-- Where a load or store that does not fault reaches.

both_true : (a b : Bool) → both a b ≡ true → (a ≡ true) × (b ≡ true)
both_true true b e = (refl, e)
both_true false b e = absurd (subst T (sym e) tt)

pub record Reached (s : Width) (at : ℕ) : Type 0 where
  pub aligned : at % size_of s ≡ 0
  pub within : at + size_of s ≤ memory_bytes
  pub above : data_start ≤ at

pub reached : (s : Width) (at : ℕ) → reaches s at ≡ true → Reached s at
unfolding reaches
reached s at e =
    let p = both_true (eqb (at % size_of s) 0) _ e in
    let q = both_true (leb (at + size_of s) memory_bytes) _ p.1 in
    record { aligned = eqb-true _ _ p.0; within = leb-true _ _ q.0; above = leb-true _ _ q.1 }

-- A list with more after it.
pub record Extends (l l' : List ℕ) : Type 0 where
  pub more : List ℕ
  pub is : l' ≡ l ++ more

extends_refl : (l : List ℕ) → Extends l l
extends_refl l = record { more = []; is = sym (append-nil l) }

extends_trans : (a b c : List ℕ) → Extends a b → Extends b c → Extends a c
extends_trans a b c f g = record { more = f.more ++ g.more; is = g.is ∙ ap (λ (l : List ℕ). l ++ g.more) f.is ∙ append_assoc a f.more g.more }

-- The machine n after some steps, beside the machine m before them.
pub record After (m n : Machine) : Type 0 where
  pub code : (j : ℕ) → j < data_start → byte_at n.memory j ≡ byte_at m.memory j
  pub memory_length : length n.memory ≡ length m.memory
  pub registers_length : length n.registers ≡ length m.registers
  pub log : Extends m.log n.log

after_trans : (l m n : Machine) → After l m → After m n → After l n
after_trans l m n f g = record {
  code = λ j h. g.code j h ∙ f.code j h;
  memory_length = g.memory_length ∙ f.memory_length;
  registers_length = g.registers_length ∙ f.registers_length;
  log = extends_trans l.log m.log n.log f.log g.log;
}

after_halt : (m : Machine) (s : Status) → After m (halt m s)
after_halt m s = record { code = λ j h. refl; memory_length = refl; registers_length = refl; log = extends_refl m.log }

pub step_keeps : (size room : ℕ) (m : Machine) → After m (step_of size room m)
step_keeps size room m = step_by room m (After m) ways size
  where
    ways : Ways room m (After m)
    ways = record {
      going = λ p. record { code = λ j h. refl; memory_length = refl; registers_length = refl; log = extends_refl m.log };
      writing = λ rd v p. record { code = λ j h. refl; memory_length = refl; registers_length = set_register_length m.registers rd v; log = extends_refl m.log };
      storing = λ s at v p e. record {
        code = λ j h. let above = (reached s at e).above in byte_other m.memory at v s j (λ k l q. omega arith);
        memory_length = write_length s m.memory at v;
        registers_length = refl;
        log = extends_refl m.log;
      };
      logging = λ v p l. record { code = λ j h. refl; memory_length = refl; registers_length = refl; log = record { more = v ∷ []; is = refl } };
      stopping = λ s t. after_halt m s;
    }

pub run_keeps : (size room n : ℕ) (m : Machine) (k : ℕ) → After m (run_of size room n m k).machine
run_keeps size room n m k =
    run_by (After m) size room (λ x h. after_trans m x (step_of size room x) h (step_keeps size room x)) (λ x h. after_trans m x (halt x Limit) h (after_halt x Limit)) n m k
    (record { code = λ j h. refl; memory_length = refl; registers_length = refl; log = extends_refl m.log })

-- A word below 0x100000 stays.
pub word_kept : (m n : Machine) (p : ℕ) → After m n → p + 4 ≤ data_start → word_at n.memory p ≡ word_at m.memory p
word_kept m n p K h = word_by n.memory m.memory p (λ k l. K.code (p + k) (omega arith))

-- The log stays within its room.

pub step_log : (size room : ℕ) (m : Machine) → length m.log ≤ room → length (step_of size room m).log ≤ room
step_log size room m h = step_by room m (λ n. length n.log ≤ room) ways size
  where
    ways : Ways room m (λ n. length n.log ≤ room)
    ways = record {
      going = λ p. h;
      writing = λ rd v p. h;
      storing = λ s at v p e. h;
      logging = λ v p l. let e = length-append m.log (v ∷ []) in omega arith;
      stopping = λ s t. h;
    }

pub run_log : (size room n : ℕ) (m : Machine) (k : ℕ) → length m.log ≤ room → length (run_of size room n m k).machine.log ≤ room
run_log size room n m k h = run_by (λ x. length x.log ≤ room) size room (step_log size room) (λ x l. l) n m k h
