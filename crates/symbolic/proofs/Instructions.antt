-- Each instruction of the symbolic processor, where it doesn't fault, does what its real instruction does.
use Prim.Native.Nat.{ℕ, suc, ◌+◌, ◌-◌, ◌*◌, ◌/◌, ◌^◌, ◌≤◌, ◌<◌}
use mathlib.Core.Path.{◌≡◌, refl, ap, ◌∙◌}
use mathlib.Core.Bool.{Bool, true, false}
use mathlib.Core.List.{List}
use native.Mathlib.Omega.{arith}
use lib.Dec.{ltb, eqb}
use lib.ListN.{length}
use borrow.Author.Tests.{eqb-true}
use Rattle.word.specs.Choice.{pick}
use Rattle.word.specs.Word.{add_w, sign_extend}
use Rattle.word.proofs.Sums.{add_w_zero}
use Rattle.processor.specs.declared.Alu.{Alu}
use Rattle.processor.specs.declared.Alu.TheVariants.{Add}
use Rattle.processor.specs.declared.Width.TheVariants.{Word}
use Rattle.processor.specs.declared.Status.{Status}
use Rattle.processor.specs.declared.Status.TheVariants.{Going, Exit, Trap, Fault, Limit}
use Rattle.processor.specs.Instructions.{Extended}
use Rattle.processor.specs.Machine as R
use Rattle.processor.specs.Machine.{Machine}
use Rattle.processor.specs.Execute as E
use Rattle.processor.specs.Execute.{alu_of, cond_of, reaches, read_at, write_at, wrote, stored, logged, halt, next, load_of, store_of, call_of, exec_of}
use Rattle.symbolic.specs.Symbolic.{Reg, number, ra, request, answer, Instruction, lui, opi, shift, mv, op, lw, sw, branch, branch_back, jump, jump_back, call, ret, ecall, bad, State, value, pos, position_of, quit, goto, puts, stores, logs, ecall_of, exec1}
use Rattle.symbolic.specs.Real.{distance, real}
use Rattle.symbolic.specs.Fine.{Valid, Fine, most_instructions}
use Rattle.symbolic.proofs.Operations.{alu_lt}
use Rattle.symbolic.proofs.Distances.{reachable, arrives, returns}
use Rattle.symbolic.proofs.Match.{Match, Alike, quits, goes, jumps, writes, next_pc, puts_too, stores_too, logs_too}

-- no fault
abbrev pub NoFault : Status → Type 0
NoFault Going = Unit {0}
NoFault Exit = Unit {0}
NoFault (Trap t) = Unit {0}
NoFault (Fault n) = ⊥
NoFault Limit = Unit {0}

-- an immediate is a word
immediate_lt : (n : ℕ) → Extended 12 n → n < 2 ^ 32
unfolding sign_extend
immediate_lt n e = omega (arith, e)

module _ (room : ℕ) {code : List Instruction} (short : length code ≤ most_instructions) (σ : State) (m : Machine) (here : σ.pc < most_instructions) (c : Match code σ m) where
  reads : (r : Reg) → Valid r → R.reg m (number r) ≡ value σ r
  reads r ok = c.registers.reads r ok

  a_word : (r : Reg) → Valid r → value σ r < 2 ^ 32
  a_word r ok = c.registers.words r ok

  -- what a jump or a branch adds to pc leads to its target
  target : (t : ℕ) → t < reachable → add_w m.pc (distance σ.pc t) ≡ pos t
  target t h = ap (λ (p : ℕ). add_w p (distance σ.pc t)) c.pc ∙ arrives σ.pc t (omega arith) h

  upper : (r : Reg) (n : ℕ) → Valid r → n < 2 ^ 32 → Alike code (puts r n σ) (wrote m (number r) n (next m))
  upper r n ok h = puts_too c here r n ok refl h

  one_operand : (o : Alu) (r q : Reg) (n : ℕ) → Valid r → Valid q → n < 2 ^ 32 → Alike code (puts r (alu_of o (value σ q) n) σ) (wrote m (number r) (alu_of o (R.reg m (number q)) n) (next m))
  one_operand o r q n okr okq h = puts_too c here r _ okr (ap (λ (a : ℕ). alu_of o a n) (reads q okq)) (alu_lt o _ _ (a_word q okq) h)

  moved : (r q : Reg) → Valid r → Valid q → Alike code (puts r (value σ q) σ) (wrote m (number r) (alu_of Add (R.reg m (number q)) 0) (next m))
  unfolding alu_of
  moved r q okr okq = puts_too c here r _ okr (ap (λ (a : ℕ). add_w a 0) (reads q okq) ∙ add_w_zero _ (a_word q okq)) (a_word q okq)

  two_operands : (o : Alu) (r p q : Reg) → Valid r → Valid p → Valid q
      → Alike code (puts r (alu_of o (value σ p) (value σ q)) σ) (wrote m (number r) (alu_of o (R.reg m (number p)) (R.reg m (number q))) (next m))
  two_operands o r p q okr okp okq =
      puts_too c here r _ okr (ap (λ (a : ℕ). alu_of o a (R.reg m (number q))) (reads p okp) ∙ ap (λ (b : ℕ). alu_of o (value σ p) b) (reads q okq)) (alu_lt o _ _ (a_word p okp) (a_word q okq))

  loads : (r : Reg) (a : ℕ) → Valid r → (t : Bool) → reaches Word a ≡ t → NoFault (pick t (puts r (σ.memory a) σ) (quit (Fault 3) σ)).status
      → Alike code (pick t (puts r (σ.memory a) σ) (quit (Fault 3) σ)) (pick t (wrote m (number r) (R.word_at m.memory a) (next m)) (halt m (Fault 3)))
  loads r a ok true e safe = puts_too c here r _ ok (c.memory.reads a e) (c.memory.words a e)
  loads r a ok false e safe = absurd safe

  saves : (a v : ℕ) → v < 2 ^ 32 → (t : Bool) → reaches Word a ≡ t → NoFault (pick t (stores a v σ) (quit (Fault 3) σ)).status
      → Alike code (pick t (stores a v σ) (quit (Fault 3) σ)) (pick t (stored m (write_at Word m.memory a v) (next m)) (halt m (Fault 3)))
  saves a v h true e safe = stores_too c here a v short e h
  saves a v h false e safe = absurd safe

  branches : (b : Bool) (t : ℕ) → t < reachable → Alike code (goto (pick b t (suc σ.pc)) σ) (E.goto m (pick b (add_w m.pc (distance σ.pc t)) (next m)))
  branches true t h = goes c (target t h)
  branches false t h = goes c (next_pc c here)

  goes_to : (t : ℕ) → t < reachable → Alike code (goto t σ) (wrote m 0 (next m) (add_w m.pc (distance σ.pc t)))
  goes_to t h = jumps c (next m) (target t h)

  calls : (t : ℕ) → t < reachable → Alike code (exec1 room (call t) σ) (wrote m (number ra) (next m) (add_w m.pc (distance σ.pc t)))
  calls t h = writes c ra (pos (suc σ.pc)) (omega arith) (next_pc c here) (omega arith) (target t h)

  comes_back : (a : ℕ) → a < 2 ^ 32 → (t : Bool) → eqb (pos (position_of a)) a ≡ t → NoFault (pick t (goto (position_of a) σ) (quit (Fault 1) σ)).status
      → Alike code (pick t (goto (position_of a) σ) (quit (Fault 1) σ)) (wrote m 0 (next m) (add_w a 0 / 2 * 2))
  comes_back a h true e safe = jumps c (next m) (returns a (position_of a) h (eqb-true _ _ e))
  comes_back a h false e safe = absurd safe

  asks : NoFault (ecall_of room σ).status → Alike code (ecall_of room σ) (call_of room m)
  unfolding ecall_of call_of
  asks safe =
      rw (reads request (omega arith), reads answer (omega arith), ap (λ (l : List ℕ). ltb (length l) room) c.log)
      (go (eqb (value σ request) 0) (eqb (value σ request) 1) (eqb (value σ request) 2) (ltb (length σ.log) room) safe)
    where
      go : (x y z w : Bool)
          → NoFault (pick x (quit Exit σ) (pick y (pick w (logs (value σ answer) σ) (quit (Trap 4) σ)) (pick z (quit (Trap (value σ answer)) σ) (quit (Fault 5) σ)))).status
          → Alike code (pick x (quit Exit σ) (pick y (pick w (logs (value σ answer) σ) (quit (Trap 4) σ)) (pick z (quit (Trap (value σ answer)) σ) (quit (Fault 5) σ))))
          (pick x (halt m Exit) (pick y (pick w (logged m (value σ answer) (next m)) (halt m (Trap 4))) (pick z (halt m (Trap (value σ answer))) (halt m (Fault 5)))))
      go true y z w safe = quits c Exit
      go false true z true safe = logs_too c here (value σ answer)
      go false true z false safe = quits c (Trap 4)
      go false false true w safe = quits c (Trap (value σ answer))
      go false false false w safe = absurd safe

  pub executes : (i : Instruction) → Fine i → NoFault (exec1 room i σ).status → Alike code (exec1 room i σ) (exec_of room (real σ.pc i) m)
  unfolding exec_of Fine load_of store_of read_at
  executes (lui r n) f safe = upper r n f.0 f.1.0
  executes (opi o r q n) f safe = one_operand o r q n f.1 f.2 (immediate_lt n f.3)
  executes (shift o r q n) f safe = one_operand o r q n f.1 f.2 (omega (arith, f.3))
  executes (mv r q) f safe = moved r q f.0 f.1
  executes (op o r p q) f safe = two_operands o r p q f.0 f.1 f.2
  executes (lw r q n) f safe = rw (reads q f.1) (loads r _ f.0 (reaches Word (add_w (value σ q) n)) refl safe)
  executes (sw r q n) f safe = rw (reads q f.1, reads r f.0) (saves _ _ (a_word r f.0) (reaches Word (add_w (value σ q) n)) refl safe)
  executes (branch d p q n) f safe = rw (reads p f.0, reads q f.1) (branches (cond_of d (value σ p) (value σ q)) (σ.pc + n) (omega (arith, f.2)))
  executes (branch_back d p q n) f safe = rw (reads p f.0, reads q f.1) (branches (cond_of d (value σ p) (value σ q)) (σ.pc - n) (omega arith))
  executes (jump n) f safe = goes_to (σ.pc + n) (omega arith)
  executes (jump_back n) f safe = goes_to (σ.pc - n) (omega arith)
  executes (call t) f safe = calls t (omega arith)
  executes ret f safe = rw (reads ra (omega arith)) (comes_back (value σ ra) (a_word ra (omega arith)) (eqb (pos (position_of (value σ ra))) (value σ ra)) refl safe)
  executes ecall f safe = asks safe
  executes bad f safe = absurd safe
