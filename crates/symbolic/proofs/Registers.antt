-- The banks are the list of registers: what is read of one is read of the other, and stays so after a write.
use Prim.Native.Nat.{ℕ, ◌+◌, ◌^◌, ◌<◌}
use mathlib.Core.Path.{◌≡◌, refl, sym, ap, ◌∙◌}
use mathlib.Core.Bool.{Bool, true, false}
use mathlib.Core.List.{List}
use native.Mathlib.Omega.{arith}
use native.Mathlib.Decide.{ℕ_discrete}
use lib.Dec.{ltb, eqb}
use lib.ListN as L
use lib.ListN.{length, get_or}
use lib.Seq.{get_or-set_other, get_or-set_same}
use borrow.Author.Tests.{lt-ltb, le-ltb, eqb-true, eq-eqb, ne_eqb}
use Rattle.word.specs.Choice.{pick, both}
use Rattle.processor.specs.Machine.{register_count, register, set_register}
use Rattle.processor.proofs.Memory.{set_register_length}
use Rattle.symbolic.specs.Symbolic.{Bank, Fixed, Scratch, Argument, Saved, Temporary, first, width, Reg, x0, reg, number, Registers, get, set}
use Rattle.symbolic.specs.Fine.{Valid}
use Rattle.symbolic.proofs.Tests.{both_true}

-- Two registers with one number are of one bank.

-- the number of the first register of the bank that r is in
bank_at : ℕ → ℕ
bank_at r = pick (ltb r 4) 1 (pick (ltb r 10) 4 (pick (ltb r 18) 10 (pick (ltb r 25) 18 25)))

bank_at_lem : (b : Bank) (n : ℕ) → n < width b → bank_at (first b + n) ≡ first b
unfolding bank_at
bank_at_lem Fixed n h = simp (lt-ltb (1 + n) 4 (omega arith))
bank_at_lem Scratch n h = simp (le-ltb (4 + n) 4 (omega arith), lt-ltb (4 + n) 10 (omega arith))
bank_at_lem Argument n h = simp (le-ltb (10 + n) 4 (omega arith), le-ltb (10 + n) 10 (omega arith), lt-ltb (10 + n) 18 (omega arith))
bank_at_lem Saved n h = simp (le-ltb (18 + n) 4 (omega arith), le-ltb (18 + n) 10 (omega arith), le-ltb (18 + n) 18 (omega arith), lt-ltb (18 + n) 25 (omega arith))
bank_at_lem Temporary n h = simp (le-ltb (25 + n) 4 (omega arith), le-ltb (25 + n) 10 (omega arith), le-ltb (25 + n) 18 (omega arith), le-ltb (25 + n) 25 (omega arith))

one_bank : (b c : Bank) (m n : ℕ) → m < width b → n < width c → first b + m ≡ first c + n → first b ≡ first c
one_bank b c m n h k e = sym (bank_at_lem b m h) ∙ ap bank_at e ∙ bank_at_lem c n k

-- registers of the banks have the numbers from 1 to 31
first_positive : (b : Bank) → 0 < first b
first_positive Fixed = omega arith
first_positive Scratch = omega arith
first_positive Argument = omega arith
first_positive Saved = omega arith
first_positive Temporary = omega arith

pub number_small : (r : Reg) → Valid r → number r < register_count
number_small x0 v = omega arith
number_small (reg Fixed n) v = omega arith
number_small (reg Scratch n) v = omega arith
number_small (reg Argument n) v = omega arith
number_small (reg Saved n) v = omega arith
number_small (reg Temporary n) v = omega arith

-- What is read of the banks after a write.

set_other : (b c : Bank) (n j v : ℕ) (x : Registers) → (first c + j ≡ first b + n → ⊥) → set (reg b n) v x c j ≡ x c j
set_other b c n j v x ne = go (both (eqb (first c) (first b)) (eqb j n)) refl
  where
    go : (t : Bool) → both (eqb (first c) (first b)) (eqb j n) ≡ t → pick t v (x c j) ≡ x c j
    go true e =
        let h = both_true (eqb (first c) (first b)) (eqb j n) e in
        let f : first c ≡ first b = eqb-true _ _ h.0 in
        let g : j ≡ n = eqb-true _ _ h.1 in
        absurd (ne (omega arith))
    go false e = refl

set_same : (b c : Bank) (n j v : ℕ) (x : Registers) → first c ≡ first b → j ≡ n → set (reg b n) v x c j ≡ v
set_same b c n j v x e f = ap (λ (t : Bool). pick (both t (eqb j n)) v (x c j)) (eq-eqb _ _ e) ∙ ap (λ (t : Bool). pick t v (x c j)) (eq-eqb _ _ f)

-- What is read of the list after a write.

list_same : (l : List ℕ) (r v : ℕ) → 0 < r → r < length l → register (set_register l r v) r ≡ v
unfolding register set_register
list_same l r v h k = rw (ne_eqb r 0 (λ e. omega arith)) (get_or-set_same l r v 0 k)

list_other : (l : List ℕ) (r j v : ℕ) → (j ≡ r → ⊥) → register (set_register l r v) j ≡ register l j
unfolding register set_register
list_other l r j v ne = ap (λ (w : ℕ). pick (eqb j 0) 0 w) (go (eqb r 0))
  where
    go : (t : Bool) → get_or (pick t l (L.set l r v)) j 0 ≡ get_or l j 0
    go true = refl
    go false = get_or-set_other l r j v 0 ne

-- no write changes x0
pub zero_kept : (l : List ℕ) (v : ℕ) → set_register l 0 v ≡ l
unfolding set_register
zero_kept l v = refl

pub record SameRegisters (x : Registers) (l : List ℕ) : Type 0 where
  pub reads : (r : Reg) → Valid r → register l (number r) ≡ get r x
  pub words : (r : Reg) → Valid r → get r x < 2 ^ 32
  pub count : length l ≡ register_count

pub written : {x : Registers} {l : List ℕ} (r : Reg) (v : ℕ) → SameRegisters x l → Valid r → v < 2 ^ 32 → SameRegisters (set r v x) (set_register l (number r) v)
unfolding set_register
written x0 v s ok h = s
written {x} {l} (reg b n) v s ok h = record { reads = reads; words = words; count = set_register_length l (first b + n) v ∙ s.count }
  where
    reads : (r : Reg) → Valid r → register (set_register l (first b + n) v) (number r) ≡ get r (set (reg b n) v x)
    reads x0 k = let p = first_positive b in list_other l (first b + n) 0 v (λ e. omega arith) ∙ s.reads x0 k
    reads (reg c j) k = go (ℕ_discrete (first c + j) (first b + n))
      where
        go : Dec (first c + j ≡ first b + n) → register (set_register l (first b + n) v) (first c + j) ≡ set (reg b n) v x c j
        go (yes e) =
            let p = first_positive b in
            let q : first b + n < 32 = number_small (reg b n) ok in
            let one : first c ≡ first b = one_bank c b j n k ok e in
            ap (λ (i : ℕ). register (set_register l (first b + n) v) i) e ∙ list_same l (first b + n) v (omega arith) (rw s.count q) ∙ sym (set_same b c n j v x one (omega arith))
        go (no ne) = list_other l (first b + n) (first c + j) v ne ∙ s.reads (reg c j) k ∙ sym (set_other b c n j v x ne)

    words : (r : Reg) → Valid r → get r (set (reg b n) v x) < 2 ^ 32
    words x0 k = omega arith
    words (reg c j) k = go (both (eqb (first c) (first b)) (eqb j n))
      where
        go : (t : Bool) → pick t v (x c j) < 2 ^ 32
        go true = h
        go false = s.words (reg c j) k
