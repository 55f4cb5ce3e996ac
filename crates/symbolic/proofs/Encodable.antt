-- An instruction that is fine is one that has a word, wherever in the code it stands.
use Prim.Native.Nat.{ℕ, ◌+◌, ◌-◌, ◌<◌}
use mathlib.Core.Path.{refl}
use native.Mathlib.Omega.{arith}
use Rattle.processor.specs.Instructions.{WellFormed}
use Rattle.symbolic.specs.Symbolic.{Instruction, lui, opi, shift, mv, op, lw, sw, branch, branch_back, jump, jump_back, call, ret, ecall, bad}
use Rattle.symbolic.specs.Real.{real}
use Rattle.symbolic.specs.Fine.{Fine, most_instructions}
use Rattle.symbolic.proofs.Registers.{number_small}
use Rattle.symbolic.proofs.Immediates.{small12}
use Rattle.symbolic.proofs.Distances.{branch_holds, jump_holds}

pub encodable : (k : ℕ) (i : Instruction) → k < most_instructions → Fine i → WellFormed (real k i)
unfolding Fine WellFormed
encodable k (lui r n) h f = (number_small r f.0, f.1)
encodable k (opi o r q n) h f = (f.0, number_small r f.1, number_small q f.2, f.3)
encodable k (shift o r q n) h f = (f.0, number_small r f.1, number_small q f.2, f.3)
encodable k (mv r q) h f = (refl, number_small r f.0, number_small q f.1, small12 0 (omega arith))
encodable k (op o r p q) h f = (number_small r f.0, number_small p f.1, number_small q f.2)
encodable k (lw r q n) h f = (number_small r f.0, number_small q f.1, f.2)
encodable k (sw r q n) h f = (refl, number_small q f.1, number_small r f.0, f.2)
encodable k (branch c p q n) h f = let d = branch_holds k (k + n) (omega arith) (omega (arith, f.2)) (omega (arith, f.2)) (omega arith) in (number_small p f.0, number_small q f.1, d.0, d.1)
encodable k (branch_back c p q n) h f = let d = branch_holds k (k - n) (omega arith) (omega arith) (omega arith) (omega (arith, f.2)) in (number_small p f.0, number_small q f.1, d.0, d.1)
encodable k (jump n) h f = let d = jump_holds k (k + n) (omega arith) (omega arith) (omega arith) (omega arith) in (omega arith, d.0, d.1)
encodable k (jump_back n) h f = let d = jump_holds k (k - n) (omega arith) (omega arith) (omega arith) (omega arith) in (omega arith, d.0, d.1)
encodable k (call t) h f = let d = jump_holds k t (omega arith) (omega arith) (omega arith) (omega arith) in (omega arith, d.0, d.1)
encodable k ret h f = (omega arith, omega arith, small12 0 (omega arith))
encodable k ecall h f = tt
encodable k bad h f = f
