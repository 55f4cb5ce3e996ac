-- How a run with a limit shows the state that the symbolic processor is in, and what that says of it.
use Prim.Native.Nat.{ℕ}
use mathlib.Core.Path.{◌≡◌, refl}
use native.Mathlib.Omega.{arith}
use Rattle.processor.specs.declared.Status.{Status}
use Rattle.processor.specs.declared.Status.TheVariants.{Going, Exit, Trap, Fault, Limit}
use Rattle.symbolic.proofs.Instructions.{NoFault}
use Rattle.symbolic.proofs.Runs.{Stopped}

abbrev pub shown : Status → Status
shown Going = Limit
shown Exit = Exit
shown (Trap t) = Trap t
shown (Fault n) = Fault n
shown Limit = Limit

-- what a stop that is shown says of the symbolic processor
pub shown_exit : (s : Status) → shown s ≡ Exit → s ≡ Exit
shown_exit Going e = cc
shown_exit Exit e = e
shown_exit (Trap t) e = e
shown_exit (Fault n) e = e
shown_exit Limit e = e

pub shown_trap : (s : Status) (t : ℕ) → shown s ≡ Trap t → s ≡ Trap t
shown_trap Going t e = cc
shown_trap Exit t e = e
shown_trap (Trap u) t e = e
shown_trap (Fault n) t e = e
shown_trap Limit t e = e

pub shown_stopped : (s : Status) → Stopped s → shown s ≡ s
shown_stopped Going h = absurd h
shown_stopped Exit h = refl
shown_stopped (Trap t) h = refl
shown_stopped (Fault n) h = refl
shown_stopped Limit h = refl

pub shown_no_fault : (s : Status) (f : ℕ) → NoFault s → shown s ≡ Fault f → ⊥
shown_no_fault Going f h e = let z : ◌≡◌ {A = ℕ} 0 1 = cc in omega arith
shown_no_fault Exit f h e = let z : ◌≡◌ {A = ℕ} 0 1 = cc in omega arith
shown_no_fault (Trap t) f h e = let z : ◌≡◌ {A = ℕ} 0 1 = cc in omega arith
shown_no_fault (Fault n) f h e = h
shown_no_fault Limit f h e = let z : ◌≡◌ {A = ℕ} 0 1 = cc in omega arith
