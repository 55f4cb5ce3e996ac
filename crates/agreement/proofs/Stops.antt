-- The stops that are none of the kind that is asked for.
use mathlib.Core.Path.{◌≡◌, refl}
use mathlib.Core.Bool.{false}
use Prim.Native.Nat.{ℕ}
use Rattle.processor.specs.declared.Status.{Status}
use Rattle.processor.specs.declared.Status.TheVariants.{Going, Exit, Trap, Fault, Limit}
use Rattle.agreement.specs.Agreement.{exits, faults}

pub others_exit : (s : Status) → (s ≡ Exit → ⊥) → false ≡ exits s
unfolding exits
others_exit Going h = refl
others_exit Exit h = absurd (h refl)
others_exit (Trap u) h = refl
others_exit (Fault n) h = refl
others_exit Limit h = refl

pub others_fault : (s : Status) → ((n : ℕ) → s ≡ Fault n → ⊥) → false ≡ faults s
unfolding faults
others_fault Going h = refl
others_fault Exit h = refl
others_fault (Trap u) h = refl
others_fault (Fault n) h = absurd (h n refl)
others_fault Limit h = refl
