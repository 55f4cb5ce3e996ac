-- Locals after a statement: those that were visible stay, and one more is there after a `let`.
use mathlib.Core.Path.{refl}
use mathlib.Core.List.{List}
use Prim.Native.Nat.{ℕ, ◌+◌, ◌<◌}
use native.Mathlib.Omega.{arith}
use Rattle.language.specs.Rules.{most_locals}
use Rattle.std.specs.Prelude.{Ok, Err}
use Rattle.rules.specs.declared.names.Local as N
use Rattle.rules.specs.declared.Broken.{Broken}
use Rattle.rules.specs.Values.{Enters, scope_at}
use Rattle.rules.specs.Statements.{Moves}

pub stays : (l count : ℕ) (locals : List ℕ) → Moves l count locals (Ok (scope_at l count)) locals
stays l count locals = record { kept = λ i h. refl; within = record { visible = omega arith; counted = omega arith; among = λ h. h; few = λ h. h } }

pub stuck : (l count : ℕ) (b : Broken) (locals : List ℕ) → Moves l count locals (Err b) locals
stuck l count b locals = record { kept = λ i h. refl; within = tt }

pub one_more : {locals locals' : List ℕ} (l count : ℕ) {x : N.Local} → count < most_locals → Enters locals l x locals' → Moves l count locals (Ok (scope_at (l + 1) (count + 1))) locals'
one_more l count h e = record { kept = e.before; within = record { visible = omega arith; counted = omega arith; among = λ k. omega (arith, k); few = λ k. omega (arith, h) } }
