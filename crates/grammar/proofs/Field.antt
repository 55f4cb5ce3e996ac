-- Where a token's word is not 0, there is such a token; past the last each is 0.
use mathlib.Core.Path.{◌≡◌}
use mathlib.Core.List.{List}
use Prim.Native.Nat.{ℕ, ◌≤◌, ◌<◌}
use native.Mathlib.Omega.{arith}
use lib.Dec.{ltb}
use borrow.Author.Tests.{ltb-true, le-ltb}
use Rattle.tokens.proofs.Lists.{pick_g}
use Rattle.grammar.specs.Told.{field_of}

pub field_there : (ts : List ℕ) (n i k : ℕ) → 0 < field_of ts n i k → i < n
unfolding field_of
field_there ts n i k = pick_g (λ (v : ℕ). 0 < v → i < n) (ltb i n) _ 0 (λ b _. ltb-true i n b) (λ b z. absurd (omega arith))

pub field_past : (ts : List ℕ) (n i k : ℕ) → n ≤ i → field_of ts n i k ≡ 0
unfolding field_of
field_past ts n i k h = rw (le-ltb i n h)
