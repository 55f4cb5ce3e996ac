-- `length_of` meets its contract: from where the loop is, the span still ends at the same byte.
use Rattle.std.proofs.Common.{◌≡◌, Bool, ℕ, ◌+◌, ◌<◌, length, drop}
use Rattle.language.specs.Tokens.{span}
use Rattle.tokens.proofs.length_of.Given as goal

abbrev pub invariant-loop-i : goal.invariant-loop-i
invariant-loop-i g l = (P : ℕ → Bool) → ((b : ℕ) (r : Bool) → b < 256 → goal.F-post g l.fn.may_stand b r → r ≡ P b) → length (span P l.rest) ≡ l.i + length (span P (drop l.i l.rest))
