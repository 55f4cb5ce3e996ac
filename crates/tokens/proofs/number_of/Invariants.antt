-- `number_of` meets its contract: the first digits are n and those that are left, and v and those that are left make their number.
use Rattle.std.proofs.Common.{◌≡◌, ◌+◌, ◌≤◌, length, drop}
use Rattle.language.specs.Tokens.{is_digit, span, decimal, largest_number}
use Rattle.tokens.proofs.number_of.Given as goal

abbrev pub invariant-loop-n : goal.invariant-loop-n
invariant-loop-n l = (length (span is_digit l.rest) ≡ l.n + length (span is_digit (drop l.n l.rest))) × (decimal 0 (span is_digit l.rest) ≡ decimal l.v (span is_digit (drop l.n l.rest))) × (l.v ≤ largest_number)
