-- A word as people read it: a blank, a dash if it stands for a negative number, and the fewest decimal digits of its magnitude.
use Rattle.std.specs.Prelude.{ℕ, ◌≤◌, ◌≡◌, List, [], ◌∷◌, ◌++◌, length, take}
use Rattle.io.specs.Digits.{last_digits, IsDigitCount}
use Rattle.word.specs.Choice.{pick}
use Rattle.word.specs.Word.{negative, magnitude}

abbrev pub sign : ℕ → List ℕ
sign w = pick (negative w) (32 ∷ 45 ∷ []) (32 ∷ [])

-- the first n bytes are the word's
pub record Shows (w n : ℕ) (out : List ℕ) : Type 0 where
  pub within : n ≤ length out
  pub places : ℕ
  pub fewest : IsDigitCount 10 1 (magnitude w) places
  pub text : take n out ≡ sign w ++ last_digits 10 places (magnitude w)
