-- Where a byte of a text stands: lines and columns count from 1, and a line feed ends its line.
use Rattle.std.specs.Prelude.{ℕ, ◌+◌, List, [], ◌∷◌, eqb}
use Rattle.word.specs.Choice.{pick}
use Rattle.console.specs.declared.place.Place.{Place}

abbrev pub at : ℕ → ℕ → Place
at l c = record { line = l; column = c }

unfoldable pub after_byte : ℕ → Place → Place
after_byte b p = pick (eqb b 10) (at (p.line + 1) 1) (at p.line (p.column + 1))

unfoldable pub after_all : List ℕ → Place → Place
after_all [] p = p
after_all (b ∷ bs) p = after_all bs (after_byte b p)

unfoldable pub place_after : List ℕ → Place
place_after text = after_all text (at 1 1)
