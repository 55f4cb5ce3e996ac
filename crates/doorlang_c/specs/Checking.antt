-- What `doorlang_check` tells: how many elements the arrays of an accepted text have, or where the text is at fault.
use Rattle.std.specs.Prelude.{ℕ, Result, Ok, Err}
use Rattle.toolchain.specs.declared.refusals.Refusal.{Refusal}
use Rattle.toolchain.specs.Checking.{number_of}
use Rattle.doorlang_c.specs.Told.{Told, told, place_of}

pub record Figures : Type 0 where
  pub place : ℕ
  pub elements : ℕ

abbrev pub figures : ℕ → ℕ → Figures
figures p e = record { place = p; elements = e }

-- a refusal is its number, with the number of elements as it was; an accepted text is 0 and that number
unfoldable pub checked : Figures → Result ℕ Refusal → Told Figures
checked was (Err r) = told (number_of r) (figures (place_of r was.place) was.elements)
checked was (Ok n) = told 0 (figures was.place n)
