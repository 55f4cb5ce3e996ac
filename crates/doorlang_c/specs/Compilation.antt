-- What `doorlang_compile` tells: the image's size in bytes, or where the text is at fault.
use Rattle.std.specs.Prelude.{ℕ, Result, Ok, Err}
use Rattle.toolchain.specs.declared.refusals.Refusal.{Refusal}
use Rattle.toolchain.specs.Checking.{number_of}
use Rattle.doorlang_c.specs.Told.{Told, told, place_of}

pub record Figures : Type 0 where
  pub size : ℕ
  pub place : ℕ

abbrev pub figures : ℕ → ℕ → Figures
figures s p = record { size = s; place = p }

-- a refusal is its number, with the size as it was; an image is 0 and its size
unfoldable pub compiled : Figures → Result ℕ Refusal → Told Figures
compiled was (Err r) = told (number_of r) (figures was.size (place_of r was.place))
compiled was (Ok n) = told 0 (figures n was.place)
