-- The numbers of the refusals (document 03 §5).
use Rattle.std.specs.Prelude.{ℕ, Result, Ok, Err}
use Rattle.processor.specs.Image.{accepted}
use Rattle.emulator.specs.declared.image.Refusal.{Refusal}
use Rattle.emulator.specs.declared.image.Refusal.TheVariants.{Code, Input, Room}

-- "answer 4 if the code isn't whole words or is longer than that, 5 if the input block .., 6 if the memory or log lent is shorter"
abbrev pub number_of : Refusal → ℕ
number_of Code = 4
number_of Input = 5
number_of Room = 6

abbrev pub answer_number : {A : Type 0} → Result A Refusal → ℕ
answer_number (Ok a) = accepted
answer_number (Err refusal) = number_of refusal
