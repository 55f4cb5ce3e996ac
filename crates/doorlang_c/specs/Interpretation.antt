-- What `doorlang_interpret` tells: how the run ended, or where the text is at fault.
use Rattle.std.specs.Prelude.{ℕ, Result, Ok, Err}
use Rattle.interpreter.specs.declared.Outcome.{Outcome}
use Rattle.interpreter.specs.declared.Outcome.TheVariants.{Finished, Trapped, OutOfFuel}
use Rattle.interpreter.specs.declared.Ran.{Ran}
use Rattle.toolchain.specs.declared.refusals.Refusal.{Refusal}
use Rattle.toolchain.specs.Checking.{number_of}
use Rattle.doorlang_c.specs.Told.{Told, told, place_of}

-- document 01 §5: which outcome
abbrev pub end_of : Outcome → ℕ
end_of Finished = 0
end_of (Trapped n) = 1
end_of OutOfFuel = 2

-- the number of a trap
abbrev pub trap_of : Outcome → ℕ
trap_of Finished = 0
trap_of (Trapped n) = n
trap_of OutOfFuel = 0

pub record Figures : Type 0 where
  pub outcome : ℕ
  pub number : ℕ
  pub fuel_left : ℕ
  pub logged : ℕ
  pub place : ℕ

abbrev pub figures : ℕ → ℕ → ℕ → ℕ → ℕ → Figures
figures o n f l p = record { outcome = o; number = n; fuel_left = f; logged = l; place = p }

-- a refusal is its number, with the figures as they were, the place apart; a run is 0 and its figures
unfoldable pub interpreted : Figures → Result Ran Refusal → Told Figures
interpreted was (Err r) = told (number_of r) (figures was.outcome was.number was.fuel_left was.logged (place_of r was.place))
interpreted was (Ok r) = told 0 (figures (end_of r.outcome) (trap_of r.outcome) r.fuel r.logged was.place)
