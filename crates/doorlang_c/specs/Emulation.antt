-- What `doorlang_emulate` tells: how the run stopped.
use Rattle.std.specs.Prelude.{ℕ, Result, Ok, Err}
use Rattle.emulator.specs.declared.run.Ended.{Ended}
use Rattle.emulator_c.specs.Told.{stop_of, number_of}
use Rattle.toolchain.specs.declared.refusals.Refusal.{Refusal}
use Rattle.toolchain.specs.Checking.{number_of as refused_by}
use Rattle.doorlang_c.specs.Told.{Told, told}

pub record Figures : Type 0 where
  pub stop : ℕ
  pub number : ℕ
  pub pc : ℕ
  pub steps : ℕ
  pub logged : ℕ

abbrev pub figures : ℕ → ℕ → ℕ → ℕ → ℕ → Figures
figures s n p c l = record { stop = s; number = n; pc = p; steps = c; logged = l }

-- a refusal is its number, with the figures as they were; a run is 0 and its figures
unfoldable pub emulated : Figures → Result Ended Refusal → Told Figures
emulated was (Err r) = told (refused_by r) was
emulated was (Ok e) = told 0 (figures (stop_of e.status) (number_of e.status) e.pc e.steps e.logged)
