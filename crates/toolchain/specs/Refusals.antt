-- Where the code's refusals come from, and the number of any answer; which number a refusal is, `Checking.antt` says.
use Rattle.std.specs.Prelude.{ℕ, Result, Ok, Err}
use Rattle.tokens.specs.declared.Unread as T
use Rattle.tokens.specs.declared.Unread.TheVariants as U
use Rattle.emulator.specs.declared.image.Refusal as E
use Rattle.emulator.specs.declared.image.Refusal.TheVariants as R
use Rattle.toolchain.specs.declared.refusals.Refusal.{Refusal}
use Rattle.toolchain.specs.declared.refusals.Refusal.TheVariants.{Unreadable, Code, Input, Room}
use Rattle.toolchain.specs.Checking.{number_of}

-- the number of an answer: 0 where it doesn't refuse
abbrev pub answer_in : {T : Type 0} → Result T Refusal → ℕ
answer_in (Ok t) = 0
answer_in (Err r) = number_of r

-- what refuses a text as it is read, and a run, is the same here

abbrev pub from_reading : T.Unread → Refusal
from_reading (U.Unreadable at) = Unreadable at
from_reading U.NoRoom = Room

abbrev pub from_run : E.Refusal → Refusal
from_run R.Code = Code
from_run R.Input = Input
from_run R.Room = Room
