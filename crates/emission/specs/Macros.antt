-- What the functions for the pieces of code that `codegen` is made of ensure: a register is given by its number.
use Rattle.std.specs.Prelude as Std
use Rattle.std.specs.Prelude.{ℕ, ◌≡◌, List, Some, None}
use Rattle.std.proofs.Math.Option.{Option, none, some}
use Rattle.processor.specs.declared.Instr.{Instr}
use Rattle.language.specs.Core.{Array}
use Rattle.symbolic.specs.Symbolic.{Reg, number, Instruction}
use Rattle.symbolic.specs.Real.{real}
use Rattle.codegen.specs.Places as P
use Rattle.codegen.specs.Operators as O
use Rattle.emission.specs.declared.Place.{Place}
use Rattle.emission.specs.declared.Place.TheVariants.{Constant, Local, Temporary}
use Rattle.emission.specs.declared.Work.{Work}
use Rattle.emission.specs.declared.Work.TheVariants.{Plain, Divided, Tested}
use Rattle.emission.specs.declared.Array as D
use Rattle.emission.specs.declared.image.Service as S
use Rattle.emission.specs.declared.image.Service.TheVariants as SV
use Rattle.emission.specs.Tape.{Emits}

abbrev pub placed : Place → P.Place
placed (Constant n) = P.constant n
placed (Local y) = P.local y
placed (Temporary d) = P.temporary d

-- code about one register, and about two
pub record EmitsAt (code : Reg → List Instruction) (n : ℕ) (at : ℕ) (ws ws' : List ℕ) (r : ℕ) : Type 0 where
  pub each : (p : Reg) → number p ≡ n → Emits (code p) at ws ws' r

pub record EmitsFor (code : Reg → Reg → List Instruction) (m n : ℕ) (at : ℕ) (ws ws' : List ℕ) (r : ℕ) : Type 0 where
  pub each : (p q : Reg) → number p ≡ m → number q ≡ n → Emits (code p q) at ws ws' r

-- code about one instruction, which stands at any position
pub record EmitsOne (code : Instruction → List Instruction) (i : Instr) (at : ℕ) (ws ws' : List ℕ) (r : ℕ) : Type 0 where
  pub each : (x : Instruction) → ((k : ℕ) → real k x ≡ i) → Emits (code x) at ws ws' r

-- code that is the same wherever functions begin
pub record EmitsAny (code : (ℕ → ℕ) → List Instruction) (at : ℕ) (ws ws' : List ℕ) (r : ℕ) : Type 0 where
  pub each : (entry : ℕ → ℕ) → Emits (code entry) at ws ws' r

-- an array, by its offset and its size
abbrev pub array : ℕ → ℕ → Array
array o s = record { offset = o; size = s }

-- the types of src/lib.rt, as codegen's

abbrev pub arrayed : D.Array → Array
arrayed a = array a.offset a.size

abbrev pub service_number : S.Service → ℕ
service_number SV.Exit = 0
service_number SV.Log = 1
service_number SV.Trap = 2

abbrev pub worked : Work → O.Work
worked (Plain o t) = O.plain o t
worked (Divided o) = O.divided o
worked (Tested c t) = O.tested c t

-- what is there or not, as codegen says it
abbrev pub optional : {A : Type 0} → Std.Option A → Option A
optional (Some x) = some x
optional None = none
