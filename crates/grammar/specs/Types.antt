-- A type that was read, as other things that are read: nothing is written of it, and it tells its number.
use Rattle.std.specs.Prelude.{ℕ, Result, Option}
use Rattle.grammar.specs.Numbers.{number_of_type}
use Rattle.grammar.specs.declared.input.Read.{Read}
use Rattle.grammar.specs.declared.input.Fault.{Fault}
use Rattle.grammar.specs.declared.tree.ValueType.{ValueType}
use Rattle.grammar.specs.declared.types.TypeRead.{TypeRead}

-- 0 for none
abbrev pub number_of_result : Option ValueType → ℕ
number_of_result Option.None = 0
number_of_result (Option.Some t) = number_of_type t

abbrev pub told_type : Result (TypeRead ValueType) Fault → Result Read Fault
told_type (Result.Ok t) = Result.Ok (record { next = t.next; end = 0; told = number_of_type t.value_type })
told_type (Result.Err p) = Result.Err p

abbrev pub told_result : Result (TypeRead (Option ValueType)) Fault → Result Read Fault
told_result (Result.Ok t) = Result.Ok (record { next = t.next; end = 0; told = number_of_result t.value_type })
told_result (Result.Err p) = Result.Err p
