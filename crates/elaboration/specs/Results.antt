-- Functions with a result type always return: document 01 §4 of a program's functions and the items that declare them.
use Rattle.std.specs.Prelude.{ℕ, List, [], ◌∷◌, get_or}
use Rattle.std.proofs.Math.Option.{Option, none, some}
use Rattle.language.specs.Tree.{Ty, Item, array, function}
use Rattle.language.specs.Core.{Block, Function}
use Rattle.codegen.specs.Owed.{nothing}
use Rattle.elaboration.specs.Settled.{Gives}

-- the result type of each function, if it has one, in order of declaration
unfoldable pub results : List Item → List (Option Ty)
results [] = []
results (array at x n ∷ is) = results is
results (function at x ps r b ∷ is) = r ∷ results is

-- a body under this result type
abbrev pub Returns : Option Ty → Block → Type 0
Returns none body = Unit {0}
Returns (some t) body = Gives body

-- every function's body under the result type that it was declared with
pub record Returning (items : List Item) (functions : List Function) : Type 0 where
  pub each : (f : ℕ) → Returns (get_or (results items) f none) (get_or functions f nothing).body
