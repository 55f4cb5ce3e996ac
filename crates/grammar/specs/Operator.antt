-- What the code holds of an operator is what the operators' table says of a kind of token.
use Rattle.std.specs.Prelude.{◌≡◌, List, ℕ, ◌<◌, Option}
use Rattle.language.specs.Tree.{Binary}
use Rattle.flat.specs.Numbers.{strict_of}
use Rattle.grammar.specs.Parse.{level_of, means_of}
use Rattle.grammar.specs.Told.{field_of}
use Rattle.grammar.specs.declared.operators.Operation.{Operation}
use Rattle.grammar.specs.declared.operators.Operation.TheVariants as operation
use Rattle.grammar.specs.declared.operators.Operator.{Operator}

-- the operator between two sides that it is
abbrev pub binary_of : Operation → Binary
binary_of (operation.Strict s) = Binary.strict (strict_of s)
binary_of operation.And = Binary.and
binary_of operation.Or = Binary.or

pub record Operates (k : ℕ) (o : Operator) : Type 0 where
  pub level : level_of k ≡ o.level
  pub means : binary_of o.operation ≡ means_of k

-- the operator that a kind is; none, where it is no operator's
abbrev pub OperatorOf : ℕ → Option Operator → Type 0
OperatorOf k Option.None = level_of k ≡ 0
OperatorOf k (Option.Some o) = Operates k o

-- the operator at token i, of level l; none, where that token is none of that level
abbrev pub OperatorAt : List ℕ → ℕ → ℕ → ℕ → Option Operator → Type 0
OperatorAt ts n i l Option.None = level_of (field_of ts n i 0) ≡ l → ⊥
OperatorAt ts n i l (Option.Some o) = Operates (field_of ts n i 0) o × (o.level ≡ l) × (i < n)
