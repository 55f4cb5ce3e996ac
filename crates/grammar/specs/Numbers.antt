-- The numbers of the kinds that src/tree.rt names, which are those of the flat form; and what reading one back gives.
use Rattle.std.specs.Prelude.{◌≡◌, ℕ, ◌<◌, ◌⊎◌, Result, MatchResult}
use Rattle.grammar.specs.Flat.{number_item, name_item, element_item, call_item, unary_item, strict_item, and_item, or_item, join_item, truth_item, assign_kind, store_kind, choose_kind, while_kind, leave_kind, give_kind, emit_kind, run_kind, when_kind, array_kind, function_kind}
use Rattle.grammar.specs.declared.tree.Item.{Item}
use Rattle.grammar.specs.declared.tree.Item.TheVariants as item
use Rattle.grammar.specs.declared.tree.Statement.{Statement}
use Rattle.grammar.specs.declared.tree.Statement.TheVariants as statement
use Rattle.grammar.specs.declared.tree.Declaration.{Declaration}
use Rattle.grammar.specs.declared.tree.Declaration.TheVariants as declaration
use Rattle.grammar.specs.declared.tree.ValueType.{ValueType}
use Rattle.grammar.specs.declared.tree.ValueType.TheVariants as value_type
use Rattle.flat.specs.declared.UnknownNumber.{UnknownNumber}

abbrev pub number_of_item : Item → ℕ
number_of_item item.Number = number_item
number_of_item item.Name = name_item
number_of_item item.Element = element_item
number_of_item item.Call = call_item
number_of_item item.Unary = unary_item
number_of_item item.Strict = strict_item
number_of_item item.And = and_item
number_of_item item.Or = or_item
number_of_item item.Join = join_item
number_of_item item.Truth = truth_item

abbrev pub number_of_statement : Statement → ℕ
number_of_statement statement.Assign = assign_kind
number_of_statement statement.Store = store_kind
number_of_statement statement.Choose = choose_kind
number_of_statement statement.While = while_kind
number_of_statement statement.Leave = leave_kind
number_of_statement statement.Give = give_kind
number_of_statement statement.Emit = emit_kind
number_of_statement statement.Run = run_kind
number_of_statement statement.When = when_kind
number_of_statement statement.DeclareInt = 9
number_of_statement statement.DeclareBool = 10

abbrev pub number_of_declaration : Declaration → ℕ
number_of_declaration declaration.Array = array_kind
number_of_declaration declaration.Function = function_kind

abbrev pub number_of_type : ValueType → ℕ
number_of_type value_type.Int = 1
number_of_type value_type.Bool = 2

-- the kind whose number it is; or the number, which is no kind's

abbrev pub ReadsItem : ℕ → Result Item UnknownNumber → Type 0
ReadsItem n r = MatchResult r (λ k. number_of_item k ≡ n) (λ e. (e.0 ≡ n) × (truth_item < n))

abbrev pub ReadsStatement : ℕ → Result Statement UnknownNumber → Type 0
ReadsStatement n r = MatchResult r (λ k. number_of_statement k ≡ n) (λ e. (e.0 ≡ n) × (10 < n))

abbrev pub ReadsDeclaration : ℕ → Result Declaration UnknownNumber → Type 0
ReadsDeclaration n r = MatchResult r (λ k. number_of_declaration k ≡ n) (λ e. (e.0 ≡ n) × (function_kind < n))

abbrev pub ReadsType : ℕ → Result ValueType UnknownNumber → Type 0
ReadsType n r = MatchResult r (λ k. number_of_type k ≡ n) (λ e. (e.0 ≡ n) × ((n < 1) ⊎ (2 < n)))
