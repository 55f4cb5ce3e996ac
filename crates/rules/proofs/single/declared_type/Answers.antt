-- By the kind.
use mathlib.Core.Path.{sym, ap, ◌∙◌}
use Rattle.grammar.specs.Numbers.{number_of_statement}
use Rattle.rules.specs.Statements.{declared_type}
use Rattle.rules.proofs.Sorts as L
use Rattle.rules.proofs.single.declared_type.Goals as goal

pub returns-in_default : goal.returns-in_default
returns-in_default g c = L.declares_nothing c.in_default.ensures

pub returns-in-DeclareBool : goal.returns-in-DeclareBool
returns-in-DeclareBool g c = L.declares_bool (ap number_of_statement (sym c.in-DeclareBool.is) ∙ c.in-Some.ensures)

pub returns-in_default-kind : goal.returns-in_default-kind
returns-in_default-kind g c = L.declares_int _ c.in_default-kind.not-DeclareBool ∙ ap declared_type c.in-Some.ensures
