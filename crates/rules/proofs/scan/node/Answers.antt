-- One arm for each kind's number.
use mathlib.Core.Path.{refl, sym, ap, ◌∙◌}
use Rattle.grammar.specs.Numbers.{number_of_item}
use mathlib.Core.Option.{some}
use native.Mathlib.Omega.{arith}
use Rattle.rules.specs.Scan.{Node}
use Rattle.rules.proofs.Making as L
use Rattle.rules.proofs.scan.node.Goals as goal

pub returns-in-Number : goal.returns-in-Number
returns-in-Number c = L.a_number _ _ _ _ _ _ _ _ (sym c.in-Ok.ensures ∙ ap number_of_item c.in-Number.is) (ap (λ (n : Node). some n) c.leaf.ensures)

pub returns-in-Name : goal.returns-in-Name
returns-in-Name c = L.a_name _ _ _ _ _ _ _ _ (sym c.in-Ok.ensures ∙ ap number_of_item c.in-Name.is) c.name.ensures

pub returns-in-Element : goal.returns-in-Element
returns-in-Element c = L.an_element _ _ _ _ _ _ _ _ (sym c.in-Ok.ensures ∙ ap number_of_item c.in-Element.is) c.top-y.ensures.is c.element.ensures

pub returns-in-Call : goal.returns-in-Call
returns-in-Call c = L.a_call _ _ _ _ _ _ _ _ (sym c.in-Ok.ensures ∙ ap number_of_item c.in-Call.is) c.call.ensures

pub returns-in-Unary : goal.returns-in-Unary
returns-in-Unary c = L.a_unary _ _ _ _ _ _ _ _ (sym c.in-Ok.ensures ∙ ap number_of_item c.in-Unary.is) c.top-y.ensures.is c.unary.ensures

pub returns-in-Strict : goal.returns-in-Strict
returns-in-Strict c = L.a_strict _ _ _ _ _ _ _ _ (sym c.in-Ok.ensures ∙ ap number_of_item c.in-Strict.is) c.top-y.ensures.is c.top-x.ensures.is (c.strict.ensures _)

pub returns-in-And : goal.returns-in-And
returns-in-And c = L.an_and _ _ _ _ _ _ _ _ (sym c.in-Ok.ensures ∙ ap number_of_item c.in-And.is) c.top-y.ensures.is (ap (λ (n : Node). some n) c.mark.ensures)

pub returns-in-Or : goal.returns-in-Or
returns-in-Or c = L.an_or _ _ _ _ _ _ _ _ (sym c.in-Ok.ensures ∙ ap number_of_item c.in-Or.is) c.top-y.ensures.is (ap (λ (n : Node). some n) c.mark-in-Or.ensures)

pub returns-in-Join : goal.returns-in-Join
returns-in-Join c = L.a_join _ _ _ _ _ _ _ _ (sym c.in-Ok.ensures ∙ ap number_of_item c.in-Join.is) c.top-y.ensures.is c.top-x.ensures.is (c.join.ensures _)

pub returns-in-Truth : goal.returns-in-Truth
returns-in-Truth c = L.a_truth _ _ _ _ _ _ _ _ (sym c.in-Ok.ensures ∙ ap number_of_item c.in-Truth.is) (ap (λ (n : Node). some n) c.leaf-in-Truth.ensures)

pub returns-in_default : goal.returns-in_default
returns-in_default c = L.no_kind _ _ _ _ _ _ _ _ (omega (arith, c.in_default.ensures.1)) refl
