-- Each kind of item, by its operator.
use mathlib.Core.Path.{sym, ap}
use Rattle.grammar.specs.Operator.{binary_of}
use Rattle.grammar.specs.Told.{item_kind}
use Rattle.grammar.proofs.operators.Operation.item.Goals as goal

pub returns-in-Strict : goal.returns-in-Strict
unfolding item_kind
returns-in-Strict c = sym (ap (λ o. item_kind (binary_of o)) c.in-Strict.is)

pub returns-in-And : goal.returns-in-And
unfolding item_kind
returns-in-And c = sym (ap (λ o. item_kind (binary_of o)) c.in-And.is)

pub returns-in-Or : goal.returns-in-Or
unfolding item_kind
returns-in-Or c = sym (ap (λ o. item_kind (binary_of o)) c.in-Or.is)
