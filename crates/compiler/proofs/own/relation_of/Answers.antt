-- Only a strict operator is one branch.
use Rattle.compiler.proofs.Numbered.{tells, denies}
use Rattle.compiler.proofs.Placing.{relation_strict, relation_none}
use Rattle.compiler.proofs.own.relation_of.Goals as goal

pub returns-then-is_kind : goal.returns-then-is_kind
returns-then-is_kind c = relation_strict (tells c.is_kind.ensures c.if-is_kind.true) c.strict_operator-o.ensures c.relation.ensures

pub returns : goal.returns
returns c = relation_none (denies c.is_kind.ensures c.if-is_kind.false)
