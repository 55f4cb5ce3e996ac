-- Each operator's word is what its definition gives; past the table there is none.
use Rattle.interpreter.proofs.Operate as L
use Rattle.interpreter.proofs.operators.unary.Goals as goal

pub returns-in_err-try_from : goal.returns-in_err-try_from
returns-in_err-try_from c = L.unknown_unary _ c.in_err-try_from.ensures.1 c.from_residual.ensures.1

pub returns-in-Negate : goal.returns-in-Negate
returns-in-Negate c = L.is_negate c.in_ok-try_from.ensures c.in-Negate.is c.neg.ensures

pub returns-in-Not : goal.returns-in-Not
returns-in-Not c = L.is_not c.in_ok-try_from.ensures c.in-Not.is c.bit_of.ensures
