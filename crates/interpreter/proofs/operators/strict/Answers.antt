-- Each operator's word is what its definition gives; past the table there is none.
use Rattle.interpreter.proofs.Operate as L
use Rattle.interpreter.proofs.operators.strict.Goals as goal

pub returns-in-Eq : goal.returns-in-Eq
returns-in-Eq c = L.is_eq c.in_ok-try_from.ensures c.in-Eq.is c.bit_of.ensures

pub returns-in-Ne : goal.returns-in-Ne
returns-in-Ne c = L.is_ne c.in_ok-try_from.ensures c.in-Ne.is c.bit_of-in-Ne.ensures

pub returns-in-Lt : goal.returns-in-Lt
returns-in-Lt c = L.is_lt c.in_ok-try_from.ensures c.in-Lt.is c.less_signed.ensures c.bit_of-in-Lt.ensures

pub returns-in-Le : goal.returns-in-Le
returns-in-Le c = L.is_le c.in_ok-try_from.ensures c.in-Le.is c.less_signed-in-Le.ensures c.bit_of-in-Le.ensures

pub returns-in-Gt : goal.returns-in-Gt
returns-in-Gt c = L.is_gt c.in_ok-try_from.ensures c.in-Gt.is c.less_signed-in-Gt.ensures c.bit_of-in-Gt.ensures

pub returns-in-Ge : goal.returns-in-Ge
returns-in-Ge c = L.is_ge c.in_ok-try_from.ensures c.in-Ge.is c.less_signed-in-Ge.ensures c.bit_of-in-Ge.ensures

pub returns-in-Add : goal.returns-in-Add
returns-in-Add c = L.is_add c.in_ok-try_from.ensures c.in-Add.is c.add.ensures

pub returns-in-Sub : goal.returns-in-Sub
returns-in-Sub c = L.is_sub c.in_ok-try_from.ensures c.in-Sub.is c.sub.ensures

pub returns-in-Mul : goal.returns-in-Mul
returns-in-Mul c = L.is_mul c.in_ok-try_from.ensures c.in-Mul.is c.mul.ensures

pub returns-then-b-eq0 : goal.returns-then-b-eq0
returns-then-b-eq0 c = L.div_by_zero c.in_ok-try_from.ensures c.in-Div.is c.if-b-eq0.true

pub returns-else-b-eq0 : goal.returns-else-b-eq0
returns-else-b-eq0 c = L.is_div c.in_ok-try_from.ensures c.in-Div.is c.if-b-eq0.false c.quotient_signed.ensures

pub returns-then-b-eq0-2 : goal.returns-then-b-eq0-2
returns-then-b-eq0-2 c = L.rem_by_zero c.in_ok-try_from.ensures c.in-Rem.is c.if-b-eq0-2.true

pub returns-else-b-eq0-2 : goal.returns-else-b-eq0-2
returns-else-b-eq0-2 c = L.is_rem c.in_ok-try_from.ensures c.in-Rem.is c.if-b-eq0-2.false c.remainder_signed.ensures

pub returns-in_err-try_from : goal.returns-in_err-try_from
returns-in_err-try_from c = L.unknown_strict _ c.in_err-try_from.ensures.1 c.from_residual.ensures.1
