-- A typed name, and its three words.
use mathlib.Core.Path.{refl}
use Rattle.grammar.proofs.Steps.{exits}
use Rattle.grammar.proofs.ItemLaws.{param_done, param_bad}
use Rattle.grammar.proofs.program.param.Goals as goal

pub returns-in_err-t : goal.returns-in_err-t
returns-in_err-t c = exits c.from_residual.ensures.1 refl (param_bad _ c.in_err-t.ensures.by)

pub returns : goal.returns
returns c = param_done _ c.in_ok-t.ensures.by c.place-p.ensures c.value-x.ensures (rw c.from.ensures at c.put-end.ensures.written) c.put-end.ensures.end
