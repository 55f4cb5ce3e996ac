-- By the function's result.
use Rattle.rules.proofs.Stating as L
use Rattle.rules.proofs.Moving as M
use mathlib.Core.Path.{sym, ◌∙◌}
use Rattle.rules.proofs.single.leave.Goals as goal

pub returns-then-is_some : goal.returns-then-is_some
returns-then-is_some g c = record { leaves = L.leave_wrong _ _ _ _ _ (sym c.named.ensures ∙ L.some_result _ (sym c.is_some.ensures ∙ c.if-is_some.true)); by_index = λ locals. M.stuck _ _ _ locals }

pub returns : goal.returns
returns g c = record { leaves = L.leave_next _ _ _ _ _ (sym c.named.ensures ∙ L.no_result _ (sym c.is_some.ensures ∙ c.if-is_some.false)) c.write.ensures; by_index = λ locals. M.stays _ _ locals }
