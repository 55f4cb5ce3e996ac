-- By the entries that are found.
use mathlib.Core.Path.{sym, ◌∙◌}
use Rattle.rules.proofs.Stating as L
use Rattle.rules.proofs.single.fresh.Goals as goal

pub returns-then-is_some : goal.returns-then-is_some
returns-then-is_some c = L.named_global _ _ _ c.find_global.ensures (sym c.is_some.ensures ∙ c.if-is_some.true)

pub returns : goal.returns
returns c = L.named_local _ _ _ c.find_global.ensures (sym c.is_some.ensures ∙ c.if-is_some.false) _ c.find_local.ensures c.is_none.ensures
