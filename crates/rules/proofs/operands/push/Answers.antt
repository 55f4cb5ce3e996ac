-- One more above those that stay.
use mathlib.Core.Path.{ap, ◌∙◌}
use Rattle.rules.specs.Tables.{type_of}
use Rattle.rules.proofs.Stacks as L
use Rattle.rules.proofs.operands.push.Goals as goal

pub returns : goal.returns
returns g c = L.pushed _ _ _ _ _ (ap type_of c.number.ensures ∙ g.met.T.Typed.read_back c.args.operand.ty) c.saturating_sub-at.ensures c.requires.0 c.requires.1
