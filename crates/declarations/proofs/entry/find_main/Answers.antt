-- By the name's bytes.
use Rattle.std.proofs.Common.{rules}
use Rattle.declarations.proofs.entry.find_main.Goals as goal

pub returns : goal.returns
returns c = c.find.ensures.by _ (λ n b u v q. search rules)
