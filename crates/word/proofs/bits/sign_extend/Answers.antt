-- Flipping the top bit and taking its weight away is the definition, by the law of Extend.
use Rattle.word.proofs.Extend.{extended}
use mathlib.Core.Path.{◌∙◌}
use Rattle.word.proofs.bits.sign_extend.Goals as goal

pub returns : goal.returns
returns c = c.sub.ensures ∙ extended _ c.requires.0 c.requires.1 _ c.requires.2
