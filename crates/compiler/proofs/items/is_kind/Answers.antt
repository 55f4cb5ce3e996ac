-- The number is the kind's.
use Prim.Native.Nat.{ℕ, ◌-◌}
use mathlib.Core.Path.{ap, ◌∙◌}
use denote.Enum.Declared.{tag_of}
use lib.Dec.{eqb}
use lib.ListN.{get_or}
use Rattle.flat.specs.contracts.item.Kind as KindProofs
use Rattle.compiler.proofs.Numbered.{kind_tag}
use Rattle.compiler.proofs.items.is_kind.Goals as goal

pub returns : goal.returns
returns c = ap (λ (v : ℕ). eqb v (tag_of KindProofs.the_type c.args.kind)) c.word.ensures ∙ ap (λ (n : ℕ). eqb (get_or c.args.words.now (c.args.end - 4) 0) n) (kind_tag c.args.kind)
