-- `agrees` meets its contract: each part is as long as it is said to be, or all that there is.
use mathlib.Core.Path.{ap, ◌∙◌}
use native.Mathlib.Omega.{arith}
use lib.ListN.{length}
use Prim.Native.Nat.{ℕ, ◌+◌, ◌-◌, min}
use Rattle.processor.specs.Machine.{data_start}
use Rattle.agreement.proofs.Comparing.{parts}
use Rattle.doorlang.proofs.compare.agrees.Goals as goal

pub returns : goal.returns
returns c = c.agree.ensures ∙ parts c.args.text.log.now c.args.text.arrays.now c.args.image.log.now c.args.image.memory.now data_start c.args.size c.min-from.result _ _ _ _ _ (c.min-from.result + c.min.result - c.min-from.result) c.min-l.ensures c.min-a.ensures c.min-k.ensures (c.min-from.ensures ∙ ap (λ (n : ℕ). min n (length c.args.image.memory.now)) c.arrays_start.ensures) (omega (arith, c.min.ensures))
