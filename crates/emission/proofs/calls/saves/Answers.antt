-- The last of them first.
use native.Mathlib.Omega.{arith}
use Rattle.emission.proofs.Tapes.{after_one, after_two, untouched}
use Rattle.emission.proofs.Calling.{before_all, before_none, before_saves, saves_none}
use Rattle.emission.proofs.calls.saves.Goals as goal

pub loop-k-init : goal.loop-k-init
loop-k-init c = untouched before_all

pub loop-k-preserved : goal.loop-k-preserved
loop-k-preserved c = after_two c.loop-k.invariant c.store.ensures (before_saves (omega arith) c.loop-k.invariant.says c.store.ensures.says)

pub returns : goal.returns
returns c = after_one c.loop-k.invariant (before_none c.loop-k.invariant.says (saves_none (omega arith)))
