-- From one before `at`.
use Rattle.symbolic.specs.Real.{distance}
use mathlib.Core.Path.{ap, ◌∙◌}
use Prim.Native.Nat.{ℕ, ◌+◌, ◌-◌}
use Rattle.emission.proofs.tape.Tape.onward.Goals as goal

pub returns : goal.returns
returns c = c.reach.ensures ∙ ap (λ (k : ℕ). distance (c.args.self.now.at - 1) (k + c.args.n)) c.saturating_sub-k.ensures
