-- One word, or none.
use mathlib.Core.Path.{refl, sym, ap}
use Prim.Native.Nat.{ℕ, ◌-◌}
use lib.ListN.{set, length-set}
use lib.Seq.{set_out}
use native.Mathlib.Omega.{arith}
use Rattle.emission.proofs.Laws.{put_none, put_one}
use Rattle.emission.proofs.tape.Tape.put.Goals as goal

pub returns-then-self-eq0 : goal.returns-then-self-eq0
returns-then-self-eq0 c = record { says = rw c.if-self-eq0.true (put_none refl); within = omega arith; long = refl; same = refl }

pub returns-then-self : goal.returns-then-self
returns-then-self c = record { says = put_one (omega arith) (ap (λ (v : ℕ). set c.args.self.now.words.now (c.args.self.now.at - 1) v) c.encode.ensures.is); within = omega arith; long = length-set c.args.self.now.words.now (c.args.self.now.at - 1) c.encode.result; same = refl }

pub returns-else-self : goal.returns-else-self
returns-else-self c = record { says = put_one (omega arith) (sym (set_out _ _ _ c.if-self.false)); within = omega arith; long = refl; same = refl }
