-- `show` meets its contract: the sign is stored, and the digits are placed behind it.
use mathlib.Core.Path.{sym, ◌∙◌}
use native.Mathlib.Omega.{arith}
use lib.ListN.{length-set, take}
use Rattle.console.proofs.Showing.{few, shows_plain, shows_negative}
use Rattle.console.proofs.shown.show.Goals as goal

pub returns-then-w-lt-SIGN : goal.returns-then-w-lt-SIGN
returns-then-w-lt-SIGN c = shows_plain c.args.w c.decimal-k.result c.wide.result c.args.out.now (take c.decimal-k.result c.decimal-k.new.out) c.place.new.memory (omega (arith, c.requires)) (sym c.decimal-k.ensures.in_bounds.1) c.decimal-k.ensures.len c.decimal-k.ensures.digits (c.wide.ensures.0 ∙ c.magnitude.ensures) c.if-w-lt-SIGN.true c.place.ensures (simp length-set (omega (arith, c.requires))) (omega (arith, c.requires, c.decimal-k.ensures.in_bounds.0, few c.wide.result c.decimal-k.result c.wide.ensures.1 c.decimal-k.ensures.len, simp length-set at c.place.auto.memory))

pub returns : goal.returns
returns c = shows_negative c.args.w c.decimal-k.result c.wide.result c.args.out.now (take c.decimal-k.result c.decimal-k.new.out) c.place-2.new.memory (omega (arith, c.requires)) (sym c.decimal-k.ensures.in_bounds.1) c.decimal-k.ensures.len c.decimal-k.ensures.digits (c.wide.ensures.0 ∙ c.magnitude.ensures) c.if-w-lt-SIGN.false c.place-2.ensures (simp length-set (omega (arith, c.requires))) (omega (arith, c.requires, c.decimal-k.ensures.in_bounds.0, few c.wide.result c.decimal-k.result c.wide.ensures.1 c.decimal-k.ensures.len, simp length-set at c.place-2.auto.memory))
