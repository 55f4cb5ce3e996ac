-- `digits_value` meets its contract: the digits read so far and those that are left mean the number.
use mathlib.Core.Path.{refl, sym, ◌∙◌}
use Prim.Native.Nat.{◌+◌, ◌*◌}
use native.Mathlib.Omega.{arith}
use borrow.Author.Tests.{leb-true}
use Rattle.language.specs.Tokens.{is_digit}
use Rattle.console.proofs.Folds.{all_at, value_on, value_off, value_out}
use Rattle.console.proofs.numbers.digits_value.Goals as goal

pub loop-b-init : goal.loop-b-init
loop-b-init c = (refl, omega arith, omega arith)

pub digit_value-d-requires : goal.digit_value-d-requires
digit_value-d-requires c = all_at is_digit _ _ c.requires c.loop-b-test.true

pub overflow_mul-n : goal.overflow_mul-n
overflow_mul-n c = omega (arith, leb-true (c.loop-b.n * 10 + c.digit_value-d.result) c.args.most (sym c.has_room.ensures ∙ c.if-not-has_room.false), c.ranges.most)

pub overflow_add-n : goal.overflow_add-n
overflow_add-n c = omega (arith, leb-true (c.loop-b.n * 10 + c.digit_value-d.result) c.args.most (sym c.has_room.ensures ∙ c.if-not-has_room.false), c.ranges.most)

pub loop-b-preserved : goal.loop-b-preserved
loop-b-preserved c = (value_on c.args.most _ _ _ _ c.loop-b.invariant.0 c.loop-b-test.true c.digit_value-d.ensures.0, leb-true _ _ (sym c.has_room.ensures ∙ c.if-not-has_room.false), omega arith)

pub returns-then-not-has_room : goal.returns-then-not-has_room
returns-then-not-has_room c = value_off c.args.most _ _ _ _ c.loop-b.invariant.0 c.loop-b-test.true c.digit_value-d.ensures.0 (sym c.has_room.ensures ∙ c.if-not-has_room.true)

pub returns : goal.returns
returns c = value_out c.args.most _ _ _ 0 c.loop-b.invariant.0 c.loop-b-test.false c.loop-b.invariant.1
