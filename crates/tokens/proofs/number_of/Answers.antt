-- `number_of` meets its contract: once v is too large so is the number, which more digits don't make less.
use mathlib.Core.Path.{◌≡◌, sym, ◌∙◌}
use native.Mathlib.Omega.{arith}
use Rattle.std.proofs.Common.{rules}
use Rattle.language.specs.Tokens.{is_digit, span, decimal}
use Rattle.tokens.proofs.Scan.{span_on, span_off, span_out}
use Rattle.tokens.proofs.Looks.{decimal_on, decimal_big, decimal_off, decimal_out}
use Rattle.tokens.proofs.number_of.Goals as goal

pub digit_value-requires : goal.digit_value-requires
digit_value-requires c = sym c.is_digit.ensures ∙ c.if-not-is_digit.false

pub returns-then-not-is_digit : goal.returns-then-not-is_digit
returns-then-not-is_digit c =
    let q : c.loop-n.v ≡ decimal 0 (span is_digit c.args.rest.now) = decimal_off _ _ c.loop-n-test.true _ (sym c.is_digit.ensures ∙ c.if-not-is_digit.true) ∙ sym c.loop-n.invariant.1 in
    (q, omega (arith, q, c.loop-n.invariant.2), span_off is_digit _ _ c.loop-n.invariant.0 c.loop-n-test.true (sym c.is_digit.ensures ∙ c.if-not-is_digit.true))

pub returns-then-v-gt-LARGEST_NUMBER : goal.returns-then-v-gt-LARGEST_NUMBER
returns-then-v-gt-LARGEST_NUMBER c = decimal_big _ _ c.loop-n-test.true _ _ (sym c.is_digit.ensures ∙ c.if-not-is_digit.false) c.digit_value.ensures.0 _ c.loop-n.invariant.1 (omega (arith, c.if-v-gt-LARGEST_NUMBER.true))

pub loop-n-preserved : goal.loop-n-preserved
loop-n-preserved c = (span_on is_digit _ _ c.loop-n.invariant.0 c.loop-n-test.true (sym c.is_digit.ensures ∙ c.if-not-is_digit.false), c.loop-n.invariant.1 ∙ decimal_on _ _ c.loop-n-test.true _ _ (sym c.is_digit.ensures ∙ c.if-not-is_digit.false) c.digit_value.ensures.0, omega (arith, c.if-v-gt-LARGEST_NUMBER.false))

pub returns : goal.returns
returns c =
    let q : c.loop-n.v ≡ decimal 0 (span is_digit c.args.rest.now) = decimal_out _ _ c.loop-n-test.false _ ∙ sym c.loop-n.invariant.1 in
    (q, omega (arith, q, c.loop-n.invariant.2), span_out is_digit _ _ c.loop-n.invariant.0 c.loop-n-test.false (search rules))
