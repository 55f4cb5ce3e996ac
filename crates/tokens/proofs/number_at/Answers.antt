-- `number_at` meets its contract: each test is one of the definition's.
use mathlib.Core.Path.{sym, ap, ◌∙◌}
use native.Mathlib.Omega.{arith}
use Rattle.language.specs.Tokens.{in_name, is_digit}
use Rattle.tokens.proofs.Scan.{from_on}
use Rattle.tokens.proofs.Looks.{span_within, number_letter, number_padded, number_zero, number_good, number_big}
use Rattle.tokens.proofs.number_at.Goals as goal
use Rattle.tokens.proofs.number_at.Goals.{else-text-i-eq48-via-then-text-i-eq48+else-n-gt1, else-text-i-eq48-via-else-text-i-eq48}

pub returns-in_err-value : goal.returns-in_err-value
returns-in_err-value c = rw c.from_residual.ensures (number_big c.args.text.now c.args.i (rw (from_on c.args.text.now c.args.i) at c.in_err-value.ensures))

pub overflow_add-i : goal.overflow_add-i
overflow_add-i c =
    let m = rw (from_on c.args.text.now c.args.i) at c.in_ok-value.ensures in
    omega (arith, span_within is_digit c.args.text.now c.args.i _ (omega (arith, c.requires.0)) m.2)

pub returns-then-in_name : goal.returns-then-in_name
returns-then-in_name c =
    let m = rw (from_on c.args.text.now c.args.i) at c.in_ok-value.ensures in
    number_letter _ _ _ c.requires.0 c.requires.1 m.2 (ap in_name (sym c.item_or.ensures) ∙ sym c.in_name.ensures ∙ c.if-in_name.true)

pub returns-then-n-gt1 : goal.returns-then-n-gt1
returns-then-n-gt1 c =
    let m = rw (from_on c.args.text.now c.args.i) at c.in_ok-value.ensures in
    number_padded _ _ _ c.requires.0 c.requires.1 m.2 c.if-text-i-eq48.true c.if-n-gt1.true

pub returns : goal.returns
returns c =
    let m = rw (from_on c.args.text.now c.args.i) at c.in_ok-value.ensures in
    elim c.else-text-i-eq48.branch [
      | else-text-i-eq48-via-then-text-i-eq48+else-n-gt1 w ↦ number_zero _ _ _ c.requires.0 c.requires.1 m.2 _ m.0 (omega (arith, m.0, m.1)) (ap in_name (sym c.item_or.ensures) ∙ sym c.in_name.ensures ∙ c.if-in_name.false) w.if-text-i-eq48.true w.if-n-gt1.false
      | else-text-i-eq48-via-else-text-i-eq48 w ↦ number_good _ _ _ c.requires.0 c.requires.1 m.2 _ m.0 (omega (arith, m.0, m.1)) (ap in_name (sym c.item_or.ensures) ∙ sym c.in_name.ensures ∙ c.if-in_name.false) w.if-text-i-eq48.false
    ]
