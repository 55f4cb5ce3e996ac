-- `tokens` meets its contract: what was read so far stands in the room, and what is left says the rest.
use mathlib.Core.Path.{◌≡◌, sym, ◌∙◌}
use Prim.Native.Nat.{◌+◌}
use Rattle.std.proofs.Common.{rules}
use lib.ListN.{length, drop}
use Rattle.language.specs.Tokens.{in_comment, span}
use Rattle.tokens.proofs.Scan.{counts}
use Rattle.tokens.proofs.Looks.{span_within}
use native.Mathlib.Omega.{arith}
use borrow.Author.Tests.{eq-eqb, ne_eqb}
use Rattle.tokens.proofs.Going.{begun, token_size, keeps, on_blank, on_comment, on_token, on_fault, no_room, too_long, at_fault, well}
use Rattle.tokens.proofs.tokens.Goals as goal

pub returns-then-room-lt-TOKEN_ROOM : goal.returns-then-room-lt-TOKEN_ROOM
returns-then-room-lt-TOKEN_ROOM c = no_room _ _ c.if-room-lt-TOKEN_ROOM.true

pub returns-then-text-gt-LONGEST_TEXT : goal.returns-then-text-gt-LONGEST_TEXT
returns-then-text-gt-LONGEST_TEXT c = too_long _ _ c.if-room-lt-TOKEN_ROOM.false c.if-text-gt-LONGEST_TEXT.true _

pub loop-i-init : goal.loop-i-init
loop-i-init c = begun _ _

pub loop-i-preserved-then-is_blank : goal.loop-i-preserved-then-is_blank
loop-i-preserved-then-is_blank c = on_blank c.loop-i.invariant c.loop-i-test.true (sym c.is_blank.ensures ∙ c.if-is_blank.true)

pub overflow_add-i-then-b-eq35-2 : goal.overflow_add-i-then-b-eq35-2
overflow_add-i-then-b-eq35-2 c = omega (arith, span_within in_comment c.args.text.now (c.loop-i.i + 1) _ (omega (arith, c.loop-i-test.true)) (counts in_comment c.args.text.now (c.loop-i.i + 1) c.length_of.ensures (λ b r h p. search rules)))

pub overflow_add-i-then-b-eq35-3 : goal.overflow_add-i-then-b-eq35-3
overflow_add-i-then-b-eq35-3 c = omega (arith, span_within in_comment c.args.text.now (c.loop-i.i + 1) _ (omega (arith, c.loop-i-test.true)) (counts in_comment c.args.text.now (c.loop-i.i + 1) c.length_of.ensures (λ b r h p. search rules)))

pub loop-i-preserved-then-b-eq35 : goal.loop-i-preserved-then-b-eq35
loop-i-preserved-then-b-eq35 c =
    let q : c.length_of.result ≡ length (span in_comment (drop (c.loop-i.i + 1) c.args.text.now)) = counts in_comment c.args.text.now (c.loop-i.i + 1) c.length_of.ensures (λ b r h p. search rules) in
    on_comment c.loop-i.invariant c.loop-i-test.true (sym c.is_blank.ensures ∙ c.if-is_blank.false) (eq-eqb _ _ c.if-b-eq35.true) _ (omega (arith, q)) (omega (arith, span_within in_comment c.args.text.now (c.loop-i.i + 1) _ (omega (arith, c.loop-i-test.true)) q))

pub token_at-requires : goal.token_at-requires
token_at-requires c = c.loop-i-test.true

pub returns-in_default : goal.returns-in_default
returns-in_default c = at_fault _ _ c.if-room-lt-TOKEN_ROOM.false c.if-text-gt-LONGEST_TEXT.false _ (on_fault c.loop-i.invariant c.loop-i-test.true (sym c.is_blank.ensures ∙ c.if-is_blank.false) (ne_eqb _ _ c.if-b-eq35.false) c.in_default.ensures) _

pub put-requires : goal.put-requires
put-requires c = omega (arith, keeps c.loop-i.invariant, c.loop-i.invariant.few, c.if-room-lt-TOKEN_ROOM.false, c.if-text-gt-LONGEST_TEXT.false, c.loop-i-test.true)

pub overflow_add-i-else-b-eq35 : goal.overflow_add-i-else-b-eq35
overflow_add-i-else-b-eq35 c = omega (arith, (token_size _ _ _ _ _ c.loop-i.invariant.within c.in-Some.ensures).1)

pub loop-i-smaller : goal.loop-i-smaller
loop-i-smaller c = omega (arith, (token_size _ _ _ _ _ c.loop-i.invariant.within c.in-Some.ensures).0)

pub loop-i-preserved : goal.loop-i-preserved
loop-i-preserved c = on_token c.loop-i.invariant c.loop-i-test.true (sym c.is_blank.ensures ∙ c.if-is_blank.false) (ne_eqb _ _ c.if-b-eq35.false) _ _ _ c.in-Some.ensures _ c.put.ensures

pub returns : goal.returns
returns c = well _ _ c.if-room-lt-TOKEN_ROOM.false c.if-text-gt-LONGEST_TEXT.false c.loop-i.invariant c.loop-i-test.false
