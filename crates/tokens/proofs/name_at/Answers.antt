-- `name_at` meets its contract: the span is as long as was counted, and its kind says whether it is a name.
use mathlib.Core.Path.{◌≡◌, refl, ap}
use Prim.Native.Nat.{◌+◌, ◌-◌}
use Rattle.std.proofs.Common.{rules}
use lib.ListN.{length, take, drop}
use native.Mathlib.Omega.{arith}
use Rattle.language.specs.Tokens.{in_name, span}
use Rattle.tokens.proofs.KindNumbers.{other_number}
use Rattle.tokens.proofs.Scan.{counts}
use Rattle.tokens.proofs.Looks.{span_part, span_within, name_some, name_long, name_plain, name_word}
use Rattle.tokens.proofs.name_at.Goals as goal

pub returns-then-n-gt-LONGEST_NAME : goal.returns-then-n-gt-LONGEST_NAME
returns-then-n-gt-LONGEST_NAME c = name_long c.args.text.now c.args.i _ (counts in_name c.args.text.now c.args.i c.length_of-n.ensures (λ b r h p. search rules)) c.if-n-gt-LONGEST_NAME.true

pub slice_bounds-word_kind-end : goal.slice_bounds-word_kind-end
slice_bounds-word_kind-end c = span_within in_name _ _ _ (omega (arith, c.requires.0)) (counts in_name c.args.text.now c.args.i c.length_of-n.ensures (λ b r h p. search rules))

pub word_kind-requires : goal.word_kind-requires
word_kind-requires c =
    let p : length (take (c.args.i + c.length_of-n.result - c.args.i) (drop c.args.i c.args.text.now)) ≡ length (span in_name (drop c.args.i c.args.text.now)) = ap length (span_part in_name _ _ _ (counts in_name c.args.text.now c.args.i c.length_of-n.ensures (λ b r h p. search rules))) in
    omega (arith, p, counts in_name c.args.text.now c.args.i c.length_of-n.ensures (λ b r h p. search rules), name_some _ _ c.requires.0 c.requires.1 (counts in_name c.args.text.now c.args.i c.length_of-n.ensures (λ b r h p. search rules)))

pub returns-in-Name : goal.returns-in-Name
returns-in-Name c = name_plain _ _ _ (counts in_name c.args.text.now c.args.i c.length_of-n.ensures (λ b r h p. search rules)) _ c.if-n-gt-LONGEST_NAME.false c.in-Name.ensures refl

pub returns-in_default : goal.returns-in_default
returns-in_default c = name_word _ _ _ (counts in_name c.args.text.now c.args.i c.length_of-n.ensures (λ b r h p. search rules)) _ c.if-n-gt-LONGEST_NAME.false c.word_kind.ensures (other_number c.in_default.not-Name)
