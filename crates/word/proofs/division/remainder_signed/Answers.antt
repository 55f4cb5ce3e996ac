-- The remainder of the signed numbers is the definition, by a law of Casts.
use mathlib.Core.Path.{sym}
use mir.Syntax.{w32}
use borrow.Author.Rules.{rules}
use Rattle.std.proofs.lemmas.Int.{of_z-to_z}
use Rattle.word.proofs.ByZero.{rem_s_zero}
use Rattle.word.proofs.Casts.{signed_remainder}
use Rattle.word.proofs.Range.{rem_s_lt}
use Rattle.word.proofs.division.remainder_signed.Goals as goal

pub returns-then-b-eq0 : goal.returns-then-b-eq0
returns-then-b-eq0 c = rw c.if-b-eq0.true (sym (rem_s_zero _ (search rules)))

pub returns : goal.returns
returns c = rw (c.cast_unsigned.ensures, c.wrapping_rem.ensures, c.cast_signed.ensures, c.cast_signed-2.ensures, of_z-to_z w32 c.args.a (search rules), of_z-to_z w32 c.args.b (search rules), signed_remainder c.args.a c.args.b (search rules) (search rules)) (of_z-to_z w32 _ (rem_s_lt _ _))
