-- The shift of the signed number is the definition, by a law of Casts.
use mir.Syntax.{w32}
use borrow.Author.Rules.{rules}
use Rattle.std.proofs.lemmas.Int.{of_z-to_z}
use Rattle.word.proofs.Casts.{signed_shift}
use Rattle.word.proofs.Range.{shr_s_lt}
use Rattle.word.proofs.bits.shift_right_signed.Goals as goal

pub returns : goal.returns
returns c = rw (c.cast_unsigned.ensures, c.cast_signed.ensures, of_z-to_z w32 c.args.a (search rules), signed_shift c.args.a c.args.s (search rules)) (of_z-to_z w32 _ (shr_s_lt _ _))
