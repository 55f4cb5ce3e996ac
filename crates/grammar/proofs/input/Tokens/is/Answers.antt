-- A kind's number is not 0, so a token of the kind is there.
use native.Mathlib.Omega.{arith}
use borrow.Author.Tests.{eqb-true}
use Rattle.grammar.proofs.Field.{field_there}
use Rattle.grammar.proofs.input.Tokens.is.Goals as goal

pub returns-clause-there : goal.returns-clause-there
returns-clause-there c t = field_there c.args.self.words.now c.args.self.count c.args.i 0 (omega (arith, eqb-true _ _ t, c.word.ensures))
