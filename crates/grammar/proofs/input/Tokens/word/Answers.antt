-- A token's word is read where there is such a token.
use Rattle.grammar.specs.Told.{field_of}
use borrow.Author.Tests.{lt-ltb, le-ltb}
use Rattle.grammar.proofs.input.Tokens.word.Goals as goal

pub returns-then-i-self : goal.returns-then-i-self
unfolding field_of
returns-then-i-self c = rw (lt-ltb c.args.i c.args.self.count c.if-i-self.true)

pub returns-else-i-self : goal.returns-else-i-self
unfolding field_of
returns-else-i-self c = rw (le-ltb c.args.i c.args.self.count c.if-i-self.false)
