-- Past the last token no kind is read.
use mathlib.Core.Logic.{inl}
use native.Mathlib.Omega.{arith}
use Rattle.grammar.proofs.Field.{field_past}
use Rattle.grammar.proofs.input.Tokens.kind.Goals as goal

pub returns-else-i-self-clause-none : goal.returns-else-i-self-clause-none
returns-else-i-self-clause-none c _ = inl (omega (arith, field_past c.args.self.words.now c.args.self.count c.args.i 0 c.if-i-self.false))
