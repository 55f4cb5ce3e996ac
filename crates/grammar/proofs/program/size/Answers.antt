-- Four tokens, the second a number.
use Rattle.grammar.proofs.Steps.{exits}
use Rattle.grammar.proofs.ItemLaws.{size_unopened, size_unnumbered, size_unclosed, size_unended, size_done}
use mathlib.Core.Path.{refl}
use Rattle.grammar.proofs.program.size.Goals as goal

pub returns-in_err-expect : goal.returns-in_err-expect
returns-in_err-expect c = exits c.from_residual.ensures.1 c.in_err-expect.ensures.0 (size_unopened _ refl c.in_err-expect.ensures.1)

pub returns-in_err-expect-2 : goal.returns-in_err-expect-2
returns-in_err-expect-2 c = exits c.from_residual-in_err-expect-2.ensures.1 c.in_err-expect-2.ensures.0 (size_unnumbered _ refl c.in_ok-expect.ensures.0 refl c.in_err-expect-2.ensures.1)

pub returns-in_err-expect-3 : goal.returns-in_err-expect-3
returns-in_err-expect-3 c = exits c.from_residual-in_err-expect-3.ensures.1 c.in_err-expect-3.ensures.0 (size_unclosed _ refl c.in_ok-expect.ensures.0 refl c.in_ok-expect-2.ensures.0 refl c.in_err-expect-3.ensures.1)

pub returns-in_err-expect-4 : goal.returns-in_err-expect-4
returns-in_err-expect-4 c = exits c.from_residual-in_err-expect-4.ensures.1 c.in_err-expect-4.ensures.0 (size_unended _ refl c.in_ok-expect.ensures.0 refl c.in_ok-expect-2.ensures.0 refl c.in_ok-expect-3.ensures.0 refl c.in_err-expect-4.ensures.1)

pub returns : goal.returns
returns c = size_done _ refl c.in_ok-expect.ensures.0 refl c.in_ok-expect-2.ensures.0 refl c.in_ok-expect-3.ensures.0 refl c.in_ok-expect-4.ensures.0 c.in_ok-expect-4.ensures.1 c.value.ensures c.value.type_inv
