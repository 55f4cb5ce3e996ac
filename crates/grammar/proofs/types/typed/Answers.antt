-- A name, a colon, a type.
use Rattle.grammar.proofs.Steps.{exits_typed}
use Rattle.grammar.proofs.StmtLaws.{typed_unnamed, typed_bare, typed_type}
use mathlib.Core.Path.{refl}
use Rattle.grammar.proofs.types.typed.Goals as goal

pub returns-in_err-expect : goal.returns-in_err-expect
returns-in_err-expect c = exits_typed _ c.from_residual.ensures.1 c.in_err-expect.ensures.0 (typed_unnamed _ refl c.in_err-expect.ensures.1)

pub returns-in_err-expect-2 : goal.returns-in_err-expect-2
returns-in_err-expect-2 c = exits_typed _ c.from_residual-in_err-expect-2.ensures.1 c.in_err-expect-2.ensures.0 (typed_bare _ refl c.in_ok-expect.ensures.0 refl c.in_err-expect-2.ensures.1)

pub returns : goal.returns
returns c = typed_type _ refl c.in_ok-expect.ensures.0 refl c.in_ok-expect-2.ensures.0 c.type_at.ensures
