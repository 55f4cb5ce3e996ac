-- `doubled` meets its contract.
use mathlib.Core.Path.{sym}
use borrow.Author.Tests.{eq-eqb, ne_eqb}
use Rattle.tokens.proofs.doubled.Goals as goal

pub returns-then-c-second : goal.returns-then-c-second
returns-then-c-second c = rw (eq-eqb _ _ (sym c.if-c-second.true))

pub returns-else-c-second : goal.returns-else-c-second
returns-else-c-second c = rw (ne_eqb c.args.second c.args.c (λ z. c.if-c-second.false (sym z)))
