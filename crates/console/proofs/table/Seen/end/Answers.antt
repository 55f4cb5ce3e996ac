-- `end` meets its contract: each test is one of the definition's.
use mathlib.Core.Path.{sym, ◌∙◌}
use borrow.Author.Tests.{eq-eqb, ne_eqb, lt-ltb, le-ltb}
use native.Mathlib.Omega.{arith}
use Rattle.console.specs.Table.{ended, files_of}
use Rattle.console.proofs.Arms.{one_source}
use Rattle.console.proofs.table.Seen.end.Goals as goal

pub returns-then-is_some : goal.returns-then-is_some
unfolding ended
returns-then-is_some c = rw (sym c.is_some.ensures ∙ c.if-is_some.true)

pub returns-then-self-ne-UNKNOWN : goal.returns-then-self-ne-UNKNOWN
unfolding ended
returns-then-self-ne-UNKNOWN c = rw (sym c.is_some.ensures ∙ c.if-is_some.false, ne_eqb c.args.self.expected 0 c.if-self-ne-UNKNOWN.true) c.wrong.ensures

pub returns-then-self-files : goal.returns-then-self-files
unfolding ended
returns-then-self-files c = rw (sym c.is_some.ensures ∙ c.if-is_some.false, eq-eqb c.args.self.expected 0 c.if-self-ne-UNKNOWN.false, lt-ltb c.args.self.files (files_of c.args.command) (omega (arith, c.files.ensures.number, c.if-self-files.true))) c.wrong-then-self-files.ensures

pub returns-then-given_for-eq0 : goal.returns-then-given_for-eq0
unfolding ended
returns-then-given_for-eq0 c = rw (sym c.is_some.ensures ∙ c.if-is_some.false, eq-eqb c.args.self.expected 0 c.if-self-ne-UNKNOWN.false, le-ltb c.args.self.files (files_of c.args.command) (omega (arith, c.files.ensures.number, c.if-self-files.false)), sym c.given_for.ensures, sym c.given_for-block.ensures) (one_source c.given_for.result c.given_for-block.result _ _ c.then-given_for-eq0.either)

pub returns : goal.returns
unfolding ended
returns c = rw (sym c.is_some.ensures ∙ c.if-is_some.false, eq-eqb c.args.self.expected 0 c.if-self-ne-UNKNOWN.false, le-ltb c.args.self.files (files_of c.args.command) (omega (arith, c.files.ensures.number, c.if-self-files.false)), sym c.given_for.ensures, sym c.given_for-block.ensures, ne_eqb c.given_for.result 0 c.if-given_for-eq0.false, ne_eqb c.given_for-block.result 0 c.if-block-eq0.false) c.wrong-2.ensures
