-- `file` meets its contract: the test is the definition's.
use borrow.Author.Tests.{lt-ltb, le-ltb}
use native.Mathlib.Omega.{arith}
use Rattle.console.specs.Table.{filed, files_of}
use Rattle.console.proofs.table.Seen.file.Goals as goal

pub returns-then-n-files : goal.returns-then-n-files
unfolding filed
returns-then-n-files c = rw (lt-ltb c.args.self.files (files_of c.args.command) (omega (arith, c.files.ensures.number, c.if-n-files.true)), c.give.ensures)

pub returns : goal.returns
unfolding filed
returns c = rw (le-ltb c.args.self.files (files_of c.args.command) (omega (arith, c.files.ensures.number, c.if-n-files.false)), c.wrong.ensures)
