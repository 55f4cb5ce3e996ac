-- `file` meets its contract: the test is the definition's.
use borrow.Author.Tests.{lt-ltb, le-ltb}
use native.Mathlib.Omega.{arith}
use Rattle.console.specs.Arguments.{filed, files_of}
use Rattle.console.proofs.arguments.Seen.file.Goals as goal

pub returns-then-files : goal.returns-then-files
unfolding filed
returns-then-files c = rw (lt-ltb c.args.self.files (files_of c.args.command) (omega (arith, c.files.ensures.number, c.if-files.true)), c.with_file.ensures)

pub returns : goal.returns
unfolding filed
returns c = rw (le-ltb c.args.self.files (files_of c.args.command) (omega (arith, c.files.ensures.number, c.if-files.false)))
