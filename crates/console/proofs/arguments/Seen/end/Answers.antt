-- `end` meets its contract: each test is one of the definition's.
use borrow.Author.Tests.{lt-ltb, le-ltb}
use native.Mathlib.Omega.{arith}
use Rattle.console.specs.Arguments.{ended, ended_with, files_of}
use Rattle.console.proofs.arguments.Seen.end.Goals as goal

pub returns-in-Some : goal.returns-in-Some
unfolding ended ended_with
returns-in-Some c = rw c.in-Some.is

pub returns-then-self-files : goal.returns-then-self-files
unfolding ended ended_with
returns-then-self-files c = rw (c.in_default.is, lt-ltb c.args.self.files (files_of c.args.command) (omega (arith, c.files.ensures.number, c.if-self-files.true)))

pub returns : goal.returns
unfolding ended ended_with
returns c = rw (c.in_default.is, le-ltb c.args.self.files (files_of c.args.command) (omega (arith, c.files.ensures.number, c.if-self-files.false))) c.sources.ensures
