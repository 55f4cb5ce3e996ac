-- Each arm is an entry of the table.
use mathlib.Core.Path.{◌∙◌}
use Rattle.compiler.specs.Post.{operands_of}
use Rattle.compiler.proofs.Scanning.{operands_are, no_operands}
use Rattle.compiler.proofs.items.operands.Goals as goal

pub returns-in-2 : goal.returns-in-2
unfolding operands_of
returns-in-2 c = operands_are 2 _ c.word-k.ensures c.in-2.is

pub returns-in-3 : goal.returns-in-3
unfolding operands_of
returns-in-3 c = c.word.ensures ∙ operands_are 3 _ c.word-k.ensures c.in-3.is

pub returns-in-4 : goal.returns-in-4
unfolding operands_of
returns-in-4 c = operands_are 4 _ c.word-k.ensures c.in-4.is

pub returns-in-5 : goal.returns-in-5
unfolding operands_of
returns-in-5 c = operands_are 5 _ c.word-k.ensures c.in-5.is

pub returns-in-6 : goal.returns-in-6
unfolding operands_of
returns-in-6 c = operands_are 6 _ c.word-k.ensures c.in-6.is

pub returns-in-7 : goal.returns-in-7
unfolding operands_of
returns-in-7 c = operands_are 7 _ c.word-k.ensures c.in-7.is

pub returns-in-8 : goal.returns-in-8
unfolding operands_of
returns-in-8 c = operands_are 8 _ c.word-k.ensures c.in-8.is

pub returns-in_default : goal.returns-in_default
returns-in_default c = no_operands _ c.word-k.ensures c.in_default.in_default-own.rest
