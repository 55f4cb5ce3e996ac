-- `word_of` meets its contract: each test is one of the definition's.
use mathlib.Core.Path.{sym, ◌∙◌}
use Rattle.language.specs.Tokens.{bytes}
use Rattle.console.specs.Arguments.{word_of}
use Rattle.console.proofs.arguments.word_of.Goals as goal

pub returns-then-is_spelt : goal.returns-then-is_spelt
unfolding word_of bytes
returns-then-is_spelt c = rw (sym c.is_spelt.ensures ∙ c.if-is_spelt.true)

pub returns-then-is_spelt-2 : goal.returns-then-is_spelt-2
unfolding word_of bytes
returns-then-is_spelt-2 c = rw (sym c.is_spelt.ensures ∙ c.if-is_spelt.false, sym c.is_spelt-2.ensures ∙ c.if-is_spelt-2.true)

pub returns-then-is_spelt-3 : goal.returns-then-is_spelt-3
unfolding word_of bytes
returns-then-is_spelt-3 c = rw (sym c.is_spelt.ensures ∙ c.if-is_spelt.false, sym c.is_spelt-2.ensures ∙ c.if-is_spelt-2.false, sym c.is_spelt-3.ensures ∙ c.if-is_spelt-3.true)

pub returns-then-is_spelt-4 : goal.returns-then-is_spelt-4
unfolding word_of bytes
returns-then-is_spelt-4 c = rw (sym c.is_spelt.ensures ∙ c.if-is_spelt.false, sym c.is_spelt-2.ensures ∙ c.if-is_spelt-2.false, sym c.is_spelt-3.ensures ∙ c.if-is_spelt-3.false, sym c.is_spelt-4.ensures ∙ c.if-is_spelt-4.true)

pub returns-then-is_spelt-5 : goal.returns-then-is_spelt-5
unfolding word_of bytes
returns-then-is_spelt-5 c = rw (sym c.is_spelt.ensures ∙ c.if-is_spelt.false, sym c.is_spelt-2.ensures ∙ c.if-is_spelt-2.false, sym c.is_spelt-3.ensures ∙ c.if-is_spelt-3.false, sym c.is_spelt-4.ensures ∙ c.if-is_spelt-4.false, sym c.is_spelt-5.ensures ∙ c.if-is_spelt-5.true)

pub returns-then-is_spelt-6 : goal.returns-then-is_spelt-6
unfolding word_of bytes
returns-then-is_spelt-6 c = rw (sym c.is_spelt.ensures ∙ c.if-is_spelt.false, sym c.is_spelt-2.ensures ∙ c.if-is_spelt-2.false, sym c.is_spelt-3.ensures ∙ c.if-is_spelt-3.false, sym c.is_spelt-4.ensures ∙ c.if-is_spelt-4.false, sym c.is_spelt-5.ensures ∙ c.if-is_spelt-5.false, sym c.is_spelt-6.ensures ∙ c.if-is_spelt-6.true)

pub returns-then-begins_with_dash : goal.returns-then-begins_with_dash
unfolding word_of bytes
returns-then-begins_with_dash c = rw (sym c.is_spelt.ensures ∙ c.if-is_spelt.false, sym c.is_spelt-2.ensures ∙ c.if-is_spelt-2.false, sym c.is_spelt-3.ensures ∙ c.if-is_spelt-3.false, sym c.is_spelt-4.ensures ∙ c.if-is_spelt-4.false, sym c.is_spelt-5.ensures ∙ c.if-is_spelt-5.false, sym c.is_spelt-6.ensures ∙ c.if-is_spelt-6.false, sym c.begins_with_dash.ensures ∙ c.if-begins_with_dash.true)

pub returns : goal.returns
unfolding word_of bytes
returns c = rw (sym c.is_spelt.ensures ∙ c.if-is_spelt.false, sym c.is_spelt-2.ensures ∙ c.if-is_spelt-2.false, sym c.is_spelt-3.ensures ∙ c.if-is_spelt-3.false, sym c.is_spelt-4.ensures ∙ c.if-is_spelt-4.false, sym c.is_spelt-5.ensures ∙ c.if-is_spelt-5.false, sym c.is_spelt-6.ensures ∙ c.if-is_spelt-6.false, sym c.begins_with_dash.ensures ∙ c.if-begins_with_dash.false)
