-- `word_kind` meets its contract: in each arm the first letter leaves the rows that are compared with.
use mathlib.Core.Path.{refl, ap, ◌∙◌}
use borrow.Author.Tests.{ne_eqb}
use Rattle.language.specs.Tokens.{Word, words, bytes, starts, same}
use Rattle.word.specs.Choice.{pick}
use Rattle.tokens.specs.Kinds.{word_kind}
use Rattle.tokens.proofs.Words.{only, no_word, one_word, two_words, first_letter}
use Rattle.tokens.proofs.word_kind.Goals as goal

pub returns-in-98 : goal.returns-in-98
unfolding only words bytes starts word_kind
returns-in-98 c = c.word_or.ensures ∙ one_word _ 98 _ (first_letter c.args.name.now 98 c.requires c.in-98.is) (Word.bool, "bool") refl

pub returns-in-101 : goal.returns-in-101
unfolding only words bytes starts word_kind
returns-in-101 c = c.word_or-in-101.ensures ∙ (ap (pick (same c.args.name.now (bytes "else")) (word_kind Word.else)) c.word_or-emit_or_name.ensures ∙ two_words _ 101 _ (first_letter c.args.name.now 101 c.requires c.in-101.is) (Word.else, "else") (Word.emit, "emit") refl)

pub returns-in-102 : goal.returns-in-102
unfolding only words bytes starts word_kind
returns-in-102 c = c.word_or-in-102.ensures ∙ (ap (pick (same c.args.name.now (bytes "fn")) (word_kind Word.fn)) c.word_or-false_or_name.ensures ∙ two_words _ 102 _ (first_letter c.args.name.now 102 c.requires c.in-102.is) (Word.fn, "fn") (Word.false, "false") refl)

pub returns-in-105 : goal.returns-in-105
unfolding only words bytes starts word_kind
returns-in-105 c = c.word_or-in-105.ensures ∙ (ap (pick (same c.args.name.now (bytes "if")) (word_kind Word.if)) c.word_or-int_or_name.ensures ∙ two_words _ 105 _ (first_letter c.args.name.now 105 c.requires c.in-105.is) (Word.if, "if") (Word.int, "int") refl)

pub returns-in-108 : goal.returns-in-108
unfolding only words bytes starts word_kind
returns-in-108 c = c.word_or-in-108.ensures ∙ one_word _ 108 _ (first_letter c.args.name.now 108 c.requires c.in-108.is) (Word.«let», "let") refl

pub returns-in-114 : goal.returns-in-114
unfolding only words bytes starts word_kind
returns-in-114 c = c.word_or-in-114.ensures ∙ one_word _ 114 _ (first_letter c.args.name.now 114 c.requires c.in-114.is) (Word.return, "return") refl

pub returns-in-116 : goal.returns-in-116
unfolding only words bytes starts word_kind
returns-in-116 c = c.word_or-in-116.ensures ∙ one_word _ 116 _ (first_letter c.args.name.now 116 c.requires c.in-116.is) (Word.true, "true") refl

pub returns-in-118 : goal.returns-in-118
unfolding only words bytes starts word_kind
returns-in-118 c = c.word_or-in-118.ensures ∙ one_word _ 118 _ (first_letter c.args.name.now 118 c.requires c.in-118.is) (Word.var, "var") refl

pub returns-in-119 : goal.returns-in-119
unfolding only words bytes starts word_kind
returns-in-119 c = c.word_or-in-119.ensures ∙ one_word _ 119 _ (first_letter c.args.name.now 119 c.requires c.in-119.is) (Word.while, "while") refl

pub returns-in_default : goal.returns-in_default
unfolding only words bytes starts
returns-in_default c = no_word _ _ _ (first_letter c.args.name.now _ c.requires refl) (simp (ne_eqb _ 119 c.in_default.in_default-own.rest.1, ne_eqb _ 118 c.in_default.in_default-own.rest.0.1, ne_eqb _ 116 c.in_default.in_default-own.rest.0.0.1, ne_eqb _ 114 c.in_default.in_default-own.rest.0.0.0.1, ne_eqb _ 108 c.in_default.in_default-own.rest.0.0.0.0.1, ne_eqb _ 105 c.in_default.in_default-own.rest.0.0.0.0.0.1, ne_eqb _ 102 c.in_default.in_default-own.rest.0.0.0.0.0.0.1, ne_eqb _ 101 c.in_default.in_default-own.rest.0.0.0.0.0.0.0.1, ne_eqb _ 98 c.in_default.in_default-own.rest.0.0.0.0.0.0.0.0.1))
