-- `sign_kind` meets its contract: with the first byte known the table's rows compute; a byte that begins no row finds none.
use mathlib.Core.Path.{sym, ◌∙◌}
use borrow.Author.Tests.{ne_eqb}
use lib.Dec.{eqb}
use mathlib.Core.Option.{none, some}
use Rattle.tokens.proofs.Looks.{pair_kind}
use Rattle.language.specs.Tokens.{Sign, find, begins, signs, bytes}
use Rattle.tokens.specs.Kinds.{sign_kind}
use Rattle.tokens.specs.Seen.{sign_in, kind_or_none}
use Rattle.tokens.proofs.sign_kind.Goals as goal

pub returns-in-61 : goal.returns-in-61
unfolding sign_in kind_or_none find begins signs bytes sign_kind
returns-in-61 c = c.paired.ensures ∙ pair_kind (eqb 61 c.args.c) (Sign.double_equals, "==") (some (Sign.equals, "=")) ∙ rw c.in-61.is

pub returns-in-33 : goal.returns-in-33
unfolding sign_in kind_or_none find begins signs bytes sign_kind
returns-in-33 c = c.paired-in-33.ensures ∙ pair_kind (eqb 61 c.args.c) (Sign.bang_equals, "!=") (some (Sign.bang, "!")) ∙ rw c.in-33.is

pub returns-in-60 : goal.returns-in-60
unfolding sign_in kind_or_none find begins signs bytes sign_kind
returns-in-60 c = c.paired-in-60.ensures ∙ pair_kind (eqb 61 c.args.c) (Sign.less_equals, "<=") (some (Sign.less, "<")) ∙ rw c.in-60.is

pub returns-in-62 : goal.returns-in-62
unfolding sign_in kind_or_none find begins signs bytes sign_kind
returns-in-62 c = c.paired-in-62.ensures ∙ pair_kind (eqb 61 c.args.c) (Sign.greater_equals, ">=") (some (Sign.greater, ">")) ∙ rw c.in-62.is

pub returns-in-38 : goal.returns-in-38
unfolding sign_in kind_or_none find begins signs bytes sign_kind
returns-in-38 c = c.doubled.ensures ∙ pair_kind (eqb 38 c.args.c) (Sign.double_ampersand, "&&") none ∙ rw c.in-38.is

pub returns-in-124 : goal.returns-in-124
unfolding sign_in kind_or_none find begins signs bytes sign_kind
returns-in-124 c = c.doubled-in-124.ensures ∙ pair_kind (eqb 124 c.args.c) (Sign.double_bar, "||") none ∙ rw c.in-124.is

pub returns-in-43 : goal.returns-in-43
unfolding sign_in kind_or_none find begins signs bytes sign_kind
returns-in-43 c = rw c.in-43.is

pub returns-in-45 : goal.returns-in-45
unfolding sign_in kind_or_none find begins signs bytes sign_kind
returns-in-45 c = rw c.in-45.is

pub returns-in-42 : goal.returns-in-42
unfolding sign_in kind_or_none find begins signs bytes sign_kind
returns-in-42 c = rw c.in-42.is

pub returns-in-47 : goal.returns-in-47
unfolding sign_in kind_or_none find begins signs bytes sign_kind
returns-in-47 c = rw c.in-47.is

pub returns-in-37 : goal.returns-in-37
unfolding sign_in kind_or_none find begins signs bytes sign_kind
returns-in-37 c = rw c.in-37.is

pub returns-in-40 : goal.returns-in-40
unfolding sign_in kind_or_none find begins signs bytes sign_kind
returns-in-40 c = rw c.in-40.is

pub returns-in-41 : goal.returns-in-41
unfolding sign_in kind_or_none find begins signs bytes sign_kind
returns-in-41 c = rw c.in-41.is

pub returns-in-123 : goal.returns-in-123
unfolding sign_in kind_or_none find begins signs bytes sign_kind
returns-in-123 c = rw c.in-123.is

pub returns-in-125 : goal.returns-in-125
unfolding sign_in kind_or_none find begins signs bytes sign_kind
returns-in-125 c = rw c.in-125.is

pub returns-in-91 : goal.returns-in-91
unfolding sign_in kind_or_none find begins signs bytes sign_kind
returns-in-91 c = rw c.in-91.is

pub returns-in-93 : goal.returns-in-93
unfolding sign_in kind_or_none find begins signs bytes sign_kind
returns-in-93 c = rw c.in-93.is

pub returns-in-58 : goal.returns-in-58
unfolding sign_in kind_or_none find begins signs bytes sign_kind
returns-in-58 c = rw c.in-58.is

pub returns-in-59 : goal.returns-in-59
unfolding sign_in kind_or_none find begins signs bytes sign_kind
returns-in-59 c = rw c.in-59.is

pub returns-in-44 : goal.returns-in-44
unfolding sign_in kind_or_none find begins signs bytes sign_kind
returns-in-44 c = rw c.in-44.is

pub returns-in_default : goal.returns-in_default
unfolding sign_in kind_or_none find begins signs bytes sign_kind
returns-in_default c = simp (ne_eqb 44 _ (λ z. c.in_default.in_default-own.rest.1 (sym z)), ne_eqb 59 _ (λ z. c.in_default.in_default-own.rest.0.1 (sym z)), ne_eqb 58 _ (λ z. c.in_default.in_default-own.rest.0.0.1 (sym z)), ne_eqb 93 _ (λ z. c.in_default.in_default-own.rest.0.0.0.1 (sym z)), ne_eqb 91 _ (λ z. c.in_default.in_default-own.rest.0.0.0.0.1 (sym z)), ne_eqb 125 _ (λ z. c.in_default.in_default-own.rest.0.0.0.0.0.1 (sym z)), ne_eqb 123 _ (λ z. c.in_default.in_default-own.rest.0.0.0.0.0.0.1 (sym z)), ne_eqb 41 _ (λ z. c.in_default.in_default-own.rest.0.0.0.0.0.0.0.1 (sym z)), ne_eqb 40 _ (λ z. c.in_default.in_default-own.rest.0.0.0.0.0.0.0.0.1 (sym z)), ne_eqb 37 _ (λ z. c.in_default.in_default-own.rest.0.0.0.0.0.0.0.0.0.1 (sym z)), ne_eqb 47 _ (λ z. c.in_default.in_default-own.rest.0.0.0.0.0.0.0.0.0.0.1 (sym z)), ne_eqb 42 _ (λ z. c.in_default.in_default-own.rest.0.0.0.0.0.0.0.0.0.0.0.1 (sym z)), ne_eqb 45 _ (λ z. c.in_default.in_default-own.rest.0.0.0.0.0.0.0.0.0.0.0.0.1 (sym z)), ne_eqb 43 _ (λ z. c.in_default.in_default-own.rest.0.0.0.0.0.0.0.0.0.0.0.0.0.1 (sym z)), ne_eqb 124 _ (λ z. c.in_default.in_default-own.rest.0.0.0.0.0.0.0.0.0.0.0.0.0.0.1 (sym z)), ne_eqb 38 _ (λ z. c.in_default.in_default-own.rest.0.0.0.0.0.0.0.0.0.0.0.0.0.0.0.1 (sym z)), ne_eqb 62 _ (λ z. c.in_default.in_default-own.rest.0.0.0.0.0.0.0.0.0.0.0.0.0.0.0.0.1 (sym z)), ne_eqb 60 _ (λ z. c.in_default.in_default-own.rest.0.0.0.0.0.0.0.0.0.0.0.0.0.0.0.0.0.1 (sym z)), ne_eqb 33 _ (λ z. c.in_default.in_default-own.rest.0.0.0.0.0.0.0.0.0.0.0.0.0.0.0.0.0.0.1 (sym z)), ne_eqb 61 _ (λ z. c.in_default.in_default-own.rest.0.0.0.0.0.0.0.0.0.0.0.0.0.0.0.0.0.0.0.1 (sym z)))
