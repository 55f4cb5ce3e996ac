-- Each row of the operators' table.
use mathlib.Core.Path.{refl, sym, ap}
use Rattle.language.specs.Grammar.{operators}
use Rattle.tokens.specs.Kinds.{sign_kind}
use Rattle.grammar.specs.Parse.{level_in, means_in, level_of, means_of}
use Rattle.grammar.specs.Operator.{binary_of}
use borrow.Author.Tests.{ne_eqb}
use Rattle.tokens.proofs.KindNumbers.{other_number}
use Rattle.grammar.proofs.Tables.{row}
use Rattle.grammar.proofs.operators.operator_of.Goals as goal

pub returns-in-DoubleBar : goal.returns-in-DoubleBar
unfolding level_of level_in means_of means_in operators sign_kind
returns-in-DoubleBar c = row c.in-DoubleBar.is refl refl

pub returns-in-DoubleAmpersand : goal.returns-in-DoubleAmpersand
unfolding level_of level_in means_of means_in operators sign_kind
returns-in-DoubleAmpersand c = row c.in-DoubleAmpersand.is refl refl

pub returns-in-DoubleEquals : goal.returns-in-DoubleEquals
unfolding level_of level_in means_of means_in operators sign_kind
returns-in-DoubleEquals c = row c.in-DoubleEquals.is (sym c.strict.ensures.level) (ap binary_of c.strict.ensures.operation)

pub returns-in-BangEquals : goal.returns-in-BangEquals
unfolding level_of level_in means_of means_in operators sign_kind
returns-in-BangEquals c = row c.in-BangEquals.is (sym c.strict-in-BangEquals.ensures.level) (ap binary_of c.strict-in-BangEquals.ensures.operation)

pub returns-in-Less : goal.returns-in-Less
unfolding level_of level_in means_of means_in operators sign_kind
returns-in-Less c = row c.in-Less.is (sym c.strict-in-Less.ensures.level) (ap binary_of c.strict-in-Less.ensures.operation)

pub returns-in-LessEquals : goal.returns-in-LessEquals
unfolding level_of level_in means_of means_in operators sign_kind
returns-in-LessEquals c = row c.in-LessEquals.is (sym c.strict-in-LessEquals.ensures.level) (ap binary_of c.strict-in-LessEquals.ensures.operation)

pub returns-in-Greater : goal.returns-in-Greater
unfolding level_of level_in means_of means_in operators sign_kind
returns-in-Greater c = row c.in-Greater.is (sym c.strict-in-Greater.ensures.level) (ap binary_of c.strict-in-Greater.ensures.operation)

pub returns-in-GreaterEquals : goal.returns-in-GreaterEquals
unfolding level_of level_in means_of means_in operators sign_kind
returns-in-GreaterEquals c = row c.in-GreaterEquals.is (sym c.strict-in-GreaterEquals.ensures.level) (ap binary_of c.strict-in-GreaterEquals.ensures.operation)

pub returns-in-Plus : goal.returns-in-Plus
unfolding level_of level_in means_of means_in operators sign_kind
returns-in-Plus c = row c.in-Plus.is (sym c.strict-in-Plus.ensures.level) (ap binary_of c.strict-in-Plus.ensures.operation)

pub returns-in-Minus : goal.returns-in-Minus
unfolding level_of level_in means_of means_in operators sign_kind
returns-in-Minus c = row c.in-Minus.is (sym c.strict-in-Minus.ensures.level) (ap binary_of c.strict-in-Minus.ensures.operation)

pub returns-in-Star : goal.returns-in-Star
unfolding level_of level_in means_of means_in operators sign_kind
returns-in-Star c = row c.in-Star.is (sym c.strict-in-Star.ensures.level) (ap binary_of c.strict-in-Star.ensures.operation)

pub returns-in-Slash : goal.returns-in-Slash
unfolding level_of level_in means_of means_in operators sign_kind
returns-in-Slash c = row c.in-Slash.is (sym c.strict-in-Slash.ensures.level) (ap binary_of c.strict-in-Slash.ensures.operation)

pub returns-in-Percent : goal.returns-in-Percent
unfolding level_of level_in means_of means_in operators sign_kind
returns-in-Percent c = row c.in-Percent.is (sym c.strict-in-Percent.ensures.level) (ap binary_of c.strict-in-Percent.ensures.operation)

pub returns-in_default : goal.returns-in_default
unfolding level_of level_in operators sign_kind
returns-in_default c = simp (ne_eqb 8 _ (λ z. other_number c.in_default.not-DoubleBar (sym z)), ne_eqb 7 _ (λ z. other_number c.in_default.not-DoubleAmpersand (sym z)), ne_eqb 3 _ (λ z. other_number c.in_default.not-DoubleEquals (sym z)), ne_eqb 4 _ (λ z. other_number c.in_default.not-BangEquals (sym z)), ne_eqb 14 _ (λ z. other_number c.in_default.not-Less (sym z)), ne_eqb 5 _ (λ z. other_number c.in_default.not-LessEquals (sym z)), ne_eqb 15 _ (λ z. other_number c.in_default.not-Greater (sym z)), ne_eqb 6 _ (λ z. other_number c.in_default.not-GreaterEquals (sym z)), ne_eqb 9 _ (λ z. other_number c.in_default.not-Plus (sym z)), ne_eqb 10 _ (λ z. other_number c.in_default.not-Minus (sym z)), ne_eqb 11 _ (λ z. other_number c.in_default.not-Star (sym z)), ne_eqb 12 _ (λ z. other_number c.in_default.not-Slash (sym z)), ne_eqb 13 _ (λ z. other_number c.in_default.not-Percent (sym z)))
