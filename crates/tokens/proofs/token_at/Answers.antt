-- `token_at` meets its contract: the first byte chooses, as in the definition.
use mathlib.Core.Path.{sym, ◌∙◌, ap}
use Rattle.tokens.specs.Seen.{seen}
use Rattle.tokens.proofs.Looks.{token_name, token_number, token_sign}
use Rattle.tokens.proofs.token_at.Goals as goal

pub name_at-requires : goal.name_at-requires
name_at-requires c = (c.requires, sym c.is_letter.ensures ∙ c.if-is_letter.true)

pub returns-then-is_letter : goal.returns-then-is_letter
returns-then-is_letter c = c.name_at.ensures ∙ ap seen (token_name c.args.text.now c.args.i (sym c.is_letter.ensures ∙ c.if-is_letter.true))

pub number_at-requires : goal.number_at-requires
number_at-requires c = (c.requires, sym c.is_digit.ensures ∙ c.if-is_digit.true)

pub returns-then-is_digit : goal.returns-then-is_digit
returns-then-is_digit c = c.number_at.ensures ∙ ap seen (token_number c.args.text.now c.args.i (sym c.is_letter.ensures ∙ c.if-is_letter.false) (sym c.is_digit.ensures ∙ c.if-is_digit.true))

pub sign_at-requires : goal.sign_at-requires
sign_at-requires c = c.requires

pub returns : goal.returns
returns c = c.sign_at.ensures ∙ ap seen (token_sign c.args.text.now c.args.i (sym c.is_letter.ensures ∙ c.if-is_letter.false) (sym c.is_digit.ensures ∙ c.if-is_digit.false))
