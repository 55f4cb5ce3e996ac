-- `see` meets its contract: each arm is the definition's clause.
use mathlib.Core.Path.{sym, ap, ◌∙◌}
use Rattle.console.specs.Arguments.{see_of, see_with, new_of}
use Rattle.console.proofs.arguments.Seen.see.Goals as goal

pub returns-in-Some : goal.returns-in-Some
unfolding see_of see_with
returns-in-Some c = c.value.ensures ∙ sym (ap (λ o. see_with o c.args.command c.args.word c.args.i c.args.self) c.in-Some.is)

pub returns-in-Name : goal.returns-in-Name
unfolding see_of see_with new_of
returns-in-Name c = c.name.ensures ∙ sym (ap (λ o. see_with o c.args.command c.args.word c.args.i c.args.self) c.in_default.is ∙ ap (λ w. new_of c.args.command w c.args.i c.args.self) c.in-Name.is)

pub returns-in-Unknown : goal.returns-in-Unknown
unfolding see_of see_with new_of
returns-in-Unknown c = rw (c.in_default.is, c.in-Unknown.is)

pub returns-in-Other : goal.returns-in-Other
unfolding see_of see_with new_of
returns-in-Other c = c.file.ensures ∙ sym (ap (λ o. see_with o c.args.command c.args.word c.args.i c.args.self) c.in_default.is ∙ ap (λ w. new_of c.args.command w c.args.i c.args.self) c.in-Other.is)
