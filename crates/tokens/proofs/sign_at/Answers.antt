-- `sign_at` meets its contract: two bytes tell the sign, and its kind how many bytes it has.
use mathlib.Core.Path.{refl, ◌∙◌, ap}
use mathlib.Core.List.{[], ◌∷◌}
use Prim.Native.Nat.{ℕ}
use lib.ListN.{get_or}
use Rattle.tokens.specs.Numbers.{number_of_kind}
use Rattle.tokens.specs.Seen.{Seen, sign_in}
use Rattle.tokens.proofs.KindNumbers.{some_number}
use Rattle.tokens.proofs.Looks.{sign_none, sign_some}
use Rattle.tokens.proofs.sign_at.Goals as goal

pub bounds-text-i : goal.bounds-text-i
bounds-text-i c = c.requires

pub returns-in_err-kind : goal.returns-in_err-kind
returns-in_err-kind c = rw c.from_residual.ensures (sign_none _ _ _ c.requires (c.in_err-kind.ensures ∙ ap (λ (x : ℕ). sign_in (get_or c.args.text.now c.args.i 0 ∷ x ∷ [])) c.item_or.ensures) refl)

pub returns : goal.returns
returns c =
    ap (Seen.Token (number_of_kind c.in_ok-kind.kind) 0) c.sign_size.ensures
    ∙ sign_some _ _ _ c.requires (c.in_ok-kind.ensures ∙ ap (λ (x : ℕ). sign_in (get_or c.args.text.now c.args.i 0 ∷ x ∷ [])) c.item_or.ensures) (some_number c.in_ok-kind.kind)
