-- An arm that two variants share, and what `?` hands over.
use mathlib.Core.Path.{◌≡◌, sym, ap, ◌∙◌}
use mathlib.Core.Logic.{◌⊎◌, inl, inr, ⊎_elim}
use Prim.Native.Nat.{ℕ}
use lib.Dec.{eqb}
use borrow.Author.Tests.{ne_eqb}
use Rattle.word.specs.Choice.{pick}
use Rattle.std.specs.Prelude.{Result, Ok, Err, None, IsErrAnd}
use Rattle.console.specs.declared.arguments.Setting.{Setting}
use Rattle.console.specs.declared.arguments.Word.{Word}
use Rattle.console.specs.declared.arguments.Word.TheVariants.{Unknown, Other}
use Rattle.console.specs.declared.arguments.Wrong.{Wrong}
use Rattle.console.specs.declared.arguments.Given.{Given}
use Rattle.console.specs.declared.arguments.Seen.{Seen}
use Rattle.console.specs.Arguments.{with_given, valued}

pub valued_other : (p : Setting) (w : Word) (i : ℕ) (s : Seen) (g : Given) → (w ≡ Unknown) ⊎ (w ≡ Other) → g ≡ with_given p i s.given → Ok (record { given = g; expected = None; at = s.at; files = s.files }) ≡ valued p w i s
unfolding valued
valued_other p w i s g k h = ap made h ∙ sym (⊎_elim (λ e. ap (λ v. valued p v i s) e) (λ e. ap (λ v. valued p v i s) e) k)
  where
    made : Given → Result Seen Wrong
    made x = Ok (record { given = x; expected = None; at = s.at; files = s.files })

pub err_is : (r : Result Given Wrong) (x : Wrong) → IsErrAnd r (λ e. e ≡ x) → r ≡ Err x
err_is (Ok g) x h = absurd h
err_is (Err e) x h = ap Err h

-- with no input, or no block, neither is too much
pub one_source : {A : Type 0} (a b : ℕ) (s t : A) → (a ≡ 0) ⊎ ((a ≡ 0 → ⊥) × (b ≡ 0)) → s ≡ pick (eqb a 0) s (pick (eqb b 0) s t)
one_source a b s t (inl e) = rw e
one_source a b s t (inr (n, e)) = rw (ne_eqb a 0 n, e)
