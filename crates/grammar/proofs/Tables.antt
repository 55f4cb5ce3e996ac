-- The operators' table by kinds of tokens.
use mathlib.Core.Path.{◌≡◌, refl, sym, ap, subst, ◌∙◌}
use mathlib.Core.Logic.{inl, inr}
use mathlib.Core.List.{List, [], ◌∷◌}
use Prim.Native.Nat.{ℕ, ◌≤◌}
use native.Mathlib.Omega.{arith}
use borrow.Author.Tests.{ne_eqb}
use Rattle.language.specs.Tree.{Binary}
use Rattle.language.specs.Grammar.{Operator, operators}
use Rattle.tokens.specs.Kinds.{sign_kind}
use Rattle.grammar.specs.Parse.{level_in, means_in, level_of, means_of}
use Rattle.grammar.proofs.TokenKinds.{sign_low}
use Rattle.grammar.specs.Told.{IsNoKind}
use Rattle.grammar.specs.Operator.{binary_of, Operates}
use Rattle.grammar.specs.declared.operators.Operator as code
use Rattle.tokens.specs.Numbers.{number_of_kind}
use Rattle.tokens.specs.declared.kinds.Kind.{Kind}

-- the kinds past those of signs
level_in_lem : (rs : List Operator) (k : ℕ) → 27 ≤ k → level_in rs k ≡ 0
unfolding level_in
level_in_lem [] k h = refl
level_in_lem (r ∷ rs) k h = rw (ne_eqb (sign_kind r.spelt) k (λ e. omega (arith, sign_low r.spelt))) (level_in_lem rs k h)

means_in_lem : (rs : List Operator) (k : ℕ) → 27 ≤ k → means_in rs k ≡ Binary.or
unfolding means_in
means_in_lem [] k h = refl
means_in_lem (r ∷ rs) k h = rw (ne_eqb (sign_kind r.spelt) k (λ e. omega (arith, sign_low r.spelt))) (means_in_lem rs k h)

pub level_past : (k : ℕ) → 27 ≤ k → 0 ≡ level_of k
unfolding level_of
level_past k h = sym (level_in_lem operators k h)

level_zero : level_of 0 ≡ 0
unfolding level_of level_in operators sign_kind
level_zero = refl

-- what is no kind of token is no operator
pub level_none : (k : ℕ) → IsNoKind k → level_of k ≡ 0
level_none k (inl h) = let q : k ≡ 0 = omega arith in ap level_of q ∙ level_zero
level_none k (inr h) = sym (level_past k (omega arith))

-- a row of the table, by its kind
pub row : {k x : Kind} {o : code.Operator} → k ≡ x → level_of (number_of_kind x) ≡ o.level → binary_of o.operation ≡ means_of (number_of_kind x) → Operates (number_of_kind k) o
row {o = o} e l m = subst (λ (k : Kind). Operates (number_of_kind k) o) (sym e) (record { level = l; means = m })
