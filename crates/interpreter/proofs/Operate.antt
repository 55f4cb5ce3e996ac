-- Operators by their numbers: what number means what, and what that gives.
use mathlib.Core.Path.{◌≡◌, ap, sym, ◌∙◌}
use mathlib.Core.List.{List}
use mathlib.Core.Bool.{Bool, not}
use Prim.Native.Nat.{ℕ, ◌<◌}
use lib.Dec.{eqb}
use lib.ListN.{get_or}
use borrow.Author.Tests.{eq-eqb, ne_eqb}
use Rattle.std.specs.Prelude.{Ok, Err, IsErrAnd}
use Rattle.std.specs.Prelude as P
use Rattle.word.specs.Word.{add_w, sub_w, mul_w, neg_w, quot_s, rem_s, lt_s, bit_of}
use Rattle.language.specs.Meaning.{World, bind, apply, operate}
use Rattle.flat.specs.Items.{Kind, unknown, step}
use Rattle.flat.specs.Words.{stricts}
use Rattle.flat.specs.Numbers.{unary_number, strict_number, strict_of}
use Rattle.flat.proofs.Tables.{no_unary, strict_at, no_strict}
use Rattle.flat.specs.declared.operator.Unary as U
use Rattle.flat.specs.declared.operator.Unary.TheVariants.{Negate, Not}
use Rattle.flat.specs.declared.operator.Strict as S
use Rattle.flat.specs.declared.operator.Strict.TheVariants.{Eq, Ne, Lt, Le, Gt, Ge, Add, Sub, Mul, Div, Rem}
use Rattle.flat.specs.declared.trap.Trap.TheVariants.{Malformed, DivisionByZero}
use Rattle.interpreter.specs.declared.Stop.{Stop}
use Rattle.interpreter.specs.declared.Stop.TheVariants.{Trapped}
use Rattle.interpreter.specs.Post.{value_of, Strictly, Unarily}

-- what has number n is j
pub numbered : {K : Type 0} (number : K → ℕ) {k j : K} {n : ℕ} → number k ≡ n → k ≡ j → n ≡ number j
numbered number e z = sym e ∙ ap number z

module _ {op a b : ℕ} where
  module _ {k : S.Strict} (e : strict_number k ≡ op) where
    known : (o : S.Strict) {r : P.Result ℕ Stop} → k ≡ o → ((ls : List ℕ) (w : World) → operate (strict_of o) a b ls w ≡ value_of r ls w) → Strictly op a b r
    unfolding step
    known o {r} z h =
        record { same = λ invoke vs q ls w x y. ap (λ (j : Kind). step invoke j vs q ls w) (ap (λ (n : ℕ). get_or stricts n unknown) (numbered strict_number e z) ∙ strict_at o) ∙ (rw (← x, ← y, h ls w)) }

    pub is_eq : {r : ℕ} → k ≡ Eq → r ≡ bit_of (eqb a b) → Strictly op a b (Ok r)
    unfolding operate
    is_eq z g = known Eq z (λ ls w. rw g)

    pub is_ne : {r : ℕ} → k ≡ Ne → r ≡ bit_of (not (eqb a b)) → Strictly op a b (Ok r)
    unfolding operate
    is_ne z g = known Ne z (λ ls w. rw g)

    pub is_lt : {r : ℕ} {t : Bool} → k ≡ Lt → t ≡ lt_s a b → r ≡ bit_of t → Strictly op a b (Ok r)
    unfolding operate
    is_lt z t g = known Lt z (λ ls w. rw (g, t))

    pub is_le : {r : ℕ} {t : Bool} → k ≡ Le → t ≡ lt_s b a → r ≡ bit_of (not t) → Strictly op a b (Ok r)
    unfolding operate
    is_le z t g = known Le z (λ ls w. rw (g, t))

    pub is_gt : {r : ℕ} {t : Bool} → k ≡ Gt → t ≡ lt_s b a → r ≡ bit_of t → Strictly op a b (Ok r)
    unfolding operate
    is_gt z t g = known Gt z (λ ls w. rw (g, t))

    pub is_ge : {r : ℕ} {t : Bool} → k ≡ Ge → t ≡ lt_s a b → r ≡ bit_of (not t) → Strictly op a b (Ok r)
    unfolding operate
    is_ge z t g = known Ge z (λ ls w. rw (g, t))

    pub is_add : {r : ℕ} → k ≡ Add → r ≡ add_w a b → Strictly op a b (Ok r)
    unfolding operate
    is_add z g = known Add z (λ ls w. rw g)

    pub is_sub : {r : ℕ} → k ≡ Sub → r ≡ sub_w a b → Strictly op a b (Ok r)
    unfolding operate
    is_sub z g = known Sub z (λ ls w. rw g)

    pub is_mul : {r : ℕ} → k ≡ Mul → r ≡ mul_w a b → Strictly op a b (Ok r)
    unfolding operate
    is_mul z g = known Mul z (λ ls w. rw g)

    pub is_div : {r : ℕ} → k ≡ Div → (b ≡ 0 → ⊥) → r ≡ quot_s a b → Strictly op a b (Ok r)
    unfolding operate
    is_div z y g = known Div z (λ ls w. rw (ne_eqb b 0 y, g))

    pub is_rem : {r : ℕ} → k ≡ Rem → (b ≡ 0 → ⊥) → r ≡ rem_s a b → Strictly op a b (Ok r)
    unfolding operate
    is_rem z y g = known Rem z (λ ls w. rw (ne_eqb b 0 y, g))

    pub div_by_zero : k ≡ Div → b ≡ 0 → Strictly op a b (Err (Trapped DivisionByZero))
    unfolding operate
    div_by_zero z y = known Div z (λ ls w. rw (eq-eqb b 0 y))

    pub rem_by_zero : k ≡ Rem → b ≡ 0 → Strictly op a b (Err (Trapped DivisionByZero))
    unfolding operate
    rem_by_zero z y = known Rem z (λ ls w. rw (eq-eqb b 0 y))

  pub unknown_strict : (r : P.Result ℕ Stop) → 10 < op → IsErrAnd r (λ s. s ≡ Trapped Malformed) → Strictly op a b r
  unfolding step bind
  unknown_strict (Ok v) h g = absurd g
  unknown_strict (Err s) h g = record { same = λ invoke vs k ls w x y. rw (no_strict op h, g) }

module _ {op a : ℕ} where
  module _ {k : U.Unary} (e : unary_number k ≡ op) where
    pub is_negate : {r : ℕ} → k ≡ Negate → r ≡ neg_w a → Unarily op a (Ok r)
    unfolding step bind apply
    is_negate z g = record { same = λ invoke vs k ls w x. rw (numbered unary_number e z, g, x) }

    pub is_not : {r : ℕ} → k ≡ Not → r ≡ bit_of (eqb a 0) → Unarily op a (Ok r)
    unfolding step bind apply
    is_not z g = record { same = λ invoke vs k ls w x. rw (numbered unary_number e z, g, x) }

  pub unknown_unary : (r : P.Result ℕ Stop) → 1 < op → IsErrAnd r (λ s. s ≡ Trapped Malformed) → Unarily op a r
  unfolding step bind
  unknown_unary (Ok v) h g = absurd g
  unknown_unary (Err s) h g = record { same = λ invoke vs k ls w x. rw (no_unary op h, g) }
