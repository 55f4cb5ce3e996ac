-- The numbers of src are the places in the tables: each operator's number stands for it, as words are written too, and past the last there is none.
use mathlib.Core.Path.{◌≡◌, refl}
use mathlib.Core.List.{List, [], ◌∷◌, map}
use Prim.Native.Nat.{ℕ, zero, suc, ◌<◌}
use native.Mathlib.Omega.{arith}
use lib.ListN.{get_or, get_or-eq_default}
use Rattle.language.specs.Tree as T
use Rattle.flat.specs.declared.operator.Unary as U
use Rattle.flat.specs.declared.operator.Unary.TheVariants as UV
use Rattle.flat.specs.declared.operator.Strict as O
use Rattle.flat.specs.declared.operator.Strict.TheVariants as OV
use Rattle.flat.specs.Items.{unary, strict, unknown}
use Rattle.flat.specs.Words as W
use Rattle.flat.specs.Words.{unaries, stricts, kinds, kind_of}
use Rattle.flat.specs.Numbers.{unary_number, strict_number, unary_of, strict_of, unary_named, strict_named}

pub unary_at : (o : U.Unary) → get_or unaries (unary_number o) unknown ≡ unary (unary_of o)
unary_at UV.Negate = refl
unary_at UV.Not = refl

pub no_unary : (n : ℕ) → 1 < n → get_or unaries n unknown ≡ unknown
no_unary n h = get_or-eq_default unaries unknown (omega arith)

pub strict_at : (o : O.Strict) → get_or stricts (strict_number o) unknown ≡ strict (strict_of o)
strict_at OV.Eq = refl
strict_at OV.Ne = refl
strict_at OV.Lt = refl
strict_at OV.Le = refl
strict_at OV.Gt = refl
strict_at OV.Ge = refl
strict_at OV.Add = refl
strict_at OV.Sub = refl
strict_at OV.Mul = refl
strict_at OV.Div = refl
strict_at OV.Rem = refl

pub no_strict : (n : ℕ) → 10 < n → get_or stricts n unknown ≡ unknown
no_strict n h = get_or-eq_default stricts unknown (omega arith)

pub no_kind : (n a b : ℕ) → 8 < n → kind_of n a b ≡ unknown
unfolding kind_of
no_kind n a b h = get_or-eq_default (kinds a b) unknown (omega arith)

unary_words : (o : U.Unary) → unary_number o ≡ W.unary_number (unary_of o)
unfolding W.unary_number
unary_words UV.Negate = refl
unary_words UV.Not = refl

strict_words : (o : O.Strict) → strict_number o ≡ W.strict_number (strict_of o)
unfolding W.strict_number
strict_words OV.Eq = refl
strict_words OV.Ne = refl
strict_words OV.Lt = refl
strict_words OV.Le = refl
strict_words OV.Gt = refl
strict_words OV.Ge = refl
strict_words OV.Add = refl
strict_words OV.Sub = refl
strict_words OV.Mul = refl
strict_words OV.Div = refl
strict_words OV.Rem = refl

-- What a number names is the operator at that place in the table, and past the last the last one.
mapped : {A B : Type 0} (f : A → B) (xs : List A) (n : ℕ) (d : A) → f (get_or xs n d) ≡ get_or (map f xs) n (f d)
mapped f [] n d = refl
mapped f (x ∷ xs) zero d = refl
mapped f (x ∷ xs) (suc n) d = mapped f xs n d

pub unary_of_named : (n : ℕ) → unary_of (unary_named n) ≡ get_or (T.negate ∷ []) n T.not
unary_of_named n = mapped unary_of (UV.Negate ∷ []) n UV.Not

pub strict_of_named : (n : ℕ) → strict_of (strict_named n) ≡ get_or (T.eq ∷ T.ne ∷ T.lt ∷ T.le ∷ T.gt ∷ T.ge ∷ T.add ∷ T.sub ∷ T.mul ∷ T.div ∷ []) n T.rem
strict_of_named n = mapped strict_of (OV.Eq ∷ OV.Ne ∷ OV.Lt ∷ OV.Le ∷ OV.Gt ∷ OV.Ge ∷ OV.Add ∷ OV.Sub ∷ OV.Mul ∷ OV.Div ∷ []) n OV.Rem
