-- Kinds and operators by their numbers: what a conversion or a test of a word says.
use Prim.Native.Nat.{ℕ}
use native.Mathlib.Omega.{arith}
use mathlib.Core.Path.{◌≡◌, refl, sym, ap, ◌∙◌}
use mathlib.Core.Bool.{Bool, true, false}
use mathlib.Core.List.{[], ◌∷◌}
use borrow.Author.Tests.{clash, eqb-true, eq-eqb}
use denote.Enum.Declared.{tag_of}
use lib.Dec.{eqb}
use lib.ListN.{get_or, get_or-eq_default}
use Rattle.std.specs.Prelude.{Result, Ok, Err}
use Rattle.std.specs.Result.{result_unwrap_or}
use Rattle.language.specs.Tree as T
use Rattle.flat.specs.contracts.item.Kind as KindProofs
use Rattle.flat.specs.declared.UnknownNumber.{UnknownNumber}
use Rattle.flat.specs.declared.item.Kind.{Kind}
use Rattle.flat.specs.declared.item.Kind.TheVariants as K
use Rattle.flat.specs.declared.statement.Kind as S
use Rattle.flat.specs.declared.statement.Kind.TheVariants as SV
use Rattle.flat.specs.declared.operator.Unary as U
use Rattle.flat.specs.declared.operator.Unary.TheVariants as UV
use Rattle.flat.specs.declared.operator.Strict as O
use Rattle.flat.specs.declared.operator.Strict.TheVariants as OV
use Rattle.flat.specs.Numbers.{Decodes, kind_number, statement_number, unary_number, strict_number, unary_of, strict_of}
use Rattle.compiler.specs.Post.{unary_of_number, strict_of_number}

-- a word was compared with a kind's number
pub kind_tag : (k : Kind) → tag_of KindProofs.the_type k ≡ kind_number k
kind_tag K.Number = refl
kind_tag K.Local = refl
kind_tag K.Element = refl
kind_tag K.Call = refl
kind_tag K.Unary = refl
kind_tag K.Strict = refl
kind_tag K.And = refl
kind_tag K.Or = refl
kind_tag K.Join = refl

pub tells : {w n : ℕ} {r : Bool} → r ≡ eqb w n → r ≡ true → w ≡ n
tells {w} {n} e h = eqb-true w n (sym e ∙ h)

pub denies : {w n : ℕ} {r : Bool} → r ≡ eqb w n → r ≡ false → w ≡ n → ⊥
denies {w} {n} e h g = clash (sym h ∙ e ∙ eq-eqb w n g)

differ : {K : Type 0} (number : K → ℕ) (at : ℕ → K) → ((k : K) → at (number k) ≡ k) → {k : K} (m : K) {n : ℕ} → (k ≡ m → ⊥) → number k ≡ n → n ≡ number m → ⊥
differ number at back {k} m h e f = h (sym (back k) ∙ ap at (e ∙ f) ∙ back m)

-- a kind that is not another has another number
abbrev kind_at : ℕ → Kind
kind_at n = get_or (K.Number ∷ K.Local ∷ K.Element ∷ K.Call ∷ K.Unary ∷ K.Strict ∷ K.And ∷ K.Or ∷ []) n K.Join

kind_back : (k : Kind) → kind_at (kind_number k) ≡ k
kind_back K.Number = refl
kind_back K.Local = refl
kind_back K.Element = refl
kind_back K.Call = refl
kind_back K.Unary = refl
kind_back K.Strict = refl
kind_back K.And = refl
kind_back K.Or = refl
kind_back K.Join = refl

pub apart : {k : Kind} (m : Kind) {n : ℕ} → (k ≡ m → ⊥) → kind_number k ≡ n → n ≡ kind_number m → ⊥
apart m h e f = differ kind_number kind_at kind_back m h e f

-- the same of statements
abbrev statement_at : ℕ → S.Kind
statement_at n = get_or (SV.Put ∷ SV.Store ∷ SV.Choose ∷ SV.While ∷ SV.Leave ∷ SV.Give ∷ SV.Emit ∷ []) n SV.Run

statement_back : (k : S.Kind) → statement_at (statement_number k) ≡ k
statement_back SV.Put = refl
statement_back SV.Store = refl
statement_back SV.Choose = refl
statement_back SV.While = refl
statement_back SV.Leave = refl
statement_back SV.Give = refl
statement_back SV.Emit = refl
statement_back SV.Run = refl

pub statements_apart : {k : S.Kind} (m : S.Kind) {n : ℕ} → (k ≡ m → ⊥) → statement_number k ≡ n → n ≡ statement_number m → ⊥
statements_apart m h e f = differ statement_number statement_at statement_back m h e f

-- operators
unary_named : (o : U.Unary) → unary_of o ≡ unary_of_number (unary_number o)
unfolding unary_of_number
unary_named UV.Negate = refl
unary_named UV.Not = refl

pub unary_or_last : (r : Result U.Unary UnknownNumber) (n : ℕ) → Decodes unary_number 1 n r → unary_of (result_unwrap_or r UV.Not) ≡ unary_of_number n
unfolding unary_of_number
unary_or_last (Ok o) n e = unary_named o ∙ ap unary_of_number e
unary_or_last (Err x) n e = sym (get_or-eq_default (T.negate ∷ []) T.not (omega (arith, e.1)))

strict_named : (o : O.Strict) → strict_of o ≡ strict_of_number (strict_number o)
unfolding strict_of_number
strict_named OV.Eq = refl
strict_named OV.Ne = refl
strict_named OV.Lt = refl
strict_named OV.Le = refl
strict_named OV.Gt = refl
strict_named OV.Ge = refl
strict_named OV.Add = refl
strict_named OV.Sub = refl
strict_named OV.Mul = refl
strict_named OV.Div = refl
strict_named OV.Rem = refl

pub strict_or_last : (r : Result O.Strict UnknownNumber) (n : ℕ) → Decodes strict_number 10 n r → strict_of (result_unwrap_or r OV.Rem) ≡ strict_of_number n
unfolding strict_of_number
strict_or_last (Ok o) n e = strict_named o ∙ ap strict_of_number e
strict_or_last (Err x) n e =
    sym (get_or-eq_default (T.eq ∷ T.ne ∷ T.lt ∷ T.le ∷ T.gt ∷ T.ge ∷ T.add ∷ T.sub ∷ T.mul ∷ T.div ∷ []) T.rem (omega (arith, e.1)))
