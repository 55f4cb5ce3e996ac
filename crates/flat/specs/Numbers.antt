-- The numbers of kinds, operators and traps. In words a kind or an operator is its place in its table in Words.antt; proofs/Tables.antt has the laws.
use Rattle.std.specs.Prelude.{◌≡◌, ℕ, ◌<◌, [], ◌∷◌, get_or, Result, MatchResult}
use Rattle.language.specs.Tree as T
use Rattle.language.specs.Meaning.{division_by_zero, index_outside, too_many_activations, log_full}
use Rattle.flat.specs.Items.{malformed}
use Rattle.flat.specs.declared.UnknownNumber.{UnknownNumber}
use Rattle.flat.specs.declared.item.Kind as I
use Rattle.flat.specs.declared.item.Kind.TheVariants as IV
use Rattle.flat.specs.declared.statement.Kind as S
use Rattle.flat.specs.declared.statement.Kind.TheVariants as SV
use Rattle.flat.specs.declared.operator.Unary as U
use Rattle.flat.specs.declared.operator.Unary.TheVariants as UV
use Rattle.flat.specs.declared.operator.Strict as O
use Rattle.flat.specs.declared.operator.Strict.TheVariants as OV
use Rattle.flat.specs.declared.trap.Trap as R
use Rattle.flat.specs.declared.trap.Trap.TheVariants as RV

abbrev pub kind_number : I.Kind → ℕ
kind_number IV.Number = 0
kind_number IV.Local = 1
kind_number IV.Element = 2
kind_number IV.Call = 3
kind_number IV.Unary = 4
kind_number IV.Strict = 5
kind_number IV.And = 6
kind_number IV.Or = 7
kind_number IV.Join = 8

abbrev pub statement_number : S.Kind → ℕ
statement_number SV.Put = 0
statement_number SV.Store = 1
statement_number SV.Choose = 2
statement_number SV.While = 3
statement_number SV.Leave = 4
statement_number SV.Give = 5
statement_number SV.Emit = 6
statement_number SV.Run = 7

-- the operators that they are
abbrev pub unary_of : U.Unary → T.Unary
unary_of UV.Negate = T.negate
unary_of UV.Not = T.not

abbrev pub strict_of : O.Strict → T.Strict
strict_of OV.Eq = T.eq
strict_of OV.Ne = T.ne
strict_of OV.Lt = T.lt
strict_of OV.Le = T.le
strict_of OV.Gt = T.gt
strict_of OV.Ge = T.ge
strict_of OV.Add = T.add
strict_of OV.Sub = T.sub
strict_of OV.Mul = T.mul
strict_of OV.Div = T.div
strict_of OV.Rem = T.rem

-- Those of Words.antt (proofs/Tables.antt), by cases, so that they compute where they are cited.
abbrev pub unary_number : U.Unary → ℕ
unary_number UV.Negate = 0
unary_number UV.Not = 1

abbrev pub strict_number : O.Strict → ℕ
strict_number OV.Eq = 0
strict_number OV.Ne = 1
strict_number OV.Lt = 2
strict_number OV.Le = 3
strict_number OV.Gt = 4
strict_number OV.Ge = 5
strict_number OV.Add = 6
strict_number OV.Sub = 7
strict_number OV.Mul = 8
strict_number OV.Div = 9
strict_number OV.Rem = 10

-- the operators that numbers name: those past the table name the last
abbrev pub unary_named : ℕ → U.Unary
unary_named n = get_or (UV.Negate ∷ []) n UV.Not

abbrev pub strict_named : ℕ → O.Strict
strict_named n = get_or (OV.Eq ∷ OV.Ne ∷ OV.Lt ∷ OV.Le ∷ OV.Gt ∷ OV.Ge ∷ OV.Add ∷ OV.Sub ∷ OV.Mul ∷ OV.Div ∷ []) n OV.Rem

abbrev pub trap_number : R.Trap → ℕ
trap_number RV.Malformed = malformed
trap_number RV.DivisionByZero = division_by_zero
trap_number RV.IndexOutside = index_outside
trap_number RV.TooManyActivations = too_many_activations
trap_number RV.LogFull = log_full

-- A conversion of number n: what has this number, or n where it is past the last.
abbrev pub Decodes : {K : Type 0} → (K → ℕ) → ℕ → ℕ → Result K UnknownNumber → Type 0
Decodes number last n r = MatchResult r (λ k. number k ≡ n) (λ e. (e.0 ≡ n) × (last < n))
