-- The numbers of the kinds that src/kinds.rt names, which are those of `kind_of`; and what reading one back gives.
use Rattle.std.specs.Prelude.{◌≡◌, ℕ, ◌<◌, ◌⊎◌, Option, Result, MatchResult}
use Rattle.tokens.specs.declared.kinds.Kind.{Kind}
use Rattle.tokens.specs.declared.kinds.Kind.TheVariants as kind
use Rattle.tokens.specs.declared.kinds.UnknownKind.{UnknownKind}

abbrev pub number_of_kind : Kind → ℕ
number_of_kind kind.Name = 1
number_of_kind kind.Number = 2
number_of_kind kind.DoubleEquals = 3
number_of_kind kind.BangEquals = 4
number_of_kind kind.LessEquals = 5
number_of_kind kind.GreaterEquals = 6
number_of_kind kind.DoubleAmpersand = 7
number_of_kind kind.DoubleBar = 8
number_of_kind kind.Plus = 9
number_of_kind kind.Minus = 10
number_of_kind kind.Star = 11
number_of_kind kind.Slash = 12
number_of_kind kind.Percent = 13
number_of_kind kind.Less = 14
number_of_kind kind.Greater = 15
number_of_kind kind.Equals = 16
number_of_kind kind.Bang = 17
number_of_kind kind.LeftParen = 18
number_of_kind kind.RightParen = 19
number_of_kind kind.LeftBrace = 20
number_of_kind kind.RightBrace = 21
number_of_kind kind.LeftBracket = 22
number_of_kind kind.RightBracket = 23
number_of_kind kind.Colon = 24
number_of_kind kind.Semicolon = 25
number_of_kind kind.Comma = 26
number_of_kind kind.Var = 27
number_of_kind kind.Fn = 28
number_of_kind kind.Let = 29
number_of_kind kind.If = 30
number_of_kind kind.Else = 31
number_of_kind kind.While = 32
number_of_kind kind.Return = 33
number_of_kind kind.Emit = 34
number_of_kind kind.Int = 35
number_of_kind kind.Bool = 36
number_of_kind kind.True = 37
number_of_kind kind.False = 38

-- 0 for none
abbrev pub number_in : Option Kind → ℕ
number_in Option.None = 0
number_in (Option.Some k) = number_of_kind k

-- the kind whose number it is; or the number, which is no kind's
abbrev pub ReadsKind : ℕ → Result Kind UnknownKind → Type 0
ReadsKind n r = MatchResult r (λ k. number_of_kind k ≡ n) (λ e. (e.0 ≡ n) × ((n < 1) ⊎ (38 < n)))
