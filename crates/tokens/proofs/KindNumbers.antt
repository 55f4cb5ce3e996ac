-- Kinds of tokens have different numbers, and none has 0.
use mathlib.Core.Path.{◌≡◌, refl, sym, ap, ◌∙◌}
use mathlib.Core.List.{List, [], ◌∷◌}
use mathlib.Core.Option.{Option}
use Prim.Native.Nat.{ℕ}
use lib.ListN.{get_or}
use Rattle.tokens.specs.Numbers.{number_of_kind}
use Rattle.tokens.specs.declared.kinds.Kind.{Kind}
use Rattle.tokens.specs.declared.kinds.Kind.TheVariants as kind

kinds : List (Option Kind)
kinds = Option.none ∷ Option.some kind.Name ∷ Option.some kind.Number ∷ Option.some kind.DoubleEquals ∷ Option.some kind.BangEquals ∷ Option.some kind.LessEquals ∷ Option.some kind.GreaterEquals ∷ Option.some kind.DoubleAmpersand ∷ Option.some kind.DoubleBar ∷ Option.some kind.Plus ∷ Option.some kind.Minus ∷ Option.some kind.Star ∷ Option.some kind.Slash ∷ Option.some kind.Percent ∷ Option.some kind.Less ∷ Option.some kind.Greater ∷ Option.some kind.Equals ∷ Option.some kind.Bang ∷ Option.some kind.LeftParen ∷ Option.some kind.RightParen ∷ Option.some kind.LeftBrace ∷ Option.some kind.RightBrace ∷ Option.some kind.LeftBracket ∷ Option.some kind.RightBracket ∷ Option.some kind.Colon ∷ Option.some kind.Semicolon ∷ Option.some kind.Comma ∷ Option.some kind.Var ∷ Option.some kind.Fn ∷ Option.some kind.Let ∷ Option.some kind.If ∷ Option.some kind.Else ∷ Option.some kind.While ∷ Option.some kind.Return ∷ Option.some kind.Emit ∷ Option.some kind.Int ∷ Option.some kind.Bool ∷ Option.some kind.True ∷ Option.some kind.False ∷ []

as_kind : ℕ → Option Kind
unfolding kinds
as_kind n = get_or kinds n Option.none

back : (k : Kind) → as_kind (number_of_kind k) ≡ Option.some k
unfolding as_kind kinds
back kind.Name = refl
back kind.Number = refl
back kind.DoubleEquals = refl
back kind.BangEquals = refl
back kind.LessEquals = refl
back kind.GreaterEquals = refl
back kind.DoubleAmpersand = refl
back kind.DoubleBar = refl
back kind.Plus = refl
back kind.Minus = refl
back kind.Star = refl
back kind.Slash = refl
back kind.Percent = refl
back kind.Less = refl
back kind.Greater = refl
back kind.Equals = refl
back kind.Bang = refl
back kind.LeftParen = refl
back kind.RightParen = refl
back kind.LeftBrace = refl
back kind.RightBrace = refl
back kind.LeftBracket = refl
back kind.RightBracket = refl
back kind.Colon = refl
back kind.Semicolon = refl
back kind.Comma = refl
back kind.Var = refl
back kind.Fn = refl
back kind.Let = refl
back kind.If = refl
back kind.Else = refl
back kind.While = refl
back kind.Return = refl
back kind.Emit = refl
back kind.Int = refl
back kind.Bool = refl
back kind.True = refl
back kind.False = refl

pub other_number : {a b : Kind} → (a ≡ b → ⊥) → number_of_kind a ≡ number_of_kind b → ⊥
other_number {a} {b} h e = let q : ◌≡◌ {A = Option Kind} (Option.some a) (Option.some b) = sym (back a) ∙ ap as_kind e ∙ back b in h (cc)

pub some_number : (a : Kind) → number_of_kind a ≡ 0 → ⊥
unfolding as_kind kinds
some_number a e = let q : ◌≡◌ {A = Option Kind} (Option.some a) Option.none = sym (back a) ∙ ap as_kind e in cc
