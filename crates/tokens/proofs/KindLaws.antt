-- A token's words tell the token: what its kind says, and for a name its bytes in the text, for a number its value.
use mathlib.Core.Path.{◌≡◌, refl, sym, ap, ◌∙◌}
use mathlib.Core.List.{List, [], ◌∷◌}
use mathlib.Core.Option.{Option, none, some}
use Prim.Native.Nat.{ℕ, zero, suc}
use Rattle.language.specs.Tree.{Name}
use Rattle.language.specs.Tokens.{Word, Sign, Token}
use Rattle.tokens.specs.Kinds.{sign_kind, word_kind, kind_of}

-- the kinds from 3 on, in their order
unfoldable pub atoms : List Token
atoms =
    Token.sign Sign.double_equals ∷ Token.sign Sign.bang_equals ∷ Token.sign Sign.less_equals ∷ Token.sign Sign.greater_equals ∷ Token.sign Sign.double_ampersand ∷ Token.sign Sign.double_bar ∷ Token.sign Sign.plus ∷ Token.sign Sign.minus ∷ Token.sign Sign.star ∷ Token.sign Sign.slash ∷ Token.sign Sign.percent ∷ Token.sign Sign.less ∷ Token.sign Sign.greater ∷ Token.sign Sign.equals ∷ Token.sign Sign.bang ∷ Token.sign Sign.left_paren ∷ Token.sign Sign.right_paren ∷ Token.sign Sign.left_brace ∷ Token.sign Sign.right_brace ∷ Token.sign Sign.left_bracket ∷ Token.sign Sign.right_bracket ∷ Token.sign Sign.colon ∷ Token.sign Sign.semicolon ∷ Token.sign Sign.comma ∷ Token.word Word.var ∷ Token.word Word.fn ∷ Token.word Word.«let» ∷ Token.word Word.if ∷ Token.word Word.else ∷ Token.word Word.while ∷ Token.word Word.return ∷ Token.word Word.emit ∷ Token.word Word.int ∷ Token.word Word.bool ∷ Token.word Word.true ∷ Token.word Word.false ∷ []

nth : List Token → ℕ → Option Token
nth [] k = none
nth (t ∷ ts) zero = some t
nth (t ∷ ts) (suc k) = nth ts k

-- the token of a kind, with a name's bytes and a number's value
unfoldable pub token_of : ℕ → Name → ℕ → Option Token
unfolding nth
token_of zero x n = none
token_of (suc zero) x n = some (Token.name x)
token_of (suc (suc zero)) x n = some (Token.number n)
token_of (suc (suc (suc k))) x n = nth atoms k

sign_back : (s : Sign) (x : Name) (n : ℕ) → token_of (sign_kind s) x n ≡ some (Token.sign s)
unfolding token_of atoms sign_kind
sign_back Sign.double_equals x n = refl
sign_back Sign.bang_equals x n = refl
sign_back Sign.less_equals x n = refl
sign_back Sign.greater_equals x n = refl
sign_back Sign.double_ampersand x n = refl
sign_back Sign.double_bar x n = refl
sign_back Sign.plus x n = refl
sign_back Sign.minus x n = refl
sign_back Sign.star x n = refl
sign_back Sign.slash x n = refl
sign_back Sign.percent x n = refl
sign_back Sign.less x n = refl
sign_back Sign.greater x n = refl
sign_back Sign.equals x n = refl
sign_back Sign.bang x n = refl
sign_back Sign.left_paren x n = refl
sign_back Sign.right_paren x n = refl
sign_back Sign.left_brace x n = refl
sign_back Sign.right_brace x n = refl
sign_back Sign.left_bracket x n = refl
sign_back Sign.right_bracket x n = refl
sign_back Sign.colon x n = refl
sign_back Sign.semicolon x n = refl
sign_back Sign.comma x n = refl

word_back : (w : Word) (x : Name) (n : ℕ) → token_of (word_kind w) x n ≡ some (Token.word w)
unfolding token_of atoms word_kind
word_back Word.var x n = refl
word_back Word.fn x n = refl
word_back Word.«let» x n = refl
word_back Word.if x n = refl
word_back Word.else x n = refl
word_back Word.while x n = refl
word_back Word.return x n = refl
word_back Word.emit x n = refl
word_back Word.int x n = refl
word_back Word.bool x n = refl
word_back Word.true x n = refl
word_back Word.false x n = refl

-- the bytes of a name and the value of a number; nothing of other tokens
unfoldable pub name_in : Token → Name
name_in (Token.name x) = x
name_in (Token.word w) = []
name_in (Token.number n) = []
name_in (Token.sign s) = []

unfoldable pub number_in : Token → ℕ
number_in (Token.name x) = 0
number_in (Token.word w) = 0
number_in (Token.number n) = n
number_in (Token.sign s) = 0

pub token_back : (t : Token) → token_of (kind_of t) (name_in t) (number_in t) ≡ some t
unfolding kind_of name_in number_in token_of
token_back (Token.name x) = refl
token_back (Token.word w) = word_back w [] 0
token_back (Token.number n) = refl
token_back (Token.sign s) = sign_back s [] 0

-- a token whose kind is a sign's, or a word's, is that sign, or that word
pub kind_sign : (t : Token) (s : Sign) → kind_of t ≡ sign_kind s → t ≡ Token.sign s
kind_sign t s e =
    let p : some t ≡ some (Token.sign s) = sym (token_back t) ∙ ap (λ (k : ℕ). token_of k (name_in t) (number_in t)) e ∙ sign_back s (name_in t) (number_in t) in
    cc

pub kind_word : (t : Token) (w : Word) → kind_of t ≡ word_kind w → t ≡ Token.word w
kind_word t w e =
    let p : some t ≡ some (Token.word w) = sym (token_back t) ∙ ap (λ (k : ℕ). token_of k (name_in t) (number_in t)) e ∙ word_back w (name_in t) (number_in t) in
    cc

pub kind_name : (t : Token) → kind_of t ≡ 1 → t ≡ Token.name (name_in t)
unfolding token_of
kind_name t e =
    let p : some t ≡ some (Token.name (name_in t)) = sym (token_back t) ∙ ap (λ (k : ℕ). token_of k (name_in t) (number_in t)) e in
    cc

pub kind_number : (t : Token) → kind_of t ≡ 2 → t ≡ Token.number (number_in t)
unfolding token_of
kind_number t e =
    let p : some t ≡ some (Token.number (number_in t)) = sym (token_back t) ∙ ap (λ (k : ℕ). token_of k (name_in t) (number_in t)) e in
    cc
