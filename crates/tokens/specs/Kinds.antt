-- Tokens as words, three for each: its kind, its place, its value. The kinds are numbers by the table `kind_of`; 0 is no kind.
use Rattle.std.specs.Prelude.{List, [], ◌∷◌, ℕ, ◌*◌, length}
use Rattle.language.specs.Tokens.{Word, Sign, Token, Placed, longest_text}

unfoldable pub sign_kind : Sign → ℕ
sign_kind Sign.double_equals = 3
sign_kind Sign.bang_equals = 4
sign_kind Sign.less_equals = 5
sign_kind Sign.greater_equals = 6
sign_kind Sign.double_ampersand = 7
sign_kind Sign.double_bar = 8
sign_kind Sign.plus = 9
sign_kind Sign.minus = 10
sign_kind Sign.star = 11
sign_kind Sign.slash = 12
sign_kind Sign.percent = 13
sign_kind Sign.less = 14
sign_kind Sign.greater = 15
sign_kind Sign.equals = 16
sign_kind Sign.bang = 17
sign_kind Sign.left_paren = 18
sign_kind Sign.right_paren = 19
sign_kind Sign.left_brace = 20
sign_kind Sign.right_brace = 21
sign_kind Sign.left_bracket = 22
sign_kind Sign.right_bracket = 23
sign_kind Sign.colon = 24
sign_kind Sign.semicolon = 25
sign_kind Sign.comma = 26

unfoldable pub word_kind : Word → ℕ
word_kind Word.var = 27
word_kind Word.fn = 28
word_kind Word.«let» = 29
word_kind Word.if = 30
word_kind Word.else = 31
word_kind Word.while = 32
word_kind Word.return = 33
word_kind Word.emit = 34
word_kind Word.int = 35
word_kind Word.bool = 36
word_kind Word.true = 37
word_kind Word.false = 38

unfoldable pub kind_of : Token → ℕ
kind_of (Token.name x) = 1
kind_of (Token.number n) = 2
kind_of (Token.sign s) = sign_kind s
kind_of (Token.word w) = word_kind w

-- a name's length, a number's number
unfoldable pub value_of : Token → ℕ
value_of (Token.name x) = length x
value_of (Token.number n) = n
value_of (Token.sign s) = 0
value_of (Token.word w) = 0

-- tokens one after the other
unfoldable pub flat : List Placed → List ℕ
flat [] = []
flat (t ∷ ts) = kind_of t.token ∷ t.place ∷ value_of t.token ∷ flat ts

abbrev pub words_per_token : ℕ
words_per_token = 3

-- the working room, in words: enough for any text, since a token has at least one byte
abbrev pub token_room : ℕ
token_room = words_per_token * longest_text
