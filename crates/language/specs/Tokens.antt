-- Document 01 §2: tokens. A text is a list of bytes.
-- First the tables and limits, then `Reads`, which says what a text reads as, and then `tokens_of`, a function that computes it.
use Rattle.std.specs.Prelude.{◌≡◌, refl, Bool, not, List, [], ◌∷◌, ◌++◌, ◌⊎◌, ℕ, zero, suc, ◌+◌, ◌*◌, ◌-◌, ◌≤◌, leb, eqb, length, drop}
use Rattle.std.proofs.Math.Option.{Option, none, some}
use Prim.Native.Char.{Char, code}
use Prim.Native.String.{String}
use Rattle.word.specs.Choice.{pick, both, either}
use Rattle.language.specs.Tree.{Place, Name}

-- The limits.

-- "A program is one text of at most 65,536 bytes."
abbrev pub longest_text : ℕ
longest_text = 65536

-- "at most 32 characters"
abbrev pub longest_name : ℕ
longest_name = 32

-- "at most 2147483647"
abbrev pub largest_number : ℕ
largest_number = 2147483647

-- The tokens.

-- "Words: `var fn let if else while return emit int bool true false`."
pub data Word : Type 0 where
  var fn «let» if else while return emit int bool true false : Word

-- "Signs: `== != <= >= && || + - * / % < > = ! ( ) { } [ ] : ; ,`", named by their shapes
pub data Sign : Type 0 where
  double_equals bang_equals less_equals greater_equals double_ampersand double_bar : Sign
  plus minus star slash percent less greater equals bang : Sign
  left_paren right_paren left_brace right_brace left_bracket right_bracket colon semicolon comma : Sign

pub data Token : Type 0 where
  name : Name → Token
  word : Word → Token
  number : ℕ → Token
  sign : Sign → Token

-- a token and where its first byte is
pub record Placed : Type 0 where
  pub token : Token
  pub place : Place

abbrev pub placed : Token → Place → Placed
placed t p = record { token = t; place = p }

-- The spellings.

-- the bytes of a quoted text
unfoldable pub bytes : String → List ℕ
bytes String.[] = []
bytes (String.◌∷◌ c s) = code c ∷ bytes s

unfoldable pub words : List (Word × String)
words =
    (var, "var") ∷ (fn, "fn") ∷ («let», "let") ∷ (if, "if") ∷ (else, "else") ∷ (while, "while") ∷ (return, "return") ∷ (emit, "emit") ∷ (int, "int") ∷ (bool, "bool") ∷ (true, "true") ∷ (false, "false") ∷ []

-- in the document's order: signs of two bytes stand before those of one
unfoldable pub signs : List (Sign × String)
signs =
    (double_equals, "==") ∷ (bang_equals, "!=") ∷ (less_equals, "<=") ∷ (greater_equals, ">=") ∷ (double_ampersand, "&&") ∷ (double_bar, "||") ∷ (plus, "+") ∷ (minus, "-") ∷ (star, "*") ∷ (slash, "/") ∷ (percent, "%") ∷ (less, "<") ∷ (greater, ">") ∷ (equals, "=") ∷ (bang, "!") ∷ (left_paren, "(") ∷ (right_paren, ")") ∷ (left_brace, "{") ∷ (right_brace, "}") ∷ (left_bracket, "[") ∷ (right_bracket, "]") ∷ (colon, ":") ∷ (semicolon, ";") ∷ (comma, ",") ∷ []

-- a is a row of the table
pub data In {A : Type 0} (a : A) : List A → Type 0 where
  here : {x : A} {xs : List A} → a ≡ x → In a (x ∷ xs)
  there : {x : A} {xs : List A} → In a xs → In a (x ∷ xs)

-- The bytes.

abbrev pub is : Char → ℕ → Bool
is c b = eqb b (code c)

abbrev pub between : Char → Char → ℕ → Bool
between c d b = both (leb (code c) b) (leb b (code d))

-- "Bytes 32 to 126, tab, line feed and carriage return": what tokens, blanks and comments are made of
unfoldable pub allowed : ℕ → Bool
allowed b = either (both (leb 32 b) (leb b 126)) (either (is "\t" b) (either (is "\n" b) (is "\r" b)))

-- blanks: the space, tab, line feed and carriage return
unfoldable pub is_blank : ℕ → Bool
is_blank b = either (is " " b) (either (is "\t" b) (either (is "\n" b) (is "\r" b)))

-- what stands in a comment
unfoldable pub in_comment : ℕ → Bool
in_comment b = both (allowed b) (not (is "\n" b))

-- "a lower-case letter or `_`". No token begins with an upper-case letter, and that letter is then at fault, after a number too.
unfoldable pub is_letter : ℕ → Bool
is_letter b = either (between "a" "z" b) (is "_" b)

unfoldable pub is_digit : ℕ → Bool
is_digit b = between "0" "9" b

-- "lower-case letters, digits, `_`"
unfoldable pub in_name : ℕ → Bool
in_name b = either (is_letter b) (is_digit b)

-- all bytes pass; the first byte is there and passes
unfoldable pub all : (ℕ → Bool) → List ℕ → Bool
all P [] = Bool.true
all P (b ∷ w) = both (P b) (all P w)

unfoldable pub starts : (ℕ → Bool) → List ℕ → Bool
starts P [] = Bool.false
starts P (b ∷ w) = P b

-- the same bytes; the first bytes
unfoldable pub same : List ℕ → List ℕ → Bool
same [] [] = Bool.true
same [] (b ∷ v) = Bool.false
same (a ∷ w) [] = Bool.false
same (a ∷ w) (b ∷ v) = both (eqb a b) (same w v)

unfoldable pub begins : List ℕ → List ℕ → Bool
begins [] v = Bool.true
begins (a ∷ w) [] = Bool.false
begins (a ∷ w) (b ∷ v) = both (eqb a b) (begins w v)

-- "`0`, or decimal digits without a leading zero"
unfoldable pub unpadded : List ℕ → Bool
unpadded w = either (same w (bytes "0")) (not (starts (is "0") w))

-- the number that digits after v mean
unfoldable pub decimal : ℕ → List ℕ → ℕ
decimal v [] = v
decimal v (b ∷ w) = decimal (v * 10 + (b - code "0")) w

-- What a text reads as.

-- the bytes w, before the bytes rest, are the token t; "the longest possible token is taken"
pub data Spells (w rest : List ℕ) : Token → Type 0 where
  -- "Names: a lower-case letter or `_`, then lower-case letters, digits, `_`; at most 32 characters."
  name : starts is_letter w ≡ Bool.true → all in_name w ≡ Bool.true → starts in_name rest ≡ Bool.false → length w ≤ longest_name → ((x : Word) (s : String) → In (x, s) words → w ≡ bytes s → ⊥) → Spells w rest (Token.name w)
  -- "Words"
  word : {x : Word} {s : String} → starts in_name rest ≡ Bool.false → In (x, s) words → w ≡ bytes s → Spells w rest (Token.word x)
  -- "Numbers: `0`, or decimal digits without a leading zero, at most 2147483647. A letter or `_` right after a number is unreadable."
  number : {n : ℕ} → starts is_digit w ≡ Bool.true → all is_digit w ≡ Bool.true → starts in_name rest ≡ Bool.false → unpadded w ≡ Bool.true → n ≡ decimal 0 w → n ≤ largest_number → Spells w rest (Token.number n)
  -- "Signs", and no longer sign stands there
  sign : {x : Sign} {s : String} → In (x, s) signs → w ≡ bytes s → ((y : Sign) (v : String) → In (y, v) signs → begins (bytes v) (w ++ rest) ≡ Bool.true → length (bytes v) ≤ length w) → Spells w rest (Token.sign x)

-- "A comment runs from `#` to the line's end": the bytes w, before the bytes rest, which begin with the line feed or are none
pub record Comment (w rest : List ℕ) : Type 0 where
  pub begin : starts (is "#") w ≡ Bool.true
  pub inside : all in_comment w ≡ Bool.true
  pub stop : (rest ≡ []) ⊎ (starts (is "\n") rest ≡ Bool.true)

-- `Reads i text ts`: a text whose first byte has place i reads as the tokens ts
pub data Reads : Place → List ℕ → List Placed → Type 0 where
  end : {i : Place} → Reads i [] []
  -- "Blanks and comments separate tokens"
  blank : {i : Place} {b : ℕ} {rest : List ℕ} {ts : List Placed} → is_blank b ≡ Bool.true → Reads (i + 1) rest ts → Reads i (b ∷ rest) ts
  comment : {i j : Place} {text w rest : List ℕ} {ts : List Placed} → Comment w rest → text ≡ w ++ rest → j ≡ i + length w → Reads j rest ts → Reads i text ts
  token : {i j : Place} {text w rest : List ℕ} {t : Token} {ts : List Placed} → Spells w rest t → text ≡ w ++ rest → j ≡ i + length w → Reads j rest ts → Reads i text (placed t i ∷ ts)

-- a whole text
pub record Readable (text : List ℕ) (ts : List Placed) : Type 0 where
  pub short : length text ≤ longest_text
  pub reads : Reads 0 text ts

-- The same as a function.

-- what was asked for, or the place of the fault
pub data Answer (A : Type 0) : Type 0 where
  good : A → Answer A
  refused : Place → Answer A

-- the longest beginning all of whose bytes pass
unfoldable pub span : (ℕ → Bool) → List ℕ → List ℕ
span P [] = []
span P (b ∷ w) = pick (P b) (b ∷ span P w) []

-- the first row of a table whose spelling passes
unfoldable pub find : {A : Type 0} → (List ℕ → Bool) → List (A × String) → Option (A × String)
find P [] = none
find P (r ∷ rs) = pick (P (bytes r.1)) (some r) (find P rs)

-- a token and how many bytes it has, if the text begins with one; each has at least one byte
abbrev pub Found : Type 0
Found = Option (Token × ℕ)

unfoldable pub or_name : List ℕ → Option (Word × String) → Token
or_name w none = Token.name w
or_name w (some r) = Token.word r.0

unfoldable pub name_at : List ℕ → Found
name_at w = pick (leb (length w) longest_name) (some (or_name w (find (same w) words), length w)) none

unfoldable pub number_at : List ℕ → List ℕ → Found
number_at w rest = pick (both (not (starts in_name rest)) (both (unpadded w) (leb (decimal 0 w) largest_number))) (some (Token.number (decimal 0 w), length w)) none

unfoldable pub as_sign : Option (Sign × String) → Found
as_sign none = none
as_sign (some r) = some (Token.sign r.0, length (bytes r.1))

unfoldable pub token_at : List ℕ → Found
token_at text =
    pick (starts is_letter text) (name_at (span in_name text))
    (pick (starts is_digit text) (number_at (span is_digit text) (drop (length (span is_digit text)) text))
    (as_sign (find (λ s. begins s text) signs)))

unfoldable pub also : Placed → Answer (List Placed) → Answer (List Placed)
also t (good ts) = good (t ∷ ts)
also t (refused p) = refused p

-- a token, and then the rest from so many bytes on; with no token, its first byte is at fault
unfoldable pub and_then : Place → Found → (ℕ → Answer (List Placed)) → Answer (List Placed)
and_then i none rest = refused i
and_then i (some f) rest = also (placed f.0 i) (rest f.1)

-- the text after `passed` bytes more, the first byte having place i
unfoldable pub read_from : ℕ → Place → List ℕ → Answer (List Placed)
read_from passed i [] = good []
read_from (suc passed) i (b ∷ text) = read_from passed (i + 1) text
read_from zero i (b ∷ text) =
    pick (is_blank b) (read_from 0 (i + 1) text)
    (pick (is "#" b) (read_from (length (span in_comment text)) (i + 1) text)
    (and_then i (token_at (b ∷ text)) (λ n. read_from (n - 1) (i + 1) text)))

-- The place of a fault: the byte that is not allowed or begins no token; the first byte of a name or number that breaks a rule;
-- the first byte too many of a text that is too long.
unfoldable pub tokens_of : List ℕ → Answer (List Placed)
tokens_of text = pick (leb (length text) longest_text) (read_from 0 0 text) (refused longest_text)

-- Examples; the refusals are those of document 01 §6.

unfoldable pub reads : String → Answer (List Placed)
unfolding tokens_of read_from also and_then token_at as_sign number_at name_at or_name find span decimal unpadded begins same starts all in_name is_digit is_letter in_comment is_blank allowed signs words bytes
reads s = tokens_of (bytes s)

examples :
    (reads "a<=b" ≡ good (placed (Token.name (bytes "a")) 0 ∷ placed (Token.sign less_equals) 1 ∷ placed (Token.name (bytes "b")) 3 ∷ []))
    × (reads "iff if" ≡ good (placed (Token.name (bytes "iff")) 0 ∷ placed (Token.word if) 4 ∷ []))
    × (reads "1 # 2\n3" ≡ good (placed (Token.number 1) 0 ∷ placed (Token.number 3) 6 ∷ []))
    × (reads "2147483647" ≡ good (placed (Token.number 2147483647) 0 ∷ []))
    × (reads "a23456789_123456789_123456789_12" ≡ good (placed (Token.name (bytes "a23456789_123456789_123456789_12")) 0 ∷ []))
    × (reads "emit 2147483648;" ≡ refused 5)
    × (reads "emit 01;" ≡ refused 5)
    × (reads "emit 12a;" ≡ refused 5)
    × (reads "emit a23456789_123456789_123456789_123;" ≡ refused 5)
    × (reads "fn Main() { }" ≡ refused 3)
unfolding reads
examples = (refl, refl, refl, refl, refl, refl, refl, refl, refl, refl)
