-- A token is known by its kind's number: kinds are numbered one to one, apart from what names and numbers carry.
use mathlib.Core.Path.{◌≡◌, refl, sym, ap, subst, ◌∙◌}
use mathlib.Core.Bool.{true, false}
use mathlib.Core.List.{List, [], ◌∷◌}
use mathlib.Core.Option.{Option, map, some-injective}
use Prim.Native.Nat.{ℕ, ◌≤◌, ◌<◌}
use native.Mathlib.Omega.{arith}
use lib.Dec.{eqb}
use native.Mathlib.Decide.{dec_lt}
use lib.ListN.{length, get_or, get_or-eq_default}
use borrow.Author.Tests.{eqb-true}
use Rattle.language.specs.Tree.{Place, Binary}
use Rattle.language.specs.Tokens.{Word, Sign, Token, Placed, placed, In}
use Rattle.language.specs.Grammar.{Operator, op, operators}
use Rattle.tokens.specs.Kinds.{sign_kind, word_kind, kind_of}
use Rattle.tokens.proofs.Lists.{pick_g}
use Rattle.grammar.specs.Parse.{kind_in, place_in, name_in, name_of, number_in, number_of, level_in, means_in, level_of, means_of}

-- The sign and the word of a kind.

sign_table : List (Option Sign)
sign_table =
    Option.none ∷ Option.none ∷ Option.none
    ∷ Option.some Sign.double_equals ∷ Option.some Sign.bang_equals ∷ Option.some Sign.less_equals ∷ Option.some Sign.greater_equals
    ∷ Option.some Sign.double_ampersand ∷ Option.some Sign.double_bar ∷ Option.some Sign.plus ∷ Option.some Sign.minus ∷ Option.some Sign.star
    ∷ Option.some Sign.slash ∷ Option.some Sign.percent ∷ Option.some Sign.less ∷ Option.some Sign.greater ∷ Option.some Sign.equals
    ∷ Option.some Sign.bang ∷ Option.some Sign.left_paren ∷ Option.some Sign.right_paren ∷ Option.some Sign.left_brace
    ∷ Option.some Sign.right_brace ∷ Option.some Sign.left_bracket ∷ Option.some Sign.right_bracket ∷ Option.some Sign.colon
    ∷ Option.some Sign.semicolon ∷ Option.some Sign.comma ∷ []

as_sign : ℕ → Option Sign
unfolding sign_table
as_sign k = get_or sign_table k Option.none

as_word : ℕ → Option Word
as_word k =
    get_or
    (Option.none ∷ Option.none ∷ Option.none ∷ Option.none ∷ Option.none ∷ Option.none ∷ Option.none ∷ Option.none ∷ Option.none
    ∷ Option.none ∷ Option.none ∷ Option.none ∷ Option.none ∷ Option.none ∷ Option.none ∷ Option.none ∷ Option.none ∷ Option.none
    ∷ Option.none ∷ Option.none ∷ Option.none ∷ Option.none ∷ Option.none ∷ Option.none ∷ Option.none ∷ Option.none ∷ Option.none
    ∷ Option.some Word.var ∷ Option.some Word.fn ∷ Option.some Word.«let» ∷ Option.some Word.if ∷ Option.some Word.else ∷ Option.some Word.while
    ∷ Option.some Word.return ∷ Option.some Word.emit ∷ Option.some Word.int ∷ Option.some Word.bool ∷ Option.some Word.true ∷ Option.some Word.false ∷ [])
    k Option.none

sign_back : (s : Sign) → as_sign (sign_kind s) ≡ Option.some s
unfolding as_sign sign_kind
sign_back Sign.double_equals = refl
sign_back Sign.bang_equals = refl
sign_back Sign.less_equals = refl
sign_back Sign.greater_equals = refl
sign_back Sign.double_ampersand = refl
sign_back Sign.double_bar = refl
sign_back Sign.plus = refl
sign_back Sign.minus = refl
sign_back Sign.star = refl
sign_back Sign.slash = refl
sign_back Sign.percent = refl
sign_back Sign.less = refl
sign_back Sign.greater = refl
sign_back Sign.equals = refl
sign_back Sign.bang = refl
sign_back Sign.left_paren = refl
sign_back Sign.right_paren = refl
sign_back Sign.left_brace = refl
sign_back Sign.right_brace = refl
sign_back Sign.left_bracket = refl
sign_back Sign.right_bracket = refl
sign_back Sign.colon = refl
sign_back Sign.semicolon = refl
sign_back Sign.comma = refl

sign_no_word : (s : Sign) → as_word (sign_kind s) ≡ Option.none
unfolding as_word sign_kind
sign_no_word Sign.double_equals = refl
sign_no_word Sign.bang_equals = refl
sign_no_word Sign.less_equals = refl
sign_no_word Sign.greater_equals = refl
sign_no_word Sign.double_ampersand = refl
sign_no_word Sign.double_bar = refl
sign_no_word Sign.plus = refl
sign_no_word Sign.minus = refl
sign_no_word Sign.star = refl
sign_no_word Sign.slash = refl
sign_no_word Sign.percent = refl
sign_no_word Sign.less = refl
sign_no_word Sign.greater = refl
sign_no_word Sign.equals = refl
sign_no_word Sign.bang = refl
sign_no_word Sign.left_paren = refl
sign_no_word Sign.right_paren = refl
sign_no_word Sign.left_brace = refl
sign_no_word Sign.right_brace = refl
sign_no_word Sign.left_bracket = refl
sign_no_word Sign.right_bracket = refl
sign_no_word Sign.colon = refl
sign_no_word Sign.semicolon = refl
sign_no_word Sign.comma = refl

word_back : (w : Word) → as_word (word_kind w) ≡ Option.some w
unfolding as_word word_kind
word_back Word.var = refl
word_back Word.fn = refl
word_back Word.«let» = refl
word_back Word.if = refl
word_back Word.else = refl
word_back Word.while = refl
word_back Word.return = refl
word_back Word.emit = refl
word_back Word.int = refl
word_back Word.bool = refl
word_back Word.true = refl
word_back Word.false = refl

word_no_sign : (w : Word) → as_sign (word_kind w) ≡ Option.none
unfolding as_sign word_kind
word_no_sign Word.var = refl
word_no_sign Word.fn = refl
word_no_sign Word.«let» = refl
word_no_sign Word.if = refl
word_no_sign Word.else = refl
word_no_sign Word.while = refl
word_no_sign Word.return = refl
word_no_sign Word.emit = refl
word_no_sign Word.int = refl
word_no_sign Word.bool = refl
word_no_sign Word.true = refl
word_no_sign Word.false = refl

no_some : {A : Type 0} {a : A} → Option.none ≡ Option.some a → ⊥
no_some {A} {a} q = let z : ◌≡◌ {A = ℕ} 0 1 = cc in omega arith

-- a sign's kind is below a word's
pub sign_low : (s : Sign) → sign_kind s < 27
unfolding as_sign sign_table
sign_low s = elim (dec_lt (sign_kind s) 27) [
  | yes p ↦ p
  | no p ↦ let h : length sign_table ≤ sign_kind s = omega arith in absurd (no_some (sym (get_or-eq_default sign_table Option.none h) ∙ sign_back s))
]

-- From kinds to tokens.

module _ (s : Sign) where
  sign_here : (t : Token) → kind_of t ≡ sign_kind s → t ≡ Token.sign s
  unfolding kind_of as_sign
  sign_here (Token.name x) e = absurd (no_some (ap as_sign e ∙ sign_back s))
  sign_here (Token.number n) e = absurd (no_some (ap as_sign e ∙ sign_back s))
  sign_here (Token.word w) e = absurd (no_some (sym (word_no_sign w) ∙ ap as_sign e ∙ sign_back s))
  sign_here (Token.sign s') e = ap Token.sign (some-injective s' s (sym (sign_back s') ∙ ap as_sign e ∙ sign_back s))

  pub sign_at : (o : Option Placed) → kind_in o ≡ sign_kind s → o ≡ Option.some (placed (Token.sign s) (place_in o))
  unfolding kind_in place_in as_sign
  sign_at Option.none e = absurd (no_some (ap as_sign e ∙ sign_back s))
  sign_at (Option.some t) e = ap (λ (u : Token). Option.some (placed u t.place)) (sign_here t.token e)

module _ (w : Word) where
  word_here : (t : Token) → kind_of t ≡ word_kind w → t ≡ Token.word w
  unfolding kind_of as_word
  word_here (Token.name x) e = absurd (no_some (ap as_word e ∙ word_back w))
  word_here (Token.number n) e = absurd (no_some (ap as_word e ∙ word_back w))
  word_here (Token.word w') e = ap Token.word (some-injective w' w (sym (word_back w') ∙ ap as_word e ∙ word_back w))
  word_here (Token.sign s) e = absurd (no_some (sym (sign_no_word s) ∙ ap as_word e ∙ word_back w))

  pub word_at : (o : Option Placed) → kind_in o ≡ word_kind w → o ≡ Option.some (placed (Token.word w) (place_in o))
  unfolding kind_in place_in as_word
  word_at Option.none e = absurd (no_some (ap as_word e ∙ word_back w))
  word_at (Option.some t) e = ap (λ (u : Token). Option.some (placed u t.place)) (word_here t.token e)

name_here : (t : Token) → kind_of t ≡ 1 → t ≡ Token.name (name_of t)
unfolding kind_of name_of as_sign as_word
name_here (Token.name x) e = refl
name_here (Token.number n) e = absurd (omega arith)
name_here (Token.word w) e = absurd (no_some (ap as_word (sym e) ∙ word_back w))
name_here (Token.sign s) e = absurd (no_some (ap as_sign (sym e) ∙ sign_back s))

pub name_at_lem : (o : Option Placed) → kind_in o ≡ 1 → o ≡ Option.some (placed (Token.name (name_in o)) (place_in o))
unfolding kind_in place_in name_in
name_at_lem Option.none e = absurd (omega arith)
name_at_lem (Option.some t) e = ap (λ (u : Token). Option.some (placed u t.place)) (name_here t.token e)

number_here : (t : Token) → kind_of t ≡ 2 → t ≡ Token.number (number_of t)
unfolding kind_of number_of as_sign as_word
number_here (Token.name x) e = absurd (omega arith)
number_here (Token.number n) e = refl
number_here (Token.word w) e = absurd (no_some (ap as_word (sym e) ∙ word_back w))
number_here (Token.sign s) e = absurd (no_some (ap as_sign (sym e) ∙ sign_back s))

pub number_at_lem : (o : Option Placed) → kind_in o ≡ 2 → o ≡ Option.some (placed (Token.number (number_in o)) (place_in o))
unfolding kind_in place_in number_in
number_at_lem Option.none e = absurd (omega arith)
number_at_lem (Option.some t) e = ap (λ (u : Token). Option.some (placed u t.place)) (number_here t.token e)

-- a token that is there, without its place
pub has : {o : Option Placed} {t : Token} {p : Place} → o ≡ Option.some (placed t p) → map (λ (q : Placed). q.token) o ≡ Option.some t
has e = ap (map (λ (q : Placed). q.token)) e

-- From tokens to kinds.

pub kind_has : (o : Option Placed) {t : Token} → map (λ (q : Placed). q.token) o ≡ Option.some t → kind_in o ≡ kind_of t
unfolding kind_in
kind_has Option.none e = absurd (no_some e)
kind_has (Option.some q) {t} e = ap kind_of (some-injective q.token t e)

pub number_has : (o : Option Placed) {n : ℕ} → map (λ (q : Placed). q.token) o ≡ Option.some (Token.number n) → number_in o ≡ n
unfolding number_in number_of
number_has Option.none e = absurd (no_some e)
number_has (Option.some q) {n} e = ap number_of (some-injective q.token (Token.number n) e)

-- The table of operators.

pub record Row (rs : List Operator) (k l : ℕ) : Type 0 where
  pub spelt : Sign
  pub kind : k ≡ sign_kind spelt
  pub row : In (op spelt l (means_in rs k)) rs

row_here : (r : Operator) (rs : List Operator) (k l : ℕ) → eqb (sign_kind r.spelt) k ≡ true → r.level ≡ l → Row (r ∷ rs) k l
unfolding means_in
row_here r rs k l e q = record { spelt = r.spelt; kind = sym (eqb-true _ _ e); row = In.here {x = r} {xs = rs} (rw e (ap (λ (l' : ℕ). op r.spelt l' r.means) (sym q))) }

row_there : (r : Operator) (rs : List Operator) (k l : ℕ) → eqb (sign_kind r.spelt) k ≡ false → Row rs k l → Row (r ∷ rs) k l
unfolding means_in
row_there r rs k l e h = record { spelt = h.spelt; kind = h.kind; row = In.there {x = r} {xs = rs} (rw e h.row) }

pub row_found : (rs : List Operator) (k l : ℕ) → level_in rs k ≡ l → 0 < l → Row rs k l
unfolding level_in
row_found [] k l = λ e h. absurd (omega arith)
row_found (r ∷ rs) k l = pick_g (λ (v : ℕ). v ≡ l → 0 < l → Row (r ∷ rs) k l) (eqb (sign_kind r.spelt) k) r.level (level_in rs k)
    (λ t e h. row_here r rs k l t e) (λ t e h. row_there r rs k l t (row_found rs k l e h))

abbrev EachRow : (Operator → Type 0) → List Operator → Type 0
EachRow P [] = Unit {0}
EachRow P (r ∷ rs) = P r × EachRow P rs

each_in : (P : Operator → Type 0) (r : Operator) (rs : List Operator) → EachRow P rs → In r rs → P r
each_in P r (x ∷ rs) h (In.here e) = subst P (sym e) h.0
each_in P r (x ∷ rs) h (In.there i) = each_in P r rs h.1 i
each_in P r [] h x'' = elim x'' [ ]

abbrev Found : Operator → Type 0
Found r = (level_of (sign_kind r.spelt) ≡ r.level) × (means_of (sign_kind r.spelt) ≡ r.means)

rows : EachRow Found operators
unfolding operators level_of means_of level_in means_in sign_kind
rows = ((refl, refl), ((refl, refl), ((refl, refl), ((refl, refl), ((refl, refl), ((refl, refl), ((refl, refl), ((refl, refl), ((refl, refl), ((refl, refl), ((refl, refl), ((refl, refl), ((refl, refl), tt)))))))))))))

-- a row is found by its sign's kind
pub row_level : {s : Sign} {l : ℕ} {o : Binary} → In (op s l o) operators → level_of (sign_kind s) ≡ l
row_level {s} {l} {o} h = (each_in Found (op s l o) operators rows h).0

pub row_means : {s : Sign} {l : ℕ} {o : Binary} → In (op s l o) operators → means_of (sign_kind s) ≡ o
row_means {s} {l} {o} h = (each_in Found (op s l o) operators rows h).1
