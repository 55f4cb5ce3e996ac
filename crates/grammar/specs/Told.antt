-- What the functions promise: what they say is what the parser says of the tokens that the words hold, and what they write is its flat form.
use Rattle.std.specs.Prelude.{◌≡◌, ◌⊎◌, List, [], ◌∷◌, ℕ, ◌+◌, ◌*◌, ◌≤◌, ◌<◌, ltb, eqb, length, get_or, Result}
use Rattle.std.proofs.Math.Option.{Option}
use Rattle.std.proofs.lemmas.List.Edits.{sets}
use Rattle.word.specs.Choice.{pick}
use Rattle.language.specs.Tree.{Place, Ty, Unary, Binary, Expr, Args, Stmt, Block, Param, Item}
use Rattle.language.specs.Tokens.{Placed}
use Rattle.tokens.specs.Kinds.{value_of, words_per_token}
use Rattle.grammar.specs.Parse.{Out, Out.ok, Out.bad, map, kind_in, place_in, Tail, means_of}
use Rattle.grammar.specs.Flat.{arg_count, size, header, expr_length, expr_words, args_words, stmt_words, block_words, params_words, item_words, items_words, count, type_number, result_number, right_words, tail_words, words_for_token}
use Rattle.grammar.specs.declared.input.Read.{Read}
use Rattle.grammar.specs.declared.input.Fault.{Fault}

-- Tokens in words, n of them.

abbrev pub Row : Type 0
Row = ℕ → Option Placed

-- word k of token i; 0 past the last
unfoldable pub field_of : List ℕ → ℕ → ℕ → ℕ → ℕ
field_of ts n i k = pick (ltb i n) (get_or ts (words_per_token * i + k) 0) 0

unfoldable pub value_in : Option Placed → ℕ
value_in Option.none = 0
value_in (Option.some t) = value_of t.token

pub record Holds (tok : Row) (ts : List ℕ) (n : ℕ) : Type 0 where
  pub kind : (i : ℕ) → field_of ts n i 0 ≡ kind_in (tok i)
  pub place : (i : ℕ) → field_of ts n i 1 ≡ place_in (tok i)
  pub value : (i : ℕ) → field_of ts n i 2 ≡ value_in (tok i)

-- no kind of token has this number
abbrev pub IsNoKind : ℕ → Type 0
IsNoKind k = (k < 1) ⊎ (38 < k)

-- Things that are read: the words they are written as, and a number that is handed on.

pub record Form (A : Type 0) : Type 0 where
  pub words : A → List ℕ
  pub tells : A → ℕ

abbrev pub expr_form : Form Expr
expr_form = record { words = λ e. expr_words e []; tells = λ _. 1 }

-- an operator and its right side
pub record Right : Type 0 where
  pub place : Place
  pub operator : Binary
  pub side : Expr

-- the operator at token i, of level l, and its right side
unfoldable pub operand_of : Row → (ℕ → ℕ → ℕ → Out Expr) → ℕ → ℕ → ℕ → Out Right
operand_of tok sub l d i = map (λ b. record { place = place_in (tok i); operator = means_of (kind_in (tok i)); side = b }) (sub (l + 1) d (i + 1))

abbrev pub right_form : Form Right
right_form = record { words = λ r. right_words r.place r.operator r.side []; tells = λ _. 1 }

abbrev pub tail_form : Form Tail
tail_form = record { words = λ r. tail_words r []; tells = λ _. 1 }

abbrev pub args_form : Form Args
args_form = record { words = λ es. args_words es []; tells = arg_count }

-- a statement of one expression: its header's kind, place and name's length
abbrev pub single_form : ℕ → Place → ℕ → Form Expr
single_form k p x = record { words = λ e. header k p x (size e) 0 0 0 (expr_length e) (expr_words e []); tells = λ _. 1 }

abbrev pub stmt_form : Form Stmt
stmt_form = record { words = λ s. stmt_words s []; tells = λ _. 1 }

abbrev pub block_form : Form Block
block_form = record { words = λ b. block_words b []; tells = count }

-- these are told, not written
abbrev pub type_form : Form Ty
type_form = record { words = λ _. []; tells = type_number }

abbrev pub result_form : Form (Option Ty)
result_form = record { words = λ _. []; tells = result_number }

abbrev pub size_form : Form ℕ
size_form = record { words = λ _. []; tells = λ n. n }

abbrev pub param_form : Form Param
param_form = record { words = λ x. params_words (x ∷ []) []; tells = λ _. 1 }

abbrev pub params_form : Form (List Param)
params_form = record { words = λ xs. params_words xs []; tells = length }

abbrev pub item_form : Form Item
item_form = record { words = λ x. item_words x []; tells = λ _. 1 }

abbrev pub items_form : Form (List Item)
items_form = record { words = λ xs. items_words xs []; tells = length }

-- The promises. i and at: the token and the free word before; j and e: after; xs and ys: the buffer before and after.

-- o is a thing, written from at on
pub record Says {A : Type 0} (F : Form A) (o : Out A) (xs : List ℕ) (at j e c : ℕ) (ys : List ℕ) : Type 0 where
  pub value : A
  pub is : o ≡ ok value j
  pub told : c ≡ F.tells value
  pub end : e ≡ at + length (F.words value)
  pub buffer : ys ≡ sets xs at (F.words value)

-- so it is for every row of tokens that the words hold; what is written is paid for by the tokens that were read, and what is told fits a word
pub record Found {A : Type 0} (F : Form A) (f : Row → Out A) (ts : List ℕ) (n : ℕ) (xs : List ℕ) (i at j e c : ℕ) (ys : List ℕ) : Type 0 where
  pub within : j ≤ n
  pub small : e + words_for_token * i ≤ at + words_for_token * j
  pub onward : at ≤ e
  pub fits : c < 4294967296
  pub says : (tok : Row) → Holds tok ts n → Says F (f tok) xs at j e c ys

abbrev pub Case : {A : Type 0} → Form A → (Row → Out A) → List ℕ → ℕ → List ℕ → ℕ → ℕ → Result Read Fault → List ℕ → Type 0
Case F f ts n xs i at (Result.Ok r) ys = Found F f ts n xs i at r.next r.end r.told ys
Case F f ts n xs i at (Result.Err p) ys = (tok : Row) → Holds tok ts n → f tok ≡ bad p.0

pub record Told {A : Type 0} (F : Form A) (f : Row → Out A) (ts : List ℕ) (n : ℕ) (xs : List ℕ) (i at : ℕ) (r : Result Read Fault) (ys : List ℕ) : Type 0 where
  pub by : Case F f ts n xs i at r ys

-- of n tokens, there are eight words of room for each token from i on
pub record Room (n : ℕ) (xs : List ℕ) (i at : ℕ) : Type 0 where
  pub begins : i ≤ n
  pub free : at + words_for_token * n ≤ length xs + words_for_token * i

-- the unary operator of a number
unfoldable pub unary_at : ℕ → Unary
unary_at o = pick (eqb o 0) Unary.negate Unary.not

-- The operators' table, as the flat form has it: the item's kind and the operator's number

unfoldable pub item_kind : Binary → ℕ
item_kind Binary.or = 7
item_kind Binary.and = 6
item_kind (Binary.strict s) = 5

unfoldable pub item_number : Binary → ℕ
item_number Binary.or = 0
item_number Binary.and = 0
item_number (Binary.strict s) = Rattle.grammar.specs.Flat.strict_number s
