-- How words hold a flat program. Each kind of item and statement has a number, its place in a table here; src/lib.rt names the same numbers.
-- Decoding is total: a word past the end is 0, a number past its table's end is unknown, and blocks nest as deep as document 01 §3 lets them.
use Rattle.std.specs.Prelude.{List, [], ◌∷◌, ℕ, zero, suc, ◌+◌, ◌*◌, ltb, length, get_or, drop}
use Rattle.word.specs.Choice.{pick}
use Rattle.language.specs.Tree.{negate, not, eq, ne, lt, le, gt, ge, add, sub, mul, div, rem}
use Rattle.language.specs.Tree as T
use Rattle.language.specs.Core as C
use Rattle.language.specs.Meaning.{Run, ended, most_activations}
use Rattle.flat.specs.Items.{Kind, number, local, element, call, unary, strict, and, or, join, Item, item}
use Rattle.flat.specs.Items as I
use Rattle.flat.specs.Statements.{Stmt, put, store, choose, while, leave, give, emit, run, Block, end, then, Function, flats, fcall_at}
use Rattle.flat.specs.Statements as S

abbrev pub word : List ℕ → ℕ → ℕ
word ws i = get_or ws i 0

-- Items. An item is four words: its kind's number, its charge, and two that the kind has a use for.

abbrev pub words_per_item : ℕ
words_per_item = 4

abbrev pub unaries : List Kind
unaries = unary negate ∷ unary not ∷ []

abbrev pub stricts : List Kind
stricts =
    strict eq ∷
    strict ne ∷
    strict lt ∷
    strict le ∷
    strict gt ∷
    strict ge ∷
    strict add ∷
    strict sub ∷
    strict mul ∷
    strict div ∷
    strict rem ∷
    []

abbrev pub kinds : ℕ → ℕ → List Kind
kinds a b =
    number a ∷
    local a ∷
    element (record { offset = a; size = b }) ∷
    call a b ∷
    get_or unaries a I.unknown ∷
    get_or stricts a I.unknown ∷
    and a ∷
    or a ∷
    join ∷
    []

unfoldable pub kind_of : ℕ → ℕ → ℕ → Kind
kind_of k a b = get_or (kinds a b) k I.unknown

unfoldable pub item_of : List ℕ → Item
item_of ws = item (word ws 1) (kind_of (word ws 0) (word ws 2) (word ws 3))

-- n items
unfoldable pub items_of : ℕ → List ℕ → List Item
items_of zero ws = []
items_of (suc n) ws = item_of ws ∷ items_of n (drop words_per_item ws)

-- Statements. A statement is a header of eight words, and then its expressions and its blocks, one after the other. The header's first word is
-- its kind's number. Then come two that the kind has a use for, how many items the first and the second expression have, how many statements the
-- first and the second block have, and how many words follow the header.

abbrev pub header_words : ℕ
header_words = 8

abbrev pub a : List ℕ → ℕ
a ws = word ws 1

abbrev pub b : List ℕ → ℕ
b ws = word ws 2

abbrev pub first_items : List ℕ → ℕ
first_items ws = word ws 3

abbrev pub second_items : List ℕ → ℕ
second_items ws = word ws 4

abbrev pub first_count : List ℕ → ℕ
first_count ws = word ws 5

abbrev pub second_count : List ℕ → ℕ
second_count ws = word ws 6

abbrev pub rest_words : List ℕ → ℕ
rest_words ws = word ws 7

-- how many words are before the end of the first expression
abbrev pub first_end : List ℕ → ℕ
first_end ws = header_words + words_per_item * first_items ws

abbrev pub first : List ℕ → List Item
first ws = items_of (first_items ws) (drop header_words ws)

abbrev pub second : List ℕ → List Item
second ws = items_of (second_items ws) (drop (first_end ws) ws)

module _ (block : ℕ → List ℕ → Block) where
  -- of `choose`, a is how many words the first block has
  abbrev pub statements : List ℕ → List Stmt
  statements ws =
      put (a ws) (first ws) ∷
      store (record { offset = a ws; size = b ws }) (first ws) (second ws) ∷
      choose (first ws) (block (first_count ws) (drop (first_end ws) ws)) (block (second_count ws) (drop (first_end ws + a ws) ws)) ∷
      while (first ws) (block (first_count ws) (drop (first_end ws) ws)) ∷
      leave ∷
      give (first ws) ∷
      emit (first ws) ∷
      run (first ws) ∷
      []

  unfoldable pub statement_of : ℕ → List ℕ → Stmt
  statement_of k ws = get_or (statements ws) k S.unknown

-- n statements, one after the other
unfoldable pub sequence_of : (List ℕ → Stmt) → ℕ → List ℕ → Block
sequence_of stmt zero ws = end
sequence_of stmt (suc n) ws = then (stmt ws) (sequence_of stmt n (drop (header_words + rest_words ws) ws))

-- "At most 32 of these may be open at any point: blocks, .."
abbrev pub most_nesting : ℕ
most_nesting = 32

-- a block of n statements, where so many blocks may nest
unfoldable pub block_of : ℕ → ℕ → List ℕ → Block
block_of zero n ws = end
block_of (suc h) n ws = sequence_of (λ us. statement_of (block_of h) (word us 0) us) n ws

-- Programs. A program begins with three words: how many functions there are, main's number, how many elements the arrays have together.
-- Then come four words for each function: the place of its body among all words, how many statements that has, its parameters, its lets.
-- Then come the bodies.

abbrev pub program_words : ℕ
program_words = 3

abbrev pub function_words : ℕ
function_words = 4

abbrev pub nothing : Function
nothing = record { parameters = 0; lets = 0; body = end }

-- where the words of a function begin
abbrev pub entry : ℕ → ℕ
entry f = program_words + function_words * f

unfoldable pub function_of : List ℕ → ℕ → Function
function_of ws f =
    pick (ltb f (word ws 0))
    (record { parameters = word ws (entry f + 2); lets = word ws (entry f + 3); body = block_of most_nesting (word ws (entry f + 1)) (drop (word ws (entry f)) ws) })
    nothing

-- The run of the program that words hold: document 01 §5, "it calls main".
unfoldable pub flat_run : List ℕ → List ℕ → ℕ → ℕ → Run
flat_run ws arrays fuel room =
    ended (fcall_at room (function_of ws) most_activations (word ws 1) [] [] (record { fuel = fuel; log = []; arrays = arrays }))

-- Encoding: the words of each thing, and then more.

unfoldable pub unary_number : T.Unary → ℕ
unary_number negate = 0
unary_number not = 1

unfoldable pub strict_number : T.Strict → ℕ
strict_number eq = 0
strict_number ne = 1
strict_number lt = 2
strict_number le = 3
strict_number gt = 4
strict_number ge = 5
strict_number add = 6
strict_number sub = 7
strict_number mul = 8
strict_number div = 9
strict_number rem = 10

unfoldable pub kind_words : Kind → ℕ → List ℕ → List ℕ
kind_words (number n) c more = 0 ∷ c ∷ n ∷ 0 ∷ more
kind_words (local x) c more = 1 ∷ c ∷ x ∷ 0 ∷ more
kind_words (element a) c more = 2 ∷ c ∷ a.offset ∷ a.size ∷ more
kind_words (call f n) c more = 3 ∷ c ∷ f ∷ n ∷ more
kind_words (unary o) c more = 4 ∷ c ∷ unary_number o ∷ 0 ∷ more
kind_words (strict o) c more = 5 ∷ c ∷ strict_number o ∷ 0 ∷ more
kind_words (and n) c more = 6 ∷ c ∷ n ∷ 0 ∷ more
kind_words (or n) c more = 7 ∷ c ∷ n ∷ 0 ∷ more
kind_words join c more = 8 ∷ c ∷ 0 ∷ 0 ∷ more
kind_words I.unknown c more = 9 ∷ c ∷ 0 ∷ 0 ∷ more

unfoldable pub items_words : List Item → List ℕ → List ℕ
items_words [] more = more
items_words (i ∷ is) more = kind_words i.kind i.charge (items_words is more)

abbrev pub header : ℕ → ℕ → ℕ → ℕ → ℕ → ℕ → ℕ → ℕ → List ℕ → List ℕ
header k a b n₁ n₂ s₁ s₂ length more = k ∷ a ∷ b ∷ n₁ ∷ n₂ ∷ s₁ ∷ s₂ ∷ length ∷ more

-- how many statements a block has
unfoldable pub count : Block → ℕ
count end = 0
count (then s b) = suc (count b)

-- how many words items have; how many follow a statement's header; how many a block has
abbrev pub items_length : List Item → ℕ
items_length is = words_per_item * length is

unfoldable mutual
  pub rest_length : Stmt → ℕ
  rest_length (put x is) = items_length is
  rest_length (store a is js) = items_length is + items_length js
  rest_length (choose is a b) = items_length is + (block_length a + block_length b)
  rest_length (while is b) = items_length is + block_length b
  rest_length leave = 0
  rest_length (give is) = items_length is
  rest_length (emit is) = items_length is
  rest_length (run is) = items_length is
  rest_length S.unknown = 0

  pub block_length : Block → ℕ
  block_length end = 0
  block_length (then s b) = header_words + rest_length s + block_length b

unfoldable mutual
  pub stmt_words : Stmt → ℕ → List ℕ → List ℕ
  stmt_words (put x is) n more = header 0 x 0 (length is) 0 0 0 n (items_words is more)
  stmt_words (store a is js) n more = header 1 a.offset a.size (length is) (length js) 0 0 n (items_words is (items_words js more))
  stmt_words (choose is a b) n more = header 2 (block_length a) 0 (length is) 0 (count a) (count b) n (items_words is (block_words a (block_words b more)))
  stmt_words (while is b) n more = header 3 0 0 (length is) 0 (count b) 0 n (items_words is (block_words b more))
  stmt_words leave n more = header 4 0 0 0 0 0 0 n more
  stmt_words (give is) n more = header 5 0 0 (length is) 0 0 0 n (items_words is more)
  stmt_words (emit is) n more = header 6 0 0 (length is) 0 0 0 n (items_words is more)
  stmt_words (run is) n more = header 7 0 0 (length is) 0 0 0 n (items_words is more)
  stmt_words S.unknown n more = header 8 0 0 0 0 0 0 n more

  pub block_words : Block → List ℕ → List ℕ
  block_words end more = more
  block_words (then s b) more = stmt_words s (rest_length s) (block_words b more)

-- functions whose bodies stand one after the other from a place on: their entries, and their bodies
unfoldable pub entries : List C.Function → ℕ → List ℕ → List ℕ
entries [] place more = more
entries (f ∷ fs) place more =
    place ∷ count (flats f.body) ∷ f.parameters ∷ f.lets ∷ entries fs (place + block_length (flats f.body)) more

unfoldable pub bodies : List C.Function → List ℕ → List ℕ
bodies [] more = more
bodies (f ∷ fs) more = block_words (flats f.body) (bodies fs more)

-- The words of a program, and then more.
unfoldable pub words_then : C.Program → List ℕ → List ℕ
words_then p more =
    length p.functions ∷ p.main ∷ p.elements ∷ entries p.functions (entry (length p.functions)) (bodies p.functions more)

unfoldable pub words_of : C.Program → List ℕ
words_of p = words_then p []
