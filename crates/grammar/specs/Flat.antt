-- The tree of a text as words: operands before what is done with them, blocks in the statements that hold them. One forward pass reads it.
-- A name is its place and its length: its bytes stand in the text. Each kind has a number here; src/ names the same numbers.
use Rattle.std.specs.Prelude.{Bool, true, false, List, [], ◌∷◌, ℕ, suc, ◌+◌, length}
use Rattle.std.proofs.Math.Option.{Option}
use Rattle.language.specs.Tree.{Place, Name, Ty, Unary, Strict, Binary, Expr, Args, Stmt, Block, Param, Item}
use Rattle.grammar.specs.Parse.{Tail}

-- Expressions. An item is four words: its kind's number, the place of its token (0 for a number or a truth), and two that the kind has a use for.

abbrev pub words_per_item : ℕ
words_per_item = 4

abbrev pub item : ℕ → Place → ℕ → ℕ → List ℕ → List ℕ
item k p a b more = k ∷ p ∷ a ∷ b ∷ more

-- the kinds: a number and its value; a name, an element and its name's length; a call, its name's length and how many arguments; a unary
-- operator and its number; a strict operator and its number; `&&` and `||`, between their sides, and how many items the right side has;
-- the end of that right side, with the operator's place; a truth, 0 or 1
abbrev pub number_item : ℕ
number_item = 0

abbrev pub name_item : ℕ
name_item = 1

abbrev pub element_item : ℕ
element_item = 2

abbrev pub call_item : ℕ
call_item = 3

abbrev pub unary_item : ℕ
unary_item = 4

abbrev pub strict_item : ℕ
strict_item = 5

abbrev pub and_item : ℕ
and_item = 6

abbrev pub or_item : ℕ
or_item = 7

abbrev pub join_item : ℕ
join_item = 8

abbrev pub truth_item : ℕ
truth_item = 9

unfoldable pub truth_number : Bool → ℕ
truth_number false = 0
truth_number true = 1

unfoldable pub unary_number : Unary → ℕ
unary_number Unary.negate = 0
unary_number Unary.not = 1

unfoldable pub strict_number : Strict → ℕ
strict_number Strict.eq = 0
strict_number Strict.ne = 1
strict_number Strict.lt = 2
strict_number Strict.le = 3
strict_number Strict.gt = 4
strict_number Strict.ge = 5
strict_number Strict.add = 6
strict_number Strict.sub = 7
strict_number Strict.mul = 8
strict_number Strict.div = 9
strict_number Strict.rem = 10

-- how many arguments
unfoldable pub arg_count : Args → ℕ
arg_count Args.none = 0
arg_count (Args.more e es) = suc (arg_count es)

-- how many items
unfoldable mutual
  pub size : Expr → ℕ
  size (Expr.number n) = 1
  size (Expr.truth b) = 1
  size (Expr.name p x) = 1
  size (Expr.element p x e) = size e + 1
  size (Expr.call p x es) = sizes es + 1
  size (Expr.unary p o a) = size a + 1
  size (Expr.binary p Binary.or a b) = size a + (1 + (size b + 1))
  size (Expr.binary p Binary.and a b) = size a + (1 + (size b + 1))
  size (Expr.binary p (Binary.strict s) a b) = size a + (size b + 1)

  pub sizes : Args → ℕ
  sizes Args.none = 0
  sizes (Args.more e es) = size e + sizes es

-- the words of an expression, and then more
unfoldable mutual
  pub expr_words : Expr → List ℕ → List ℕ
  expr_words (Expr.number n) more = item number_item 0 n 0 more
  expr_words (Expr.truth b) more = item truth_item 0 (truth_number b) 0 more
  expr_words (Expr.name p x) more = item name_item p (length x) 0 more
  expr_words (Expr.element p x e) more = expr_words e (item element_item p (length x) 0 more)
  expr_words (Expr.call p x es) more = args_words es (item call_item p (length x) (arg_count es) more)
  expr_words (Expr.unary p o a) more = expr_words a (item unary_item p (unary_number o) 0 more)
  expr_words (Expr.binary p Binary.or a b) more = expr_words a (item or_item p (size b) 0 (expr_words b (item join_item p 0 0 more)))
  expr_words (Expr.binary p Binary.and a b) more = expr_words a (item and_item p (size b) 0 (expr_words b (item join_item p 0 0 more)))
  expr_words (Expr.binary p (Binary.strict s) a b) more = expr_words a (expr_words b (item strict_item p (strict_number s) 0 more))

  pub args_words : Args → List ℕ → List ℕ
  args_words Args.none more = more
  args_words (Args.more e es) more = expr_words e (args_words es more)

-- an operator and its right side, after the left side
unfoldable pub right_words : Place → Binary → Expr → List ℕ → List ℕ
right_words p Binary.or b more = item or_item p (size b) 0 (expr_words b (item join_item p 0 0 more))
right_words p Binary.and b more = item and_item p (size b) 0 (expr_words b (item join_item p 0 0 more))
right_words p (Binary.strict s) b more = expr_words b (item strict_item p (strict_number s) 0 more)

unfoldable pub tail_words : Tail → List ℕ → List ℕ
tail_words Tail.done more = more
tail_words (Tail.more p o b r) more = right_words p o b (tail_words r more)

-- Statements. A statement is a header of eight words, then its expressions and its blocks, one after the other. The header's words: 0 its kind's
-- number, 1 the place where it is reported, 2 its name's length or how many words its first block has, 3 and 4 how many items its first and its
-- second expression have, 5 and 6 how many statements its first and its second block have, 7 how many words follow the header.

abbrev pub header_words : ℕ
header_words = 8

abbrev pub header : ℕ → Place → ℕ → ℕ → ℕ → ℕ → ℕ → ℕ → List ℕ → List ℕ
header k p x n₁ n₂ s₁ s₂ follow more = k ∷ p ∷ x ∷ n₁ ∷ n₂ ∷ s₁ ∷ s₂ ∷ follow ∷ more

abbrev pub assign_kind : ℕ
assign_kind = 0

abbrev pub store_kind : ℕ
store_kind = 1

abbrev pub choose_kind : ℕ
choose_kind = 2

abbrev pub while_kind : ℕ
while_kind = 3

abbrev pub leave_kind : ℕ
leave_kind = 4

abbrev pub give_kind : ℕ
give_kind = 5

abbrev pub emit_kind : ℕ
emit_kind = 6

abbrev pub run_kind : ℕ
run_kind = 7

abbrev pub when_kind : ℕ
when_kind = 8

-- a declaration has a kind for each type
unfoldable pub declare_kind : Ty → ℕ
declare_kind Ty.int = 9
declare_kind Ty.bool = 10

-- how many statements
unfoldable pub count : Block → ℕ
count Block.end = 0
count (Block.then s b) = suc (count b)

-- how many words
abbrev pub expr_length : Expr → ℕ
expr_length e = length (expr_words e [])

-- the arguments of a call statement and the call
unfoldable pub run_words : Place → Name → Args → List ℕ → List ℕ
run_words p x es more = args_words es (item call_item p (length x) (arg_count es) more)

unfoldable mutual
  pub stmt_words : Stmt → List ℕ → List ℕ
  stmt_words (Stmt.declare p x t e) more = header (declare_kind t) p (length x) (size e) 0 0 0 (expr_length e) (expr_words e more)
  stmt_words (Stmt.assign p x e) more = header assign_kind p (length x) (size e) 0 0 0 (expr_length e) (expr_words e more)
  stmt_words (Stmt.store p x a e) more = header store_kind p (length x) (size a) (size e) 0 0 (expr_length a + expr_length e) (expr_words a (expr_words e more))
  stmt_words (Stmt.when p e b) more = header when_kind p (length (block_words b [])) (size e) 0 (count b) 0 (expr_length e + length (block_words b [])) (expr_words e (block_words b more))
  stmt_words (Stmt.choose p e b c) more =
      header choose_kind p (length (block_words b [])) (size e) 0 (count b) (count c) (expr_length e + (length (block_words b []) + length (block_words c []))) (expr_words e (block_words b (block_words c more)))
  stmt_words (Stmt.while p e b) more = header while_kind p (length (block_words b [])) (size e) 0 (count b) 0 (expr_length e + length (block_words b [])) (expr_words e (block_words b more))
  stmt_words (Stmt.leave p) more = header leave_kind p 0 0 0 0 0 0 more
  stmt_words (Stmt.give p e) more = header give_kind p 0 (size e) 0 0 0 (expr_length e) (expr_words e more)
  stmt_words (Stmt.emit p e) more = header emit_kind p 0 (size e) 0 0 0 (expr_length e) (expr_words e more)
  stmt_words (Stmt.run p x es) more = header run_kind p (length x) (sizes es + 1) 0 0 0 (length (run_words p x es [])) (run_words p x es more)

  pub block_words : Block → List ℕ → List ℕ
  block_words Block.end more = more
  block_words (Block.then s b) more = stmt_words s (block_words b more)

-- Arrays and functions. Each is a header of eight words. An array's: 0 its kind's number, 1 its name's place, 2 its name's length, 3 its size.
-- A function's: 0 to 2 the same, 3 how many parameters, 4 its result's type (0 for none), 5 how many statements, 6 how many words its body has,
-- 7 how many words follow the header. Then come the parameters, three words each: place, name's length, type; and then the body.

abbrev pub array_kind : ℕ
array_kind = 0

abbrev pub function_kind : ℕ
function_kind = 1

unfoldable pub type_number : Ty → ℕ
type_number Ty.int = 1
type_number Ty.bool = 2

unfoldable pub result_number : Option Ty → ℕ
result_number Option.none = 0
result_number (Option.some t) = type_number t

abbrev pub param_words : ℕ
param_words = 3

unfoldable pub params_words : List Param → List ℕ → List ℕ
params_words [] more = more
params_words (x ∷ xs) more = x.place ∷ length x.name ∷ type_number x.type ∷ params_words xs more

unfoldable pub item_words : Item → List ℕ → List ℕ
item_words (Item.array p x n) more = header array_kind p (length x) n 0 0 0 0 more
item_words (Item.function p x xs t b) more =
    header function_kind p (length x) (length xs) (result_number t) (count b) (length (block_words b [])) (length (params_words xs []) + length (block_words b [])) (params_words xs (block_words b more))

unfoldable pub items_words : List Item → List ℕ → List ℕ
items_words [] more = more
items_words (x ∷ xs) more = item_words x (items_words xs more)

-- the words of a tree
unfoldable pub tree_words : List Item → List ℕ
tree_words items = items_words items []

-- the words of all trees fit in this room: at most eight for each token of the longest text
abbrev pub words_for_token : ℕ
words_for_token = 8

abbrev pub tree_room : ℕ
tree_room = 524288
