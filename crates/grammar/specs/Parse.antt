-- Document 01 §3 as a function from tokens to the tree: recursive descent that looks one token ahead, and the token at fault where there is no tree.
-- That it finds exactly the trees that derive is proved in proofs/.
use Rattle.std.specs.Prelude.{Bool, true, false, List, [], ◌∷◌, ℕ, zero, suc, ◌+◌, ltb, eqb, length}
use Rattle.std.proofs.Math.Option.{Option}
use Rattle.word.specs.Choice.{pick}
use Rattle.language.specs.Tree.{Place, Name, Ty, Unary, Binary, Expr, Args, Stmt, Block, Param, Item}
use Rattle.language.specs.Tokens.{Word, Sign, Token, Placed, Answer, tokens_of}
use Rattle.language.specs.Grammar.{Operator, operators, most_open, expr_level, comp_level, unary_level, nth}
use Rattle.tokens.specs.Kinds.{sign_kind, word_kind, kind_of}

-- what was read and the token after it; or the token at fault
pub data Out (A : Type 0) : Type 0 where
  ok : A → ℕ → Out A
  bad : ℕ → Out A

-- one thing after another
abbrev pub next : {A B : Type 0} → Out A → (A → ℕ → Out B) → Out B
next (ok a j) f = f a j
next (bad p) f = bad p

abbrev pub map : {A B : Type 0} → (A → B) → Out A → Out B
map f (ok a j) = ok (f a) j
map f (bad p) = bad p

-- Tokens, by the numbers of their kinds.

-- the kind of a name, of a number; what is past the last token has none
abbrev pub name_kind : ℕ
name_kind = 1

abbrev pub number_kind : ℕ
number_kind = 2

unfoldable pub kind_in : Option Placed → ℕ
kind_in Option.none = 0
kind_in (Option.some t) = kind_of t.token

unfoldable pub place_in : Option Placed → Place
place_in Option.none = 0
place_in (Option.some t) = t.place

unfoldable pub name_of : Token → Name
name_of (Token.name x) = x
name_of (Token.number n) = []
name_of (Token.word w) = []
name_of (Token.sign s) = []

unfoldable pub name_in : Option Placed → Name
name_in Option.none = []
name_in (Option.some t) = name_of t.token

unfoldable pub number_of : Token → ℕ
number_of (Token.name x) = 0
number_of (Token.number n) = n
number_of (Token.word w) = 0
number_of (Token.sign s) = 0

unfoldable pub number_in : Option Placed → ℕ
number_in Option.none = 0
number_in (Option.some t) = number_of t.token

-- Operators. Of the table's rows, the first of a kind: its level, 0 where the kind is no operator's, and its operator.

unfoldable pub level_in : List Operator → ℕ → ℕ
level_in [] k = 0
level_in (r ∷ rs) k = pick (eqb (sign_kind r.spelt) k) r.level (level_in rs k)

unfoldable pub means_in : List Operator → ℕ → Binary
means_in [] k = Binary.or
means_in (r ∷ rs) k = pick (eqb (sign_kind r.spelt) k) r.means (means_in rs k)

unfoldable pub level_of : ℕ → ℕ
level_of k = level_in operators k

unfoldable pub means_of : ℕ → Binary
means_of k = means_in operators k

-- more than a text has tokens, statements, operators or arguments
abbrev pub many : ℕ
many = 65536

-- how many operators of a level may follow one another
unfoldable pub most : ℕ → ℕ
most l = pick (eqb l comp_level) 1 many

-- what follows an operand: operators and their right sides; and the tree that the operand grows into, to the left
pub data Tail : Type 0 where
  done : Tail
  more : Place → Binary → Expr → Tail → Tail

unfoldable pub grow : Expr → Tail → Expr
grow a done = a
grow a (more p o b r) = grow (Expr.binary p o a b) r

-- levels and openings above an expression: one of level l with d things open takes at most 231 - l - 7 * d steps inwards
abbrev pub expr_steps : ℕ
expr_steps = 230

-- blocks in blocks
abbrev pub block_steps : ℕ
block_steps = 33

module _ (tok : ℕ → Option Placed) where
  abbrev pub kind : ℕ → ℕ
  kind i = kind_in (tok i)

  abbrev pub place_of : ℕ → Place
  place_of i = place_in (tok i)

  abbrev pub name_at : ℕ → Name
  name_at i = name_in (tok i)

  abbrev pub number_at : ℕ → ℕ
  number_at i = number_in (tok i)

  abbrev pub is_sign : ℕ → Sign → Bool
  is_sign i s = eqb (kind i) (sign_kind s)

  abbrev pub is_word : ℕ → Word → Bool
  is_word i w = eqb (kind i) (word_kind w)

  abbrev pub is_name : ℕ → Bool
  is_name i = eqb (kind i) name_kind

  abbrev pub is_number : ℕ → Bool
  is_number i = eqb (kind i) number_kind

  -- token i is this sign, and then; or it is at fault
  abbrev pub expect : {A : Type 0} → ℕ → Sign → Out A → Out A
  expect i s o = pick (is_sign i s) o (bad i)

  -- something is opened by token i, with d things open already; or token i is one too many
  abbrev pub opening : {A : Type 0} → ℕ → ℕ → Out A → Out A
  opening d i o = pick (ltb d most_open) o (bad i)

  -- Expressions, over what reads one of level l, with d things open, from token i on.
  module _ (sub : ℕ → ℕ → ℕ → Out Expr) where
    -- { operator operand }, at most n of them
    unfoldable pub rest_of : ℕ → ℕ → ℕ → ℕ → Out Tail
    rest_of zero l d i = ok done i
    rest_of (suc n) l d i =
        pick (eqb (level_of (kind i)) l)
        (next (sub (l + 1) d (i + 1)) (λ b j. map (more (place_of i) (means_of (kind i)) b) (rest_of n l d j)))
        (ok done i)

    -- expr { "," expr }
    unfoldable pub exprs_of : ℕ → ℕ → ℕ → Out Args
    exprs_of zero d i = bad i
    exprs_of (suc n) d i =
        next (sub expr_level d i) (λ e j.
        pick (is_sign j Sign.comma) (map (Args.more e) (exprs_of n d (j + 1)))
        (ok (Args.more e Args.none) j))

    -- "(" [ expr { "," expr } ] ")"
    unfoldable pub args_of : ℕ → ℕ → Out Args
    args_of d i = pick (is_sign i Sign.right_paren) (ok Args.none i) (exprs_of many d i)

    unfoldable pub arguments_of : ℕ → ℕ → Out Args
    arguments_of d i = opening d i (next (args_of (d + 1) (i + 1)) (λ es j. expect j Sign.right_paren (ok es (j + 1))))

    -- "(" expr ")" and "[" expr "]", by the kind of the sign that closes them
    unfoldable pub enclosed_of : ℕ → ℕ → ℕ → Out Expr
    enclosed_of s d i = opening d i (next (sub expr_level (d + 1) (i + 1)) (λ e j. pick (eqb (kind j) s) (ok e (j + 1)) (bad j)))

    -- name | name "[" expr "]" | name "(" [ expr { "," expr } ] ")"
    unfoldable pub named_of : ℕ → ℕ → Out Expr
    named_of d i =
        pick (is_sign (i + 1) Sign.left_bracket) (map (Expr.element (place_of i) (name_at i)) (enclosed_of (sign_kind Sign.right_bracket) d (i + 1)))
        (pick (is_sign (i + 1) Sign.left_paren) (map (Expr.call (place_of i) (name_at i)) (arguments_of d (i + 1)))
        (ok (Expr.name (place_of i) (name_at i)) (i + 1)))

    -- ( "-" | "!" ) unary
    unfoldable pub unary_of : Unary → ℕ → ℕ → Out Expr
    unary_of o d i = opening d i (map (Expr.unary (place_of i) o) (sub unary_level (d + 1) (i + 1)))

    -- unary and primary
    unfoldable pub primary_of : ℕ → ℕ → Out Expr
    primary_of d i =
        pick (is_number i) (ok (Expr.number (number_at i)) (i + 1))
        (pick (is_name i) (named_of d i)
        (pick (is_word i Word.true) (ok (Expr.truth true) (i + 1))
        (pick (is_word i Word.false) (ok (Expr.truth false) (i + 1))
        (pick (is_sign i Sign.left_paren) (enclosed_of (sign_kind Sign.right_paren) d i)
        (pick (is_sign i Sign.minus) (unary_of Unary.negate d i)
        (pick (is_sign i Sign.bang) (unary_of Unary.not d i)
        (bad i)))))))

  -- an expression of level l, h steps inwards at most
  unfoldable pub levelled : ℕ → ℕ → ℕ → ℕ → Out Expr
  levelled zero l d i = bad i
  levelled (suc h) l d i =
      pick (ltb l unary_level)
      (next (levelled h (l + 1) d i) (λ a j. map (grow a) (rest_of (levelled h) (most l) l d j)))
      (primary_of (levelled h) d i)

  unfoldable pub expr_of : ℕ → ℕ → Out Expr
  expr_of d i = levelled expr_steps expr_level d i

  unfoldable pub index_of : ℕ → ℕ → Out Expr
  index_of d i = enclosed_of (levelled expr_steps) (sign_kind Sign.right_bracket) d i

  unfoldable pub call_of : ℕ → ℕ → Out Args
  call_of d i = arguments_of (levelled expr_steps) d i

  -- expr ";"
  unfoldable pub ended_of : ℕ → ℕ → Out Expr
  ended_of d i = next (expr_of d i) (λ e j. expect j Sign.semicolon (ok e (j + 1)))

  -- type = "int" | "bool"
  unfoldable pub type_of : ℕ → Out Ty
  type_of i = pick (is_word i Word.int) (ok Ty.int (i + 1)) (pick (is_word i Word.bool) (ok Ty.bool (i + 1)) (bad i))

  -- Statements.

  -- name ":" type, from the name on, and what stands there
  unfoldable pub typed_of : ℕ → Out Ty
  typed_of i = pick (is_name i) (expect (i + 1) Sign.colon (type_of (i + 2))) (bad i)

  -- "let" name ":" type "=" expr ";"
  unfoldable pub declare_of : ℕ → ℕ → Out Stmt
  declare_of d i =
      next (typed_of (i + 1)) (λ t j. expect j Sign.equals (map (Stmt.declare (place_of (i + 1)) (name_at (i + 1)) t) (ended_of d (j + 1))))

  -- name "=" expr ";"
  unfoldable pub assign_of : ℕ → ℕ → Out Stmt
  assign_of d i = map (Stmt.assign (place_of i) (name_at i)) (ended_of d (i + 2))

  -- name "[" expr "]" "=" expr ";"
  unfoldable pub store_of : ℕ → ℕ → Out Stmt
  store_of d i = next (index_of d (i + 1)) (λ a j. expect j Sign.equals (map (Stmt.store (place_of i) (name_at i) a) (ended_of d (j + 1))))

  -- name "(" [ expr { "," expr } ] ")" ";"
  unfoldable pub run_of : ℕ → ℕ → Out Stmt
  run_of d i = next (call_of d (i + 1)) (λ es j. expect j Sign.semicolon (ok (Stmt.run (place_of i) (name_at i) es) (j + 1)))

  -- what begins with a name
  unfoldable pub change_of : ℕ → ℕ → Out Stmt
  change_of d i =
      pick (is_sign (i + 1) Sign.equals) (assign_of d i)
      (pick (is_sign (i + 1) Sign.left_bracket) (store_of d i)
      (pick (is_sign (i + 1) Sign.left_paren) (run_of d i)
      (bad (i + 1))))

  -- "return" [ expr ] ";"
  unfoldable pub return_of : ℕ → ℕ → Out Stmt
  return_of d i =
      pick (is_sign (i + 1) Sign.semicolon) (ok (Stmt.leave (place_of i)) (i + 2))
      (map (Stmt.give (place_of i)) (ended_of d (i + 1)))

  -- "emit" expr ";"
  unfoldable pub emit_of : ℕ → ℕ → Out Stmt
  emit_of d i = map (Stmt.emit (place_of i)) (ended_of d (i + 1))

  -- over what reads a block with d things open, from token i on
  module _ (block : ℕ → ℕ → Out Block) where
    -- "while" expr block
    unfoldable pub while_of : ℕ → ℕ → Out Stmt
    while_of d i = next (expr_of d (i + 1)) (λ e j. map (Stmt.while (place_of i) e) (block d j))

    -- [ "else" block ], after the condition and the first block
    unfoldable pub else_of : ℕ → Place → Expr → Block → ℕ → Out Stmt
    else_of d p e b k = pick (is_word k Word.else) (map (Stmt.choose p e b) (block d (k + 1))) (ok (Stmt.when p e b) k)

    -- "if" expr block [ "else" block ]
    unfoldable pub if_of : ℕ → ℕ → Out Stmt
    if_of d i = next (expr_of d (i + 1)) (λ e j. next (block d j) (λ b k. else_of d (place_of i) e b k))

    unfoldable pub stmt_of : ℕ → ℕ → Out Stmt
    stmt_of d i =
        pick (is_name i) (change_of d i)
        (pick (is_word i Word.«let») (declare_of d i)
        (pick (is_word i Word.if) (if_of d i)
        (pick (is_word i Word.while) (while_of d i)
        (pick (is_word i Word.return) (return_of d i)
        (pick (is_word i Word.emit) (emit_of d i)
        (bad i))))))

    -- { statement }, up to "}"
    unfoldable pub stmts_of : ℕ → ℕ → ℕ → Out Block
    stmts_of zero d i = bad i
    stmts_of (suc n) d i =
        pick (is_sign i Sign.right_brace) (ok Block.end i)
        (next (stmt_of d i) (λ s j. map (Block.then s) (stmts_of n d j)))

  -- block = "{" { statement } "}"
  unfoldable pub block_of : ℕ → ℕ → ℕ → Out Block
  block_of zero d i = bad i
  block_of (suc h) d i =
      expect i Sign.left_brace (opening d i
      (next (stmts_of (block_of h) many (d + 1) (i + 1)) (λ b j. expect j Sign.right_brace (ok b (j + 1)))))

  -- Arrays and functions.

  -- param = name ":" type
  unfoldable pub param_of : ℕ → Out Param
  param_of i = map (λ t. record { place = place_of i; name = name_at i; type = t }) (typed_of i)

  -- param { "," param }
  unfoldable pub param_list_of : ℕ → ℕ → Out (List Param)
  param_list_of zero i = bad i
  param_list_of (suc n) i =
      next (param_of i) (λ x j.
      pick (is_sign j Sign.comma) (map (λ xs. x ∷ xs) (param_list_of n (j + 1)))
      (ok (x ∷ []) j))

  -- [ param { "," param } ]
  unfoldable pub params_of : ℕ → Out (List Param)
  params_of i = pick (is_sign i Sign.right_paren) (ok [] i) (param_list_of many i)

  -- [ ":" type ]
  unfoldable pub result_of : ℕ → Out (Option Ty)
  result_of i = pick (is_sign i Sign.colon) (map Option.some (type_of (i + 1))) (ok Option.none i)

  -- "[" number "]" ";"
  unfoldable pub size_of : ℕ → Out ℕ
  size_of i =
      expect i Sign.left_bracket
      (pick (is_number (i + 1)) (expect (i + 2) Sign.right_bracket (expect (i + 3) Sign.semicolon (ok (number_at (i + 1)) (i + 4))))
      (bad (i + 1)))

  -- array = "var" name ":" "int" "[" number "]" ";"
  unfoldable pub array_of : ℕ → Out Item
  array_of i =
      pick (is_name (i + 1))
      (expect (i + 2) Sign.colon
      (pick (is_word (i + 3) Word.int) (map (Item.array (place_of (i + 1)) (name_at (i + 1))) (size_of (i + 4)))
      (bad (i + 3))))
      (bad (i + 1))

  -- function = "fn" name "(" [ param { "," param } ] ")" [ ":" type ] block
  unfoldable pub body_of : Place → Name → List Param → ℕ → Out Item
  body_of p x xs i = next (result_of i) (λ t k. map (Item.function p x xs t) (block_of block_steps 0 k))

  unfoldable pub function_of : ℕ → Out Item
  function_of i =
      pick (is_name (i + 1))
      (expect (i + 2) Sign.left_paren
      (next (params_of (i + 3)) (λ xs j. expect j Sign.right_paren (body_of (place_of (i + 1)) (name_at (i + 1)) xs (j + 1)))))
      (bad (i + 1))

  unfoldable pub item_of : ℕ → Out Item
  item_of i = pick (is_word i Word.var) (array_of i) (pick (is_word i Word.fn) (function_of i) (bad i))

  -- program = { array | function }, up to the last of so many tokens
  unfoldable pub items_of : ℕ → ℕ → ℕ → Out (List Item)
  items_of count zero i = bad i
  items_of count (suc n) i = pick (eqb i count) (ok [] i) (next (item_of i) (λ x j. map (λ xs. x ∷ xs) (items_of count n j)))

-- A whole text.

unfoldable pub program_of : List Placed → Out (List Item)
program_of ts = items_of (nth ts) (length ts) (suc many) 0

-- the place of the token at fault; past the last token, the text's length
unfoldable pub fault_at : Option Placed → ℕ → Place
fault_at Option.none end = end
fault_at (Option.some t) end = t.place

unfoldable pub answer_of : List Placed → ℕ → Out (List Item) → Answer (List Item)
answer_of ts end (ok items j) = Answer.good items
answer_of ts end (bad p) = Answer.refused (fault_at (nth ts p) end)

unfoldable pub tree_in : ℕ → Answer (List Placed) → Answer (List Item)
tree_in end (Answer.refused p) = Answer.refused p
tree_in end (Answer.good ts) = answer_of ts end (program_of ts)

-- the tree of a text, or the place of its fault
unfoldable pub tree_of : List ℕ → Answer (List Item)
tree_of text = tree_in (length text) (tokens_of text)
