-- Document 01 §3: the grammar, as derivations over the tokens of a text. Tokens are counted from 0; a relation speaks of
-- the tokens from i up to j, without j. Each line of the document stands above the constructors that say it.
-- The index d is how many of the counted things are open around: blocks, parentheses of expressions, argument lists of calls,
-- brackets around an index, unary operators.
use Rattle.std.specs.Prelude.{◌≡◌, refl, Bool, List, [], ◌∷◌, ℕ, zero, suc, ◌+◌, ◌<◌, length}
use Rattle.std.proofs.Math.Option.{Option, map}
use Rattle.std.proofs.Common.{arith}
use Rattle.language.specs.Tree.{Place, Name, Ty, Unary, Strict, Binary, Expr, Args, Stmt, Block, Param, Item}
use Rattle.language.specs.Tokens.{Word, Sign, Token, Placed, placed, In, Readable, bytes, reads, Answer}

-- "At most 32 of these may be open at any point"
abbrev pub most_open : ℕ
most_open = 32

-- The levels of binary operators, the weakest first: expr, conj, comp, sum, term. What stands between the operators of a level
-- is of the next level, and above the last is unary.
abbrev pub expr_level : ℕ
expr_level = 1

abbrev pub comp_level : ℕ
comp_level = 3

abbrev pub unary_level : ℕ
unary_level = 6

-- a sign that is an operator between two sides, and its level
pub record Operator : Type 0 where
  pub spelt : Sign
  pub level : ℕ
  pub means : Binary

abbrev pub op : Sign → ℕ → Binary → Operator
op s l o = record { spelt = s; level = l; means = o }

unfoldable pub operators : List Operator
operators =
    -- expr = conj { "||" conj }
    op Sign.double_bar 1 Binary.or
    -- conj = comp { "&&" comp }
    ∷ op Sign.double_ampersand 2 Binary.and
    -- comp = sum [ ( "==" | "!=" | "<" | "<=" | ">" | ">=" ) sum ]
    ∷ op Sign.double_equals 3 (Binary.strict Strict.eq)
    ∷ op Sign.bang_equals 3 (Binary.strict Strict.ne)
    ∷ op Sign.less 3 (Binary.strict Strict.lt)
    ∷ op Sign.less_equals 3 (Binary.strict Strict.le)
    ∷ op Sign.greater 3 (Binary.strict Strict.gt)
    ∷ op Sign.greater_equals 3 (Binary.strict Strict.ge)
    -- sum = term { ( "+" | "-" ) term }
    ∷ op Sign.plus 4 (Binary.strict Strict.add)
    ∷ op Sign.minus 4 (Binary.strict Strict.sub)
    -- term = unary { ( "*" | "/" | "%" ) unary }
    ∷ op Sign.star 5 (Binary.strict Strict.mul)
    ∷ op Sign.slash 5 (Binary.strict Strict.div)
    ∷ op Sign.percent 5 (Binary.strict Strict.rem)
    ∷ []

-- unary = ( "-" | "!" ) unary
unfoldable pub unaries : List (Sign × Unary)
unaries = (Sign.minus, Unary.negate) ∷ (Sign.bang, Unary.not) ∷ []

module _ (tok : ℕ → Option Placed) where
  -- token i is t, at the place p; token i is t
  abbrev pub At : ℕ → Token → Place → Type 0
  At i t p = tok i ≡ Option.some (placed t p)

  abbrev pub Has : ℕ → Token → Type 0
  Has i t = map (λ (q : Placed). q.token) (tok i) ≡ Option.some t

  abbrev pub HasWord : ℕ → Word → Type 0
  HasWord i w = Has i (Token.word w)

  abbrev pub HasSign : ℕ → Sign → Type 0
  HasSign i s = Has i (Token.sign s)

  mutual
    -- an expression of level l
    pub data IsExpr : ℕ → ℕ → ℕ → ℕ → Expr → Type 0 where
      -- expr, conj, comp, sum and term: an operand, and what follows it on its level
      chain : {l d i j k : ℕ} {a e : Expr} → l < unary_level → IsExpr (l + 1) d i j a → IsRest l d j k a e → IsExpr l d i k e
      -- unary = ( "-" | "!" ) unary | primary
      unary : {d i j : ℕ} {p : Place} {s : Sign} {o : Unary} {a : Expr} → At i (Token.sign s) p → In (s, o) unaries → d < most_open → IsExpr unary_level (d + 1) (i + 1) j a → IsExpr unary_level d i j (Expr.unary p o a)
      -- primary = number | "true" | "false" | name | name "[" expr "]"
      number : {d i j n : ℕ} → Has i (Token.number n) → j ≡ i + 1 → IsExpr unary_level d i j (Expr.number n)
      true : {d i j : ℕ} → HasWord i Word.true → j ≡ i + 1 → IsExpr unary_level d i j (Expr.truth Bool.true)
      false : {d i j : ℕ} → HasWord i Word.false → j ≡ i + 1 → IsExpr unary_level d i j (Expr.truth Bool.false)
      name : {d i j : ℕ} {p : Place} {x : Name} → At i (Token.name x) p → j ≡ i + 1 → IsExpr unary_level d i j (Expr.name p x)
      element : {d i j k : ℕ} {p : Place} {x : Name} {e : Expr} → At i (Token.name x) p → HasSign (i + 1) Sign.left_bracket → d < most_open → IsExpr expr_level (d + 1) (i + 2) j e → HasSign j Sign.right_bracket → k ≡ j + 1 → IsExpr unary_level d i k (Expr.element p x e)
      --         | name "(" [ expr { "," expr } ] ")" | "(" expr ")"
      call : {d i j k : ℕ} {p : Place} {x : Name} {es : Args} → At i (Token.name x) p → HasSign (i + 1) Sign.left_paren → d < most_open → IsArgs (d + 1) (i + 2) j es → HasSign j Sign.right_paren → k ≡ j + 1 → IsExpr unary_level d i k (Expr.call p x es)
      parens : {d i j k : ℕ} {e : Expr} → HasSign i Sign.left_paren → d < most_open → IsExpr expr_level (d + 1) (i + 1) j e → HasSign j Sign.right_paren → k ≡ j + 1 → IsExpr unary_level d i k e

    -- after the operand a, { operator operand }: "Operators of one level group to the left." On comp's level [ operator operand ].
    pub data IsRest : ℕ → ℕ → ℕ → ℕ → Expr → Expr → Type 0 where
      done : {l d i : ℕ} {a : Expr} → IsRest l d i i a a
      again : {l d i j k : ℕ} {p : Place} {s : Sign} {o : Binary} {a b e : Expr} → ¬ (l ≡ comp_level) → At i (Token.sign s) p → In (op s l o) operators → IsExpr (l + 1) d (i + 1) j b → IsRest l d j k (Expr.binary p o a b) e → IsRest l d i k a e
      once : {l d i j : ℕ} {p : Place} {s : Sign} {o : Binary} {a b : Expr} → l ≡ comp_level → At i (Token.sign s) p → In (op s l o) operators → IsExpr (l + 1) d (i + 1) j b → IsRest l d i j a (Expr.binary p o a b)

    -- [ expr { "," expr } ]
    pub data IsArgs : ℕ → ℕ → ℕ → Args → Type 0 where
      none : {d i : ℕ} → IsArgs d i i Args.none
      some : {d i j : ℕ} {es : Args} → IsExprs d i j es → IsArgs d i j es

    -- expr { "," expr }
    pub data IsExprs : ℕ → ℕ → ℕ → Args → Type 0 where
      last : {d i j : ℕ} {e : Expr} → IsExpr expr_level d i j e → IsExprs d i j (Args.more e Args.none)
      comma : {d i j k : ℕ} {e : Expr} {es : Args} → IsExpr expr_level d i j e → HasSign j Sign.comma → IsExprs d (j + 1) k es → IsExprs d i k (Args.more e es)

  -- type = "int" | "bool"
  pub data IsType : ℕ → Ty → Type 0 where
    int : {i : ℕ} → HasWord i Word.int → IsType i Ty.int
    bool : {i : ℕ} → HasWord i Word.bool → IsType i Ty.bool

  mutual
    pub data IsStmt : ℕ → ℕ → ℕ → Stmt → Type 0 where
      -- statement = "let" name ":" type "=" expr ";"
      declare : {d i j k : ℕ} {p : Place} {x : Name} {t : Ty} {e : Expr} → HasWord i Word.«let» → At (i + 1) (Token.name x) p → HasSign (i + 2) Sign.colon → IsType (i + 3) t → HasSign (i + 4) Sign.equals → IsExpr expr_level d (i + 5) j e → HasSign j Sign.semicolon → k ≡ j + 1 → IsStmt d i k (Stmt.declare p x t e)
      -- | name "=" expr ";"           | name "[" expr "]" "=" expr ";"
      assign : {d i j k : ℕ} {p : Place} {x : Name} {e : Expr} → At i (Token.name x) p → HasSign (i + 1) Sign.equals → IsExpr expr_level d (i + 2) j e → HasSign j Sign.semicolon → k ≡ j + 1 → IsStmt d i k (Stmt.assign p x e)
      store : {d i j k l : ℕ} {p : Place} {x : Name} {a e : Expr} → At i (Token.name x) p → HasSign (i + 1) Sign.left_bracket → d < most_open → IsExpr expr_level (d + 1) (i + 2) j a → HasSign j Sign.right_bracket → HasSign (j + 1) Sign.equals → IsExpr expr_level d (j + 2) k e → HasSign k Sign.semicolon → l ≡ k + 1 → IsStmt d i l (Stmt.store p x a e)
      -- | "if" expr block [ "else" block ]
      when : {d i j k : ℕ} {p : Place} {e : Expr} {b : Block} → At i (Token.word Word.if) p → IsExpr expr_level d (i + 1) j e → IsBlock d j k b → IsStmt d i k (Stmt.when p e b)
      choose : {d i j k l : ℕ} {p : Place} {e : Expr} {b c : Block} → At i (Token.word Word.if) p → IsExpr expr_level d (i + 1) j e → IsBlock d j k b → HasWord k Word.else → IsBlock d (k + 1) l c → IsStmt d i l (Stmt.choose p e b c)
      -- | "while" expr block          | "return" [ expr ] ";"
      while : {d i j k : ℕ} {p : Place} {e : Expr} {b : Block} → At i (Token.word Word.while) p → IsExpr expr_level d (i + 1) j e → IsBlock d j k b → IsStmt d i k (Stmt.while p e b)
      leave : {d i j : ℕ} {p : Place} → At i (Token.word Word.return) p → HasSign (i + 1) Sign.semicolon → j ≡ i + 2 → IsStmt d i j (Stmt.leave p)
      give : {d i j k : ℕ} {p : Place} {e : Expr} → At i (Token.word Word.return) p → IsExpr expr_level d (i + 1) j e → HasSign j Sign.semicolon → k ≡ j + 1 → IsStmt d i k (Stmt.give p e)
      -- | "emit" expr ";"             | name "(" [ expr { "," expr } ] ")" ";"
      emit : {d i j k : ℕ} {p : Place} {e : Expr} → At i (Token.word Word.emit) p → IsExpr expr_level d (i + 1) j e → HasSign j Sign.semicolon → k ≡ j + 1 → IsStmt d i k (Stmt.emit p e)
      run : {d i j k : ℕ} {p : Place} {x : Name} {es : Args} → At i (Token.name x) p → HasSign (i + 1) Sign.left_paren → d < most_open → IsArgs (d + 1) (i + 2) j es → HasSign j Sign.right_paren → HasSign (j + 1) Sign.semicolon → k ≡ j + 2 → IsStmt d i k (Stmt.run p x es)

    -- { statement }
    pub data IsStmts : ℕ → ℕ → ℕ → Block → Type 0 where
      end : {d i : ℕ} → IsStmts d i i Block.end
      then : {d i j k : ℕ} {s : Stmt} {b : Block} → IsStmt d i j s → IsStmts d j k b → IsStmts d i k (Block.then s b)

    -- block = "{" { statement } "}"
    pub data IsBlock : ℕ → ℕ → ℕ → Block → Type 0 where
      block : {d i j k : ℕ} {b : Block} → HasSign i Sign.left_brace → d < most_open → IsStmts (d + 1) (i + 1) j b → HasSign j Sign.right_brace → k ≡ j + 1 → IsBlock d i k b

  -- param = name ":" type
  pub data IsParam : ℕ → ℕ → Param → Type 0 where
    param : {i j : ℕ} {p : Place} {x : Name} {t : Ty} → At i (Token.name x) p → HasSign (i + 1) Sign.colon → IsType (i + 2) t → j ≡ i + 3 → IsParam i j (record { place = p; name = x; type = t })

  -- param { "," param }
  pub data IsParamList : ℕ → ℕ → List Param → Type 0 where
    last : {i j : ℕ} {x : Param} → IsParam i j x → IsParamList i j (x ∷ [])
    comma : {i j k : ℕ} {x : Param} {xs : List Param} → IsParam i j x → HasSign j Sign.comma → IsParamList (j + 1) k xs → IsParamList i k (x ∷ xs)

  -- [ param { "," param } ]
  pub data IsParams : ℕ → ℕ → List Param → Type 0 where
    none : {i : ℕ} → IsParams i i []
    some : {i j : ℕ} {xs : List Param} → IsParamList i j xs → IsParams i j xs

  -- [ ":" type ]
  pub data IsResult : ℕ → ℕ → Option Ty → Type 0 where
    none : {i : ℕ} → IsResult i i Option.none
    some : {i j : ℕ} {t : Ty} → HasSign i Sign.colon → IsType (i + 1) t → j ≡ i + 2 → IsResult i j (Option.some t)

  pub data IsItem : ℕ → ℕ → Item → Type 0 where
    -- array = "var" name ":" "int" "[" number "]" ";"
    array : {i j n : ℕ} {p : Place} {x : Name} → HasWord i Word.var → At (i + 1) (Token.name x) p → HasSign (i + 2) Sign.colon → HasWord (i + 3) Word.int → HasSign (i + 4) Sign.left_bracket → Has (i + 5) (Token.number n) → HasSign (i + 6) Sign.right_bracket → HasSign (i + 7) Sign.semicolon → j ≡ i + 8 → IsItem i j (Item.array p x n)
    -- function = "fn" name "(" [ param { "," param } ] ")" [ ":" type ] block
    function : {i j k l : ℕ} {p : Place} {x : Name} {xs : List Param} {t : Option Ty} {b : Block} → HasWord i Word.fn → At (i + 1) (Token.name x) p → HasSign (i + 2) Sign.left_paren → IsParams (i + 3) j xs → HasSign j Sign.right_paren → IsResult (j + 1) k t → IsBlock 0 k l b → IsItem i l (Item.function p x xs t b)

  -- program = { array | function }
  pub data IsItems : ℕ → ℕ → List Item → Type 0 where
    end : {i : ℕ} → IsItems i i []
    then : {i j k : ℕ} {x : Item} {xs : List Item} → IsItem i j x → IsItems j k xs → IsItems i k (x ∷ xs)

-- token i of a list
unfoldable pub nth : List Placed → ℕ → Option Placed
nth [] i = Option.none
nth (t ∷ ts) zero = Option.some t
nth (t ∷ ts) (suc i) = nth ts i

-- these tokens, all of them, are a program with these arrays and functions
abbrev pub Program : List Placed → List Item → Type 0
Program ts items = IsItems (nth ts) 0 (length ts) items

-- a text is readable: it reads as tokens, and they are a program
pub record Parses (text : List ℕ) (items : List Item) : Type 0 where
  pub tokens : List Placed
  pub reads : Readable text tokens
  pub derives : Program tokens items

-- Examples. `a - b - c` is `(a - b) - c`: a program of these tokens with this tree.

text : List Placed
text =
    placed (Token.word Word.fn) 0 ∷ placed (Token.name (bytes "main")) 3 ∷ placed (Token.sign Sign.left_paren) 7 ∷ placed (Token.sign Sign.right_paren) 8 ∷ placed (Token.sign Sign.left_brace) 10 ∷ placed (Token.word Word.emit) 12 ∷ placed (Token.number 7) 17 ∷ placed (Token.sign Sign.minus) 19 ∷ placed (Token.number 2) 21 ∷ placed (Token.sign Sign.minus) 23 ∷ placed (Token.number 1) 25 ∷ placed (Token.sign Sign.semicolon) 26 ∷ placed (Token.sign Sign.right_brace) 28 ∷ []

text_reads : reads "fn main() { emit 7 - 2 - 1; }" ≡ Answer.good text
unfolding text reads
text_reads = refl

abbrev minus : Place → Expr → Expr → Expr
minus p a b = Expr.binary p (Binary.strict Strict.sub) a b

minus_row : In (op Sign.minus 4 (Binary.strict Strict.sub)) operators
unfolding operators
minus_row = In.there (In.there (In.there (In.there (In.there (In.there (In.there (In.there (In.there (In.here refl)))))))))

-- what stands alone on a level is of the level above
alone : {l i j : ℕ} {e : Expr} → l < unary_level → IsExpr (nth text) (l + 1) 1 i j e → IsExpr (nth text) l 1 i j e
alone h e = IsExpr.chain h e IsRest.done

term : (i n : ℕ) → Has (nth text) i (Token.number n) → IsExpr (nth text) 5 1 i (i + 1) (Expr.number n)
term i n h = alone {l = 5} (omega arith) (IsExpr.number h refl)

less : (i : ℕ) {p : Place} {a b e : Expr} → At (nth text) i (Token.sign Sign.minus) p → IsExpr (nth text) 5 1 (i + 1) (i + 2) b → IsRest (nth text) 4 1 (i + 2) 11 (minus p a b) e → IsRest (nth text) 4 1 i 11 a e
less i h b r = IsRest.again {l = 4} (λ (e : ◌≡◌ {A = ℕ} 4 3). omega arith) h minus_row b r

to_the_left : Program text (Item.function 3 (bytes "main") [] Option.none (Block.then (Stmt.emit 12 (minus 23 (minus 19 (Expr.number 7) (Expr.number 2)) (Expr.number 1))) Block.end) ∷ [])
unfolding text nth
to_the_left =
    let sum : IsExpr (nth text) 4 1 6 11 (minus 23 (minus 19 (Expr.number 7) (Expr.number 2)) (Expr.number 1)) = IsExpr.chain {l = 4} (omega arith) (term 6 7 refl) (less 7 refl (term 8 2 refl) (less 9 refl (term 10 1 refl) IsRest.done)) in
    let expr : IsExpr (nth text) 1 1 6 11 (minus 23 (minus 19 (Expr.number 7) (Expr.number 2)) (Expr.number 1)) = alone {l = 1} (omega arith) (alone {l = 2} (omega arith) (alone {l = 3} (omega arith) sum)) in
    IsItems.then
    (IsItem.function refl refl refl IsParams.none refl IsResult.none (IsBlock.block {d = 0} refl (omega arith) (IsStmts.then (IsStmt.emit refl expr refl refl) IsStmts.end) refl refl))
    IsItems.end
