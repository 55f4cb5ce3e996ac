-- Document 01 §3: the tree of a program. Parentheses leave no trace in it.
-- A node that can break a rule carries the place of one token, where that is reported: a sign's for an operator, a name's for what is named,
-- the first word's for a statement that begins with `if`, `while`, `return` or `emit`.
use Rattle.std.specs.Prelude.{Bool, List, ℕ}
use Rattle.std.proofs.Math.Option.{Option}

-- a token's first byte, counted from the text's start
abbrev pub Place : Type 0
Place = ℕ

-- a name is its bytes
abbrev pub Name : Type 0
Name = List ℕ

-- type = "int" | "bool"
pub data Ty : Type 0 where
  int : Ty
  bool : Ty

-- ( "-" | "!" )
pub data Unary : Type 0 where
  negate : Unary
  not : Unary

-- the operators that evaluate both sides
pub data Strict : Type 0 where
  eq ne lt le gt ge : Strict
  add sub : Strict
  mul div rem : Strict

-- all operators with two sides
pub data Binary : Type 0 where
  or : Binary
  and : Binary
  strict : Strict → Binary

mutual
  pub data Expr : Type 0 where
    number : ℕ → Expr
    truth : Bool → Expr
    name : Place → Name → Expr
    element : Place → Name → Expr → Expr
    call : Place → Name → Args → Expr
    unary : Place → Unary → Expr → Expr
    binary : Place → Binary → Expr → Expr → Expr

  -- [ expr { "," expr } ]
  pub data Args : Type 0 where
    none : Args
    more : Expr → Args → Args

mutual
  pub data Stmt : Type 0 where
    -- "let" name ":" type "=" expr ";"
    declare : Place → Name → Ty → Expr → Stmt
    -- name "=" expr ";"
    assign : Place → Name → Expr → Stmt
    -- name "[" expr "]" "=" expr ";"
    store : Place → Name → Expr → Expr → Stmt
    -- "if" expr block [ "else" block ]
    when : Place → Expr → Block → Stmt
    choose : Place → Expr → Block → Block → Stmt
    -- "while" expr block
    while : Place → Expr → Block → Stmt
    -- "return" [ expr ] ";"
    leave : Place → Stmt
    give : Place → Expr → Stmt
    -- "emit" expr ";"
    emit : Place → Expr → Stmt
    -- name "(" [ expr { "," expr } ] ")" ";"
    run : Place → Name → Args → Stmt

  -- block = "{" { statement } "}"
  pub data Block : Type 0 where
    end : Block
    then : Stmt → Block → Block

-- param = name ":" type
pub record Param : Type 0 where
  pub place : Place
  pub name : Name
  pub type : Ty

-- program = { array | function }
pub data Item : Type 0 where
  -- "var" name ":" "int" "[" number "]" ";"
  array : Place → Name → ℕ → Item
  -- "fn" name "(" [ param { "," param } ] ")" [ ":" type ] block
  function : Place → Name → List Param → Option Ty → Block → Item
