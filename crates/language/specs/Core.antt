-- The core program, to which document 01 §4 brings a program that keeps its rules: names are gone.
-- A local or parameter is a slot: its number among the parameters and lets of its function, from 0 on.
-- An array is where its elements begin among those of all arrays, and how many there are. A function is its number in order of declaration.
-- A bool is the word 0, false, or 1, true.
use Rattle.std.specs.Prelude.{List, ℕ}
use Rattle.language.specs.Tree.{Unary, Strict}

pub record Array : Type 0 where
  pub offset : ℕ
  pub size : ℕ

mutual
  pub data Expr : Type 0 where
    number : ℕ → Expr
    local : ℕ → Expr
    element : Array → Expr → Expr
    call : ℕ → Args → Expr
    unary : Unary → Expr → Expr
    strict : Strict → Expr → Expr → Expr
    and : Expr → Expr → Expr
    or : Expr → Expr → Expr

  pub data Args : Type 0 where
    none : Args
    more : Expr → Args → Args

mutual
  pub data Stmt : Type 0 where
    -- `let` and assignment
    put : ℕ → Expr → Stmt
    store : Array → Expr → Expr → Stmt
    choose : Expr → Block → Block → Stmt
    while : Expr → Block → Stmt
    leave : Stmt
    give : Expr → Stmt
    emit : Expr → Stmt
    run : ℕ → Args → Stmt

  pub data Block : Type 0 where
    end : Block
    then : Stmt → Block → Block

pub record Function : Type 0 where
  pub parameters : ℕ
  pub lets : ℕ
  pub body : Block

pub record Program : Type 0 where
  pub functions : List Function
  pub main : ℕ
  -- the elements of all arrays together
  pub elements : ℕ
