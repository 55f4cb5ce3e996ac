-- What a core program owes its flat form: a run of the words is a run of the program if blocks don't nest too deep, operands find room, and so do
-- the locals of each function that is called. Document 01 §3 and §4 see to it.
use Rattle.std.specs.Prelude.{List, ℕ, suc, ◌+◌, ◌-◌, ◌≤◌, get_or}
use Rattle.language.specs.Core.{Expr, Args, Stmt, Block, Function, Program}
use Rattle.language.specs.Core as C
use Rattle.language.specs.Rules.{most_locals}
use Rattle.flat.specs.Items.{most_operands}
use Rattle.flat.specs.Words.{most_nesting}

-- the larger of two
abbrev pub larger : ℕ → ℕ → ℕ
larger a b = a + (b - a)

-- how many operands there are at once
unfoldable mutual
  pub operands : Expr → ℕ
  operands (C.number n) = 1
  operands (C.local x) = 1
  operands (C.element a i) = operands i
  operands (C.call f xs) = larger 1 (operands_all xs)
  operands (C.unary o a) = operands a
  operands (C.strict o a b) = larger (operands a) (1 + operands b)
  operands (C.and a b) = larger (operands a) (operands b)
  operands (C.or a b) = larger (operands a) (operands b)

  pub operands_all : Args → ℕ
  operands_all C.none = 0
  operands_all (C.more e xs) = larger (operands e) (1 + operands_all xs)

-- how many arguments there are
unfoldable pub arguments : Args → ℕ
arguments C.none = 0
arguments (C.more e xs) = suc (arguments xs)

-- how many locals a function has that is called, at most, where function f has `lets f` besides its arguments
module _ (lets : ℕ → ℕ) where
  unfoldable mutual
    pub locals : Expr → ℕ
    locals (C.number n) = 0
    locals (C.local x) = 0
    locals (C.element a i) = locals i
    locals (C.call f xs) = larger (arguments xs + lets f) (locals_all xs)
    locals (C.unary o a) = locals a
    locals (C.strict o a b) = larger (locals a) (locals b)
    locals (C.and a b) = larger (locals a) (locals b)
    locals (C.or a b) = larger (locals a) (locals b)

    pub locals_all : Args → ℕ
    locals_all C.none = 0
    locals_all (C.more e xs) = larger (locals e) (locals_all xs)

-- the same of statements and blocks, over what is so of expressions and of calls
module _ (of : Expr → ℕ) (called : ℕ → Args → ℕ) where
  unfoldable mutual
    pub most : Stmt → ℕ
    most (C.put x e) = of e
    most (C.store a i e) = larger (of i) (of e)
    most (C.choose e a b) = larger (of e) (larger (most_all a) (most_all b))
    most (C.while e b) = larger (of e) (most_all b)
    most C.leave = 0
    most (C.give e) = of e
    most (C.emit e) = of e
    most (C.run f xs) = called f xs

    pub most_all : Block → ℕ
    most_all C.end = 0
    most_all (C.then s b) = larger (most s) (most_all b)

-- how deep blocks nest
unfoldable mutual
  pub nests : Stmt → ℕ
  nests (C.put x e) = 0
  nests (C.store a i e) = 0
  nests (C.choose e a b) = larger (nests_all a) (nests_all b)
  nests (C.while e b) = nests_all b
  nests C.leave = 0
  nests (C.give e) = 0
  nests (C.emit e) = 0
  nests (C.run f xs) = 0

  pub nests_all : Block → ℕ
  nests_all C.end = 0
  nests_all (C.then s b) = larger (suc (nests s)) (nests_all b)

unfoldable pub function_at : List Function → ℕ → Function
function_at fs f = get_or fs f (record { parameters = 0; lets = 0; body = C.end })

abbrev pub lets_of : List Function → ℕ → ℕ
lets_of fs f = (function_at fs f).lets

abbrev pub body_of : List Function → ℕ → Block
body_of fs f = (function_at fs f).body

unfoldable pub block_operands : Block → ℕ
block_operands b = most_all operands (λ f xs. operands (C.call f xs)) b

unfoldable pub block_locals : (ℕ → ℕ) → Block → ℕ
block_locals lets b = most_all (locals lets) (λ f xs. locals lets (C.call f xs)) b

pub record Fits (p : Program) : Type 0 where
  pub nesting : (f : ℕ) → nests_all (body_of p.functions f) ≤ most_nesting
  pub operands : (f : ℕ) → block_operands (body_of p.functions f) ≤ most_operands
  pub locals : (f : ℕ) → block_locals (lets_of p.functions) (body_of p.functions f) ≤ most_locals
  pub main : lets_of p.functions p.main ≤ most_locals
