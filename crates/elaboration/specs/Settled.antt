-- Nothing is read that was not given: a local is written before it is read, on every path; a call whose value is read is of a function that gives
-- one on every path; and the arguments of a call are as many as the parameters.
use Rattle.std.specs.Prelude.{ℕ, zero, suc, Bool, true, false, List, [], ◌∷◌, ◌≡◌, get_or}
use Rattle.word.specs.Choice.{both}
use Rattle.language.specs.Tokens.{In}
use Rattle.language.specs.Core.{Expr, Args, Stmt, Block, Function, Program}
use Rattle.language.specs.Core as C
use Rattle.codegen.specs.Owed.{count, nothing}

-- A body that gives a value on every path: it has no `return;`, and it ends in return (document 01 §4).
unfoldable mutual
  pub no_leave : Stmt → Bool
  no_leave (C.put x e) = true
  no_leave (C.store a i e) = true
  no_leave (C.choose e a b) = both (no_leave_in a) (no_leave_in b)
  no_leave (C.while e b) = no_leave_in b
  no_leave C.leave = false
  no_leave (C.give e) = true
  no_leave (C.emit e) = true
  no_leave (C.run f xs) = true

  pub no_leave_in : Block → Bool
  no_leave_in C.end = true
  no_leave_in (C.then s b) = both (no_leave s) (no_leave_in b)

unfoldable mutual
  pub returns : Stmt → Bool
  returns (C.put x e) = false
  returns (C.store a i e) = false
  returns (C.choose e a b) = both (ends_in_return a) (ends_in_return b)
  returns (C.while e b) = false
  returns C.leave = true
  returns (C.give e) = true
  returns (C.emit e) = false
  returns (C.run f xs) = false

  pub ends_in_return : Block → Bool
  ends_in_return C.end = false
  ends_in_return (C.then s C.end) = returns s
  ends_in_return (C.then s (C.then t b)) = ends_in_return (C.then t b)

pub record Gives (body : Block) : Type 0 where
  pub valued : no_leave_in body ≡ true
  pub ends : ends_in_return body ≡ true

-- the slots of a function's first locals, which are its parameters
abbrev pub below : ℕ → List ℕ
below zero = []
below (suc n) = n ∷ below n

module _ (functions : List Function) where
  abbrev pub function_at : ℕ → Function
  function_at f = get_or functions f nothing

  -- Where these slots are written, an expression reads no other, and no value that is not given.
  unfoldable mutual
    pub Reads : List ℕ → Expr → Type 0
    Reads written (C.number n) = Unit {0}
    Reads written (C.local x) = In x written
    Reads written (C.element a i) = Reads written i
    Reads written (C.call f xs) = Gives (function_at f).body × (count xs ≡ (function_at f).parameters) × ReadsAll written xs
    Reads written (C.unary o e) = Reads written e
    Reads written (C.strict o a b) = Reads written a × Reads written b
    Reads written (C.and a b) = Reads written a × Reads written b
    Reads written (C.or a b) = Reads written a × Reads written b

    pub ReadsAll : List ℕ → Args → Type 0
    ReadsAll written C.none = Unit {0}
    ReadsAll written (C.more e xs) = Reads written e × ReadsAll written xs

  -- What is written after a statement: the local that it puts. What a block within it puts may not have been: no path need go through it.
  unfoldable pub after : List ℕ → Stmt → List ℕ
  after written (C.put x e) = x ∷ written
  after written (C.store a i e) = written
  after written (C.choose e a b) = written
  after written (C.while e b) = written
  after written C.leave = written
  after written (C.give e) = written
  after written (C.emit e) = written
  after written (C.run f xs) = written

  unfoldable mutual
    pub SettledStmt : List ℕ → Stmt → Type 0
    SettledStmt written (C.put x e) = Reads written e
    SettledStmt written (C.store a i e) = Reads written i × Reads written e
    SettledStmt written (C.choose e a b) = Reads written e × SettledBlock written a × SettledBlock written b
    SettledStmt written (C.while e b) = Reads written e × SettledBlock written b
    SettledStmt written C.leave = Unit {0}
    SettledStmt written (C.give e) = Reads written e
    SettledStmt written (C.emit e) = Reads written e
    SettledStmt written (C.run f xs) = (count xs ≡ (function_at f).parameters) × ReadsAll written xs

    pub SettledBlock : List ℕ → Block → Type 0
    SettledBlock written C.end = Unit {0}
    SettledBlock written (C.then s b) = SettledStmt written s × SettledBlock (after written s) b

-- Of a program: every function's body where its parameters are written, and `main`, which is called with none.
pub record Settled (p : Program) : Type 0 where
  pub each : (f : ℕ) → SettledBlock p.functions (below (function_at p.functions f).parameters) (function_at p.functions f).body
  pub main : (function_at p.functions p.main).parameters ≡ 0
