-- What the theorem asks of a core program, and elaboration gives: ONE record, Owed.
use Rattle.std.specs.Prelude.{ℕ, suc, ◌+◌, ◌-◌, ◌^◌, ◌≤◌, ◌<◌, List, ◌≡◌, length, get_or}
use Rattle.language.specs.Tree as T
use Rattle.language.specs.Core.{Array, Expr, Args, Stmt, Block, Function, Program}
use Rattle.language.specs.Core as C
use Rattle.language.specs.Rules.{most_elements_in_all, most_parameters}
use Rattle.codegen.specs.Places.{most_locals, most_temporaries}

-- The nodes of expressions and the statements, each of which costs 1 of fuel when it begins.

unfoldable mutual
  pub nodes : Expr → ℕ
  nodes (C.number n) = 1
  nodes (C.local x) = 1
  nodes (C.element a i) = suc (nodes i)
  nodes (C.call f xs) = suc (nodes_of xs)
  nodes (C.unary o e) = suc (nodes e)
  nodes (C.strict o a b) = suc (nodes a + nodes b)
  nodes (C.and a b) = suc (nodes a + nodes b)
  nodes (C.or a b) = suc (nodes a + nodes b)

  pub nodes_of : Args → ℕ
  nodes_of C.none = 0
  nodes_of (C.more e xs) = nodes e + nodes_of xs

unfoldable mutual
  pub size : Stmt → ℕ
  size (C.put x e) = suc (nodes e)
  size (C.store a i e) = suc (nodes i + nodes e)
  size (C.choose e a b) = suc (nodes e + (size_of a + size_of b))
  size (C.while e b) = suc (nodes e + size_of b)
  size C.leave = 1
  size (C.give e) = suc (nodes e)
  size (C.emit e) = suc (nodes e)
  size (C.run f xs) = suc (nodes_of xs)

  pub size_of : Block → ℕ
  size_of C.end = 0
  size_of (C.then s b) = size s + size_of b

-- "A program is one text of at most 65,536 bytes" (document 01): it has no more nodes than bytes.
abbrev pub most_nodes : ℕ
most_nodes = 65536

abbrev pub count : Args → ℕ
count C.none = 0
count (C.more e xs) = suc (count xs)

abbrev pub nothing : Function
nothing = record { parameters = 0; lets = 0; body = C.end }

module _ (functions : List Function) (elements : ℕ) where
  abbrev pub Inside : Array → Type 0
  Inside a = a.offset + a.size ≤ elements

  pub record Callable (f : ℕ) (xs : Args) : Type 0 where
    pub known : f < length functions
    pub arity : count xs ≡ (get_or functions f nothing).parameters

  -- n locals, and m temporaries are enough
  unfoldable mutual
    pub Fits : ℕ → Expr → ℕ → Type 0
    Fits n (C.number k) m = k < 2 ^ 32
    Fits n (C.local x) m = x < n
    Fits n (C.element a i) m = (0 < m) × Inside a × Fits n i m
    Fits n (C.call f xs) m = (0 < m) × Callable f xs × FitsAll n xs m
    Fits n (C.unary o e) m = (0 < m) × Fits n e m
    Fits n (C.strict o a b) m = (0 < m) × Fits n a m × Fits n b (m - 1)
    Fits n (C.and a b) m = (0 < m) × Tests n a (m - 1) × Fits n b m
    Fits n (C.or a b) m = (0 < m) × Tests n a (m - 1) × Fits n b m

    pub FitsAll : ℕ → Args → ℕ → Type 0
    FitsAll n C.none m = Unit {0}
    FitsAll n (C.more e xs) m = Fits n e m × FitsAll n xs (m - 1)

    -- the same of a condition: `!`, `&&` and `||` take no temporary of their own there, so that a chain of them takes no more than its longest part
    pub Tests : ℕ → Expr → ℕ → Type 0
    Tests n (C.number k) m = k < 2 ^ 32
    Tests n (C.local x) m = x < n
    Tests n (C.element a i) m = (0 < m) × Inside a × Fits n i m
    Tests n (C.call f xs) m = (0 < m) × Callable f xs × FitsAll n xs m
    Tests n (C.unary T.not e) m = Tests n e m
    Tests n (C.unary T.negate e) m = (0 < m) × Fits n e m
    Tests n (C.strict o a b) m = (0 < m) × Fits n a m × Fits n b (m - 1)
    Tests n (C.and a b) m = Tests n a m × Tests n b m
    Tests n (C.or a b) m = Tests n a m × Tests n b m

  unfoldable mutual
    pub Runs : ℕ → Stmt → Type 0
    Runs n (C.put x e) = (x < n) × Fits n e most_temporaries
    Runs n (C.store a i e) = Inside a × Fits n i most_temporaries × Fits n e (most_temporaries - 1)
    Runs n (C.choose e a b) = Tests n e most_temporaries × RunsAll n a × RunsAll n b
    Runs n (C.while e b) = Tests n e most_temporaries × RunsAll n b
    Runs n C.leave = Unit {0}
    Runs n (C.give e) = Fits n e most_temporaries
    Runs n (C.emit e) = Fits n e most_temporaries
    Runs n (C.run f xs) = Callable f xs × FitsAll n xs most_temporaries

    pub RunsAll : ℕ → Block → Type 0
    RunsAll n C.end = Unit {0}
    RunsAll n (C.then s b) = Runs n s × RunsAll n b

  pub record Proper (g : Function) : Type 0 where
    pub few : g.parameters ≤ most_parameters
    pub locals : g.parameters + g.lets ≤ most_locals
    pub body : RunsAll (g.parameters + g.lets) g.body
    pub short : size_of g.body ≤ most_nodes

pub record Owed (p : Program) : Type 0 where
  pub each : (f : ℕ) → f < length p.functions → Proper p.functions p.elements (get_or p.functions f nothing)
  pub main_known : p.main < length p.functions
  pub main_alone : (get_or p.functions p.main nothing).parameters ≡ 0
  pub few_elements : p.elements ≤ most_elements_in_all
