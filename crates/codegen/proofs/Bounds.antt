-- The image is not much longer than the text: each token that a program takes at least pays for seven instructions.
use mathlib.Core.List.{List, [], ◌∷◌}
use Prim.Native.Nat.{ℕ, ◌+◌, ◌≤◌}
use native.Mathlib.Omega.{arith}
use Rattle.language.specs.Core.{Expr, Args, Stmt, Block, Function}
use Rattle.language.specs.Core as C
use Rattle.codegen.specs.Owed.{nodes, nodes_of, size, size_of}

-- The weight of a part: so many tokens of a text it takes at least. An element and a call have two tokens around what is inside them.

unfoldable mutual
  pub weight : Expr → ℕ
  weight (C.number n) = 1
  weight (C.local x) = 1
  weight (C.element a i) = 3 + weight i
  weight (C.call f xs) = 3 + weights xs
  weight (C.unary o e) = 1 + weight e
  weight (C.strict o a b) = 1 + (weight a + weight b)
  weight (C.and a b) = 1 + (weight a + weight b)
  weight (C.or a b) = 1 + (weight a + weight b)

  pub weights : Args → ℕ
  weights C.none = 0
  weights (C.more e xs) = weight e + weights xs

unfoldable mutual
  pub stmt_weight : Stmt → ℕ
  stmt_weight (C.put x e) = 1 + weight e
  stmt_weight (C.store a i e) = 1 + (weight i + weight e)
  stmt_weight (C.choose e a b) = 1 + (weight e + (block_weight a + block_weight b))
  stmt_weight (C.while e b) = 1 + (weight e + block_weight b)
  stmt_weight C.leave = 1
  stmt_weight (C.give e) = 1 + weight e
  stmt_weight (C.emit e) = 1 + weight e
  stmt_weight (C.run f xs) = 3 + weights xs

  pub block_weight : Block → ℕ
  block_weight C.end = 0
  block_weight (C.then s b) = stmt_weight s + block_weight b

-- a function has one token besides, and each let one that isn't its statement's
abbrev pub function_weight : Function → ℕ
function_weight g = 1 + (g.lets + block_weight g.body)

unfoldable pub program_weight : List Function → ℕ
program_weight [] = 0
program_weight (g ∷ gs) = function_weight g + program_weight gs

-- no part has more nodes than tokens

mutual
  unfolding nodes weight

  pub nodes_light : (e : Expr) → nodes e ≤ weight e
  nodes_light (C.number n) = omega arith
  nodes_light (C.local x) = omega arith
  nodes_light (C.element a i) = omega (arith, nodes_light i)
  nodes_light (C.call f xs) = omega (arith, all_light xs)
  nodes_light (C.unary o e) = omega (arith, nodes_light e)
  nodes_light (C.strict o a b) = omega (arith, nodes_light a, nodes_light b)
  nodes_light (C.and a b) = omega (arith, nodes_light a, nodes_light b)
  nodes_light (C.or a b) = omega (arith, nodes_light a, nodes_light b)

  all_light : (xs : Args) → nodes_of xs ≤ weights xs
  all_light C.none = omega arith
  all_light (C.more e xs) = omega (arith, nodes_light e, all_light xs)

mutual
  unfolding size stmt_weight

  stmt_light : (s : Stmt) → size s ≤ stmt_weight s
  stmt_light (C.put x e) = omega (arith, nodes_light e)
  stmt_light (C.store a i e) = omega (arith, nodes_light i, nodes_light e)
  stmt_light (C.choose e a b) = omega (arith, nodes_light e, block_light a, block_light b)
  stmt_light (C.while e b) = omega (arith, nodes_light e, block_light b)
  stmt_light C.leave = omega arith
  stmt_light (C.give e) = omega (arith, nodes_light e)
  stmt_light (C.emit e) = omega (arith, nodes_light e)
  stmt_light (C.run f xs) = omega (arith, all_light xs)

  pub block_light : (b : Block) → size_of b ≤ block_weight b
  block_light C.end = omega arith
  block_light (C.then s b) = omega (arith, stmt_light s, block_light b)

abbrev pub instructions_each : ℕ
instructions_each = 7
