-- The locals of every function that is called find room: a call has as many arguments as the function has parameters, and these and its lets are few.
use mathlib.Core.Path.{◌≡◌, refl, ap}
use mathlib.Core.List.{List}
use Prim.Native.Nat.{ℕ, suc, ◌+◌, ◌-◌, ◌≤◌, ◌<◌}
use native.Mathlib.Omega.{arith}
use lib.ListN.{length, get_or}
use Rattle.language.specs.Tree as T
use Rattle.language.specs.Core.{Expr, Args, Stmt, Block, Function}
use Rattle.language.specs.Core as C
use Rattle.language.specs.Rules.{most_locals}
use Rattle.flat.specs.Fits.{arguments, locals, locals_all, most, most_all, function_at, lets_of, block_locals}
use Rattle.codegen.specs.Owed.{count, nothing, Callable, Fits, FitsAll, Tests, Runs, RunsAll}

arguments_count : (xs : Args) → arguments xs ≡ count xs
unfolding arguments
arguments_count C.none = refl
arguments_count (C.more e xs) = ap suc (arguments_count xs)

module _ (functions : List Function) (elements n : ℕ) (few : (f : ℕ) → f < length functions → (get_or functions f nothing).parameters + (get_or functions f nothing).lets ≤ most_locals) where
  called_few : (f : ℕ) (xs : Args) → Callable functions elements f xs → arguments xs + lets_of functions f ≤ most_locals
  unfolding function_at
  called_few f xs c = let h = few f c.known in omega (arith, arguments_count xs, c.arity, h)

  mutual
    unfolding Fits locals

    expr_few : (e : Expr) (m : ℕ) → Fits functions elements n e m → locals (lets_of functions) e ≤ most_locals
    expr_few (C.number k) m h = omega arith
    expr_few (C.local x) m h = omega arith
    expr_few (C.element a i) m h = expr_few i m h.2
    expr_few (C.call f xs) m h = omega (arith, called_few f xs h.1, args_few xs m h.2)
    expr_few (C.unary o e) m h = expr_few e m h.1
    expr_few (C.strict o a b) m h = omega (arith, expr_few a m h.1, expr_few b (m - 1) h.2)
    expr_few (C.and a b) m h = omega (arith, test_few a (m - 1) h.1, expr_few b m h.2)
    expr_few (C.or a b) m h = omega (arith, test_few a (m - 1) h.1, expr_few b m h.2)

    test_few : (e : Expr) (m : ℕ) → Tests functions elements n e m → locals (lets_of functions) e ≤ most_locals
    test_few (C.number k) m h = omega arith
    test_few (C.local x) m h = omega arith
    test_few (C.element a i) m h = expr_few i m h.2
    test_few (C.call f xs) m h = omega (arith, called_few f xs h.1, args_few xs m h.2)
    test_few (C.unary T.not e) m h = test_few e m h
    test_few (C.unary T.negate e) m h = expr_few e m h.1
    test_few (C.strict o a b) m h = omega (arith, expr_few a m h.1, expr_few b (m - 1) h.2)
    test_few (C.and a b) m h = omega (arith, test_few a m h.0, test_few b m h.1)
    test_few (C.or a b) m h = omega (arith, test_few a m h.0, test_few b m h.1)

    args_few : (xs : Args) (m : ℕ) → FitsAll functions elements n xs m → locals_all (lets_of functions) xs ≤ most_locals
    args_few C.none m h = omega arith
    args_few (C.more e xs) m h = omega (arith, expr_few e m h.0, args_few xs (m - 1) h.1)

  abbrev stmt_locals : Stmt → ℕ
  stmt_locals s = most (locals (lets_of functions)) (λ f xs. locals (lets_of functions) (C.call f xs)) s

  abbrev all_locals : Block → ℕ
  all_locals b = most_all (locals (lets_of functions)) (λ f xs. locals (lets_of functions) (C.call f xs)) b

  mutual
    unfolding Runs most locals

    stmt_few : (s : Stmt) → Runs functions elements n s → stmt_locals s ≤ most_locals
    stmt_few (C.put x e) h = expr_few e _ h.1
    stmt_few (C.store a i e) h = omega (arith, expr_few i _ h.1, expr_few e _ h.2)
    stmt_few (C.choose e a b) h = omega (arith, test_few e _ h.0, stmts_few a h.1, stmts_few b h.2)
    stmt_few (C.while e b) h = omega (arith, test_few e _ h.0, stmts_few b h.1)
    stmt_few C.leave h = omega arith
    stmt_few (C.give e) h = expr_few e _ h
    stmt_few (C.emit e) h = expr_few e _ h
    stmt_few (C.run f xs) h = omega (arith, called_few f xs h.0, args_few xs _ h.1)

    stmts_few : (b : Block) → RunsAll functions elements n b → all_locals b ≤ most_locals
    stmts_few C.end h = omega arith
    stmts_few (C.then s b) h = omega (arith, stmt_few s h.0, stmts_few b h.1)

  pub block_few : (b : Block) → RunsAll functions elements n b → block_locals (lets_of functions) b ≤ most_locals
  unfolding block_locals
  block_few b h = stmts_few b h
