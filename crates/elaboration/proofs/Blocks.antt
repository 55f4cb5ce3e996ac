-- The same of statements and blocks: what tokens i to j with d things open around them give, where a locals are counted before them and b behind them.
-- A local takes a token besides its statement's weight. One law for each kind of statement.
use mathlib.Core.Path.{◌≡◌}
use Prim.Native.Nat.{ℕ, suc, ◌+◌, ◌≤◌, ◌<◌}
use mathlib.Core.List.{List}
use native.Mathlib.Omega.{arith}
use Rattle.language.specs.Grammar.{most_open, expr_level}
use Rattle.language.specs.Core.{Array, Expr, Args, Stmt, Block, Function}
use Rattle.language.specs.Core as C
use Rattle.language.specs.Rules.{most_parameters}
use Rattle.flat.specs.Items.{most_operands}
use Rattle.flat.specs.Fits.{operands, most, most_all, nests, nests_all}
use Rattle.codegen.specs.Owed.{count, Inside, Callable, Runs, RunsAll}
use Rattle.codegen.proofs.Bounds.{stmt_weight, block_weight}
use Rattle.elaboration.proofs.Measures.{Good, GoodArgs}

abbrev pub stmt_operands : Stmt → ℕ
stmt_operands s = most operands (λ f xs. operands (C.call f xs)) s

abbrev pub all_operands : Block → ℕ
all_operands b = most_all operands (λ f xs. operands (C.call f xs)) b

module _ (functions : List Function) (elements n : ℕ) where
  pub record GoodStmt (a b d i j : ℕ) (s : Stmt) : Type 0 where
    pub runs : Runs functions elements n s
    pub room : stmt_operands s ≤ most_operands
    pub nesting : nests s + d ≤ most_open
    pub short : b + (i + stmt_weight s) ≤ a + j

  -- statements of a block, which is one of the d things
  pub record GoodBlock (a b d i j : ℕ) (s : Block) : Type 0 where
    pub runs : RunsAll functions elements n s
    pub room : all_operands s ≤ most_operands
    pub nesting : nests_all s + d ≤ suc most_open
    pub short : b + (i + block_weight s) ≤ a + j

  abbrev Value : ℕ → ℕ → ℕ → Expr → Type 0
  Value d i j e = Good functions elements n expr_level d i j e

  pub good_end : {a d i : ℕ} → d ≤ suc most_open → GoodBlock a a d i i C.end
  unfolding Runs most nests stmt_weight
  good_end o = record { runs = tt; room = omega arith; nesting = omega (arith, o); short = omega arith }

  pub good_then : {a b c d i j k : ℕ} {s : Stmt} {t : Block} → GoodStmt a b d i j s → GoodBlock b c d j k t → GoodBlock a c d i k (C.then s t)
  unfolding Runs most nests stmt_weight
  good_then f g = record { runs = (f.runs, g.runs); room = omega (arith, f.room, g.room); nesting = omega (arith, f.nesting, g.nesting); short = omega (arith, f.short, g.short) }

  pub in_braces : {a b d i j k : ℕ} {s : Block} → k ≡ j + 1 → GoodBlock a b d (i + 1) j s → GoodBlock a b d i k s
  in_braces e g = record { runs = g.runs; room = g.room; nesting = g.nesting; short = omega (arith, g.short, e) }

  -- statements with one expression, which begins behind the first token
  pub good_put : {a b d i i' j k x : ℕ} {e : Expr} → d ≤ most_open → x < n → Value d i' j e → b + i < a + i' → j ≤ k → GoodStmt a b d i k (C.put x e)
  unfolding Runs most nests stmt_weight
  good_put o l g a b = record { runs = (l, g.fits _ (omega arith)); room = omega (arith, g.room); nesting = omega (arith, o); short = omega (arith, g.size, a, b) }

  pub good_give : {a d i i' j k : ℕ} {e : Expr} → d ≤ most_open → Value d i' j e → i < i' → j ≤ k → GoodStmt a a d i k (C.give e)
  unfolding Runs most nests stmt_weight
  good_give o g a b = record { runs = g.fits _ (omega arith); room = omega (arith, g.room); nesting = omega (arith, o); short = omega (arith, g.size, a, b) }

  pub good_emit : {a d i i' j k : ℕ} {e : Expr} → d ≤ most_open → Value d i' j e → i < i' → j ≤ k → GoodStmt a a d i k (C.emit e)
  unfolding Runs most nests stmt_weight
  good_emit o g a b = record { runs = g.fits _ (omega arith); room = omega (arith, g.room); nesting = omega (arith, o); short = omega (arith, g.size, a, b) }

  pub good_store : {a d i j k l : ℕ} {v : Array} {x e : Expr} → d ≤ most_open → Inside functions elements v → Value (d + 1) (i + 2) j x → Value d (j + 2) k e → l ≡ k + 1 →
      GoodStmt a a d i l (C.store v x e)
  unfolding Runs most nests stmt_weight
  good_store o v f g q = record {
    runs = (v, f.fits _ (omega arith), g.fits _ (omega arith));
    room = omega (arith, f.room, g.room);
    nesting = omega (arith, o);
    short = omega (arith, f.size, g.size, q);
  }

  pub good_choose : {a b c d i j k k' l : ℕ} {e : Expr} {s t : Block} → Value d (i + 1) j e → GoodBlock a b (d + 1) j k s → GoodBlock b c (d + 1) k' l t → k ≤ k' →
      GoodStmt a c d i l (C.choose e s t)
  unfolding Runs most nests stmt_weight
  good_choose g a b q = record {
    runs = (g.tests _ (omega arith), a.runs, b.runs);
    room = omega (arith, g.room, a.room, b.room);
    nesting = omega (arith, a.nesting, b.nesting);
    short = omega (arith, g.size, a.short, b.short, q);
  }

  pub good_while : {a b d i j k : ℕ} {e : Expr} {s : Block} → Value d (i + 1) j e → GoodBlock a b (d + 1) j k s → GoodStmt a b d i k (C.while e s)
  unfolding Runs most nests stmt_weight
  good_while g b = record {
    runs = (g.tests _ (omega arith), b.runs);
    room = omega (arith, g.room, b.room);
    nesting = omega (arith, b.nesting);
    short = omega (arith, g.size, b.short);
  }

  pub good_leave : {a d i j : ℕ} → d ≤ most_open → j ≡ i + 2 → GoodStmt a a d i j C.leave
  unfolding Runs most nests stmt_weight
  good_leave o q = record { runs = tt; room = omega arith; nesting = omega (arith, o); short = omega (arith, q) }

  pub good_run : {a d i j k f : ℕ} {xs : Args} → d < most_open → Callable functions elements f xs → count xs ≤ most_parameters → GoodArgs functions elements n (d + 1) (i + 2) j xs → k ≡ j + 2 →
      GoodStmt a a d i k (C.run f xs)
  unfolding Runs most nests stmt_weight operands
  good_run o c l g q = record {
    runs = (c, g.fits _ (omega (arith, l)));
    room = omega (arith, g.room, l);
    nesting = omega (arith, o);
    short = omega (arith, g.size, q);
  }
