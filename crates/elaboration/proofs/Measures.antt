-- What tokens i to j with d things open around them give as an expression of the core of level l: it has room for its operands and its temporaries, and
-- no more weight than tokens. One law for each kind of expression.
-- Between one open thing and the next, temporaries wait for seven arguments before the current one and for one operator of each of the five levels;
-- operands don't wait for `||` and `&&`.
use mathlib.Core.Path.{◌≡◌}
use Prim.Native.Nat.{ℕ, ◌+◌, ◌-◌, ◌*◌, ◌≤◌, ◌<◌}
use mathlib.Core.List.{List}
use native.Mathlib.Omega.{arith}
use Rattle.language.specs.Tree.{Unary, Strict, negate, not}
use Rattle.language.specs.Tokens.{largest_number}
use Rattle.language.specs.Grammar.{most_open, expr_level, comp_level, unary_level}
use Rattle.language.specs.Core.{Array, Expr, Args, Function}
use Rattle.language.specs.Core as C
use Rattle.language.specs.Rules.{most_parameters}
use Rattle.flat.specs.Fits.{larger, operands, operands_all}
use Rattle.codegen.specs.Owed.{count, Inside, Callable, Fits, FitsAll, Tests}
use Rattle.codegen.proofs.Bounds.{weight, weights}

-- the levels whose operators keep an operand begin with comp
abbrev pub waiting : ℕ → ℕ
waiting l = larger l comp_level

-- temporaries and operands that may wait from one open thing to the next
abbrev pub temporaries_each : ℕ
temporaries_each = 12

abbrev pub operands_each : ℕ
operands_each = 10

abbrev pub enough_temporaries : ℕ
enough_temporaries = temporaries_each * most_open + unary_level

abbrev pub enough_operands : ℕ
enough_operands = operands_each * most_open + unary_level + 1

module _ (functions : List Function) (elements n : ℕ) where
  pub record Good (l d i j : ℕ) (e : Expr) : Type 0 where
    pub fits : (m : ℕ) → enough_temporaries ≤ m + (temporaries_each * d + l) → Fits functions elements n e m
    pub tests : (m : ℕ) → enough_temporaries ≤ m + (temporaries_each * d + waiting l) → Tests functions elements n e m
    pub room : operands e + (operands_each * d + waiting l) ≤ enough_operands
    pub size : i + weight e ≤ j

  pub record GoodArgs (d i j : ℕ) (xs : Args) : Type 0 where
    pub fits : (m : ℕ) → enough_temporaries + count xs ≤ m + (temporaries_each * d + expr_level + 1) → FitsAll functions elements n xs m
    pub room : operands_all xs + (operands_each * d + waiting expr_level + 1) ≤ enough_operands + count xs
    pub size : i + weights xs ≤ j

  -- what stands alone on a level is of the level above; parentheses
  pub alone : {l d i j : ℕ} {e : Expr} → Good (l + 1) d i j e → Good l d i j e
  alone {l} {d} g = record {
    fits = λ m h. g.fits m (omega (arith, h));
    tests = λ m h. g.tests m (omega (arith, h));
    room = omega (arith, g.room);
    size = g.size;
  }

  pub in_parens : {d i j k : ℕ} {e : Expr} → k ≡ j + 1 → Good expr_level (d + 1) (i + 1) j e → Good unary_level d i k e
  in_parens e g = record {
    fits = λ m h. g.fits m (omega (arith, h));
    tests = λ m h. g.tests m (omega (arith, h));
    room = omega (arith, g.room);
    size = omega (arith, g.size, e);
  }

  pub good_number : {d i j v : ℕ} → d ≤ most_open → v ≤ largest_number → j ≡ i + 1 → Good unary_level d i j (C.number v)
  unfolding Fits Tests operands weight
  good_number o l e = record { fits = λ m h. omega (arith, l); tests = λ m h. omega (arith, l); room = omega (arith, o); size = omega (arith, e) }

  pub good_local : {d i j x : ℕ} → d ≤ most_open → x < n → j ≡ i + 1 → Good unary_level d i j (C.local x)
  unfolding Fits Tests operands weight
  good_local o l e = record { fits = λ m h. l; tests = λ m h. l; room = omega (arith, o); size = omega (arith, e) }

  pub good_element : {d i j k : ℕ} {a : Array} {e : Expr} → d < most_open → Inside functions elements a → Good expr_level (d + 1) (i + 2) j e → k ≡ j + 1 → Good unary_level d i k (C.element a e)
  unfolding Fits Tests operands weight
  good_element o l g e = record {
    fits = λ m h. (omega (arith, h, o), l, g.fits m (omega (arith, h)));
    tests = λ m h. (omega (arith, h, o), l, g.fits m (omega (arith, h)));
    room = omega (arith, g.room);
    size = omega (arith, g.size, e);
  }

  pub good_call : {d i j k f : ℕ} {xs : Args} → d < most_open → Callable functions elements f xs → count xs ≤ most_parameters → GoodArgs (d + 1) (i + 2) j xs → k ≡ j + 1 →
      Good unary_level d i k (C.call f xs)
  unfolding Fits Tests operands weight
  good_call o c l g e = record {
    fits = λ m h. (omega (arith, h, o), c, g.fits m (omega (arith, h, l)));
    tests = λ m h. (omega (arith, h, o), c, g.fits m (omega (arith, h, l)));
    room = omega (arith, g.room, o, l);
    size = omega (arith, g.size, e);
  }

  pub no_args : {d i : ℕ} → d ≤ most_open → GoodArgs d i i C.none
  unfolding FitsAll operands_all weights
  no_args o = record { fits = λ m h. tt; room = omega (arith, o); size = omega arith }

  pub more_args : {d i j j' k : ℕ} {e : Expr} {xs : Args} → d ≤ most_open → Good expr_level d i j e → GoodArgs d j' k xs → j ≤ j' → GoodArgs d i k (C.more e xs)
  unfolding FitsAll operands_all weights
  more_args o g r l = record {
    fits = λ m h. (g.fits m (omega (arith, h)), r.fits (m - 1) (omega (arith, h, o)));
    room = omega (arith, g.room, r.room);
    size = omega (arith, g.size, r.size, l);
  }

  pub good_unary : {d i j : ℕ} {e : Expr} → d < most_open → (o : Unary) → Good unary_level (d + 1) (i + 1) j e → Good unary_level d i j (C.unary o e)
  unfolding Fits Tests operands weight
  good_unary l negate g = record {
    fits = λ m h. (omega (arith, h, l), g.fits m (omega (arith, h)));
    tests = λ m h. (omega (arith, h, l), g.fits m (omega (arith, h)));
    room = omega (arith, g.room);
    size = omega (arith, g.size);
  }
  good_unary l not g = record {
    fits = λ m h. (omega (arith, h, l), g.fits m (omega (arith, h)));
    tests = λ m h. g.tests m (omega (arith, h));
    room = omega (arith, g.room);
    size = omega (arith, g.size);
  }

  -- an operator of level l, whose left side is of its level and whose right side is of the next
  pub good_strict : {l d i j k : ℕ} {a b : Expr} → d ≤ most_open → comp_level ≤ l → l < unary_level → (o : Strict) → Good l d i j a → Good (l + 1) d (j + 1) k b → Good l d i k (C.strict o a b)
  unfolding Fits Tests operands weight
  good_strict t u v o f g = record {
    fits = λ m h. (omega (arith, h, t, v), f.fits m h, g.fits (m - 1) (omega (arith, h, t, v)));
    tests = λ m h. (omega (arith, h, t, u, v), f.fits m (omega (arith, h, u)), g.fits (m - 1) (omega (arith, h, t, u, v)));
    room = omega (arith, f.room, g.room, u);
    size = omega (arith, f.size, g.size);
  }

  -- `||` and `&&`, whose left side is a condition
  pub good_or : {l d i j k : ℕ} {a b : Expr} → d ≤ most_open → l < comp_level → Good l d i j a → Good (l + 1) d (j + 1) k b → Good l d i k (C.or a b)
  unfolding Fits Tests operands weight
  good_or t u f g = record {
    fits = λ m h. (omega (arith, h, t, u), f.tests (m - 1) (omega (arith, h, t, u)), g.fits m (omega (arith, h)));
    tests = λ m h. (f.tests m h, g.tests m (omega (arith, h)));
    room = omega (arith, f.room, g.room);
    size = omega (arith, f.size, g.size);
  }

  pub good_and : {l d i j k : ℕ} {a b : Expr} → d ≤ most_open → l < comp_level → Good l d i j a → Good (l + 1) d (j + 1) k b → Good l d i k (C.and a b)
  unfolding Fits Tests operands weight
  good_and t u f g = record {
    fits = λ m h. (omega (arith, h, t, u), f.tests (m - 1) (omega (arith, h, t, u)), g.fits m (omega (arith, h)));
    tests = λ m h. (f.tests m h, g.tests m (omega (arith, h)));
    room = omega (arith, f.room, g.room);
    size = omega (arith, f.size, g.size);
  }
