-- Document 01 §6 and §7: its vectors, computed. Trees are written out here, most of them with 0 for every place.
use Rattle.std.specs.Prelude.{true, false, List, [], ◌∷◌, ◌≡◌, refl, ℕ, ◌-◌, ◌^◌}
use Rattle.std.proofs.Math.Option.{Option, none, some}
use Prim.Native.String.{String}
use Rattle.word.specs.Word.{add_w, sub_w, mul_w, neg_w, negative, magnitude, lt_s, quot_s, rem_s, bit_of}
use Rattle.language.specs.Tree.{Name, Ty, int, bool, negate, not, eq, ne, lt, le, gt, ge, add, sub, mul, div, rem, or, and, strict, Strict, Param, Item, array, function, Expr, Stmt, Block, number, truth, name, element, call, unary, binary, declare, assign, store, when, choose, while, leave, give, emit, run, end, then}
use Rattle.language.specs.Tree as T
use Rattle.language.specs.Tokens.{bytes, same}
use Rattle.language.specs.Core.{Program}
use Rattle.language.specs.Core as C
use Rattle.language.specs.Rules.{Ruled, keeps, breaks, main_name, elaborate, ◌>>=◌, need, found, global_of, local_of, array_of, function_of, declare as declare_item, declare_all, main_of, want, changed, joined, combined, indexed, fit, called, known, expr, exprs, fresh, leaves, gives, stmt, block as block_of, parameters, is_return, ends_in_return, function_from, functions_from}
use Rattle.language.specs.Meaning.{trapped, out_of_fuel, Outcome, finished, stopped, Run, run_of, bind, begin, apply, operate, read, write, fetch, assign as assign_slot, rounds, append, eval, evals, exec, block, back, call_at}

-- Writing trees

infix 30 ◌⟨◌⟩◌
abbrev pub var : String → Expr
var x = name 0 (bytes x)

abbrev pub ◌⟨◌⟩◌ : Expr → Strict → Expr → Expr
◌⟨◌⟩◌ x o y = binary 0 (strict o) x y

abbrev pub minus : ℕ → Expr
minus n = unary 0 negate (number n)

abbrev pub body : List Stmt → Block
body [] = end
body (s ∷ ss) = then s (body ss)

abbrev pub one : Expr → T.Args
one e = T.more e T.none

abbrev pub two : Expr → Expr → T.Args
two x y = T.more x (T.more y T.none)

abbrev pub param : String → Param
param x = record { place = 0; name = bytes x; type = int }

abbrev pub emits : List Expr → List Stmt
emits [] = []
emits (e ∷ es) = emit 0 e ∷ emits es

abbrev pub main : List Stmt → Item
main ss = function 0 main_name [] none (body ss)

-- Running them: the outcome, the log, the arrays, and how much of 1,000 units of fuel was used, with room for 10 in the log

pub record Ran : Type 0 where
  pub outcome : Outcome
  pub log : List ℕ
  pub arrays : List ℕ
  pub used : ℕ

abbrev pub ran : Run → Ran
ran r = record { outcome = r.outcome; log = r.world.log; arrays = r.world.arrays; used = 1000 - r.world.fuel }

abbrev pub runs : Ruled Program → List ℕ → Option Ran
runs (breaks p) xs = none
runs (keeps p) xs = some (ran (run_of p xs 1000 10))

abbrev pub ends : Outcome → List ℕ → List ℕ → ℕ → Option Ran
ends o l xs u = some (record { outcome = o; log = l; arrays = xs; used = u })

-- Text G: "finishes with log 6, 6, 5; fuel 97"

abbrev G : List Item
G =
    function 0 (bytes "gcd") (param "a" ∷ param "b" ∷ []) (some int)
    (body
    (while 0 (var "b" ⟨ ne ⟩ number 0)
    (body
    (declare 0 (bytes "t") int (var "a" ⟨ rem ⟩ var "b") ∷ assign 0 (bytes "a") (var "b") ∷ assign 0 (bytes "b") (var "t") ∷ []))
    ∷ give 0 (var "a") ∷ []))
    ∷ main
    (emits
    (call 0 (bytes "gcd") (two (number 12) (number 18)) ∷ call 0 (bytes "gcd") (two (minus 12) (number 18))
    ∷ call 0 (bytes "gcd") (two (number 5) (number 0)) ∷ []))
    ∷ []

-- Text Z, with its three inputs

abbrev smoke : Expr
smoke = element 0 (bytes "smoke") (var "z")

abbrev Z : List Item
Z =
    array 0 (bytes "smoke") 4
    ∷ array 0 (bytes "door") 2
    ∷ function 0 (bytes "alarm") (param "z" ∷ []) (some bool)
    (body (give 0 (binary 0 or (smoke ⟨ ge ⟩ number 70) (smoke ⟨ lt ⟩ number 0)) ∷ []))
    ∷ main
    (declare 0 (bytes "n") int (number 0)
    ∷ declare 0 (bytes "z") int (number 0)
    ∷ while 0 (var "z" ⟨ lt ⟩ number 4)
    (body
    (when 0 (call 0 (bytes "alarm") (one (var "z")))
    (body (assign 0 (bytes "n") (var "n" ⟨ add ⟩ number 1) ∷ emit 0 (var "z") ∷ []))
    ∷ assign 0 (bytes "z") (var "z" ⟨ add ⟩ number 1) ∷ []))
    ∷ choose 0 (var "n" ⟨ ge ⟩ number 2)
    (body (store 0 (bytes "door") (number 0) (number 1) ∷ store 0 (bytes "door") (number 1) (number 1) ∷ emit 0 (number 100) ∷ []))
    (body (when 0 (var "n" ⟨ eq ⟩ number 1) (body (store 0 (bytes "door") (number 0) (number 1) ∷ [])) ∷ []))
    ∷ [])
    ∷ []

-- -1, -3 and -2147483648 as words
abbrev -1 : ℕ
-1 = 2 ^ 32 - 1

abbrev -3 : ℕ
-3 = 2 ^ 32 - 3

abbrev least : ℕ
least = 2 ^ 31

-- The table's rows

-- `fn f(x: int): int { emit x; return x; }` and `var a: int[2];`
abbrev echo : Item
echo = function 0 (bytes "f") (param "x" ∷ []) (some int) (body (emit 0 (var "x") ∷ give 0 (var "x") ∷ []))

abbrev f : ℕ → Expr
f n = call 0 (bytes "f") (one (number n))

-- `fn f(n: int): int { if n == 0 { return 0; } else { return 1 + f(n - 1); } }`: 64 activations are no trap, 65 are
abbrev down : Item
down =
    function 0 (bytes "f") (param "n" ∷ []) (some int)
    (body
    (choose 0 (var "n" ⟨ eq ⟩ number 0) (body (give 0 (number 0) ∷ []))
    (body (give 0 (number 1 ⟨ add ⟩ call 0 (bytes "f") (one (var "n" ⟨ sub ⟩ number 1))) ∷ []))
    ∷ []))

-- The vectors

pub record Vectors : Type 0 where
  pub g_runs : runs (elaborate G 0) [] ≡ ends finished (6 ∷ 6 ∷ 5 ∷ []) [] 97
  -- the core program of text G
  pub g_core : elaborate G 0 ≡ keeps (record {
    functions =
        record {
          parameters = 2;
          lets = 1;
          body =
              C.then (C.while (C.strict ne (C.local 1) (C.number 0))
              (C.then (C.put 2 (C.strict rem (C.local 0) (C.local 1)))
              (C.then (C.put 0 (C.local 1)) (C.then (C.put 1 (C.local 2)) C.end))))
              (C.then (C.give (C.local 0)) C.end);
        }
        ∷ record {
          parameters = 0;
          lets = 0;
          body =
              C.then (C.emit (C.call 0 (C.more (C.number 12) (C.more (C.number 18) C.none))))
              (C.then (C.emit (C.call 0 (C.more (C.unary negate (C.number 12)) (C.more (C.number 18) C.none))))
              (C.then (C.emit (C.call 0 (C.more (C.number 5) (C.more (C.number 0) C.none)))) C.end));
        }
        ∷ [];
    main = 1;
    elements = 0;
  })
  pub z_quiet : runs (elaborate Z 0) (10 ∷ 20 ∷ 30 ∷ 69 ∷ 0 ∷ 0 ∷ []) ≡ ends finished [] (10 ∷ 20 ∷ 30 ∷ 69 ∷ 0 ∷ 0 ∷ []) 96
  pub z_one : runs (elaborate Z 0) (10 ∷ 70 ∷ 30 ∷ 5 ∷ 0 ∷ 0 ∷ []) ≡ ends finished (1 ∷ []) (10 ∷ 70 ∷ 30 ∷ 5 ∷ 1 ∷ 0 ∷ []) 101
  pub z_two : runs (elaborate Z 0) (99 ∷ 20 ∷ -1 ∷ 5 ∷ 0 ∷ 0 ∷ []) ≡ ends finished (0 ∷ 2 ∷ 100 ∷ []) (99 ∷ 20 ∷ -1 ∷ 5 ∷ 1 ∷ 1 ∷ []) 108
  pub row_nothing : runs (elaborate (main [] ∷ []) 0) [] ≡ ends finished [] [] 0
  pub row_emit : runs (elaborate (main (emits (number 1 ∷ [])) ∷ []) 0) [] ≡ ends finished (1 ∷ []) [] 2
  pub row_trap_1 : runs (elaborate (main (emits (number 1 ∷ (number 7 ⟨ div ⟩ (number 3 ⟨ sub ⟩ number 3)) ∷ number 2 ∷ [])) ∷ []) 0) []
      ≡ ends (stopped (trapped 1)) (1 ∷ []) [] 8
  pub row_division : runs (elaborate
      (main
      (declare 0 (bytes "m") int (minus 2147483647 ⟨ sub ⟩ number 1)
      ∷ emits
      ((var "m" ⟨ div ⟩ minus 1) ∷ (var "m" ⟨ rem ⟩ minus 1) ∷ (minus 7 ⟨ div ⟩ number 2) ∷ (minus 7 ⟨ rem ⟩ number 2) ∷ (number 7 ⟨ div ⟩ minus 2)
      ∷ (number 7 ⟨ rem ⟩ minus 2) ∷ unary 0 negate (var "m") ∷ []))
      ∷ []) 0) []
      ≡ ends finished (least ∷ 0 ∷ -3 ∷ -1 ∷ -3 ∷ 1 ∷ least ∷ []) [] 38
  pub row_wraps : runs (elaborate
      (main (emits ((number 2147483647 ⟨ add ⟩ number 1) ∷ (number 65536 ⟨ mul ⟩ number 65536) ∷ (number 65537 ⟨ mul ⟩ number 65537) ∷ []))
      ∷ []) 0) [] ≡ ends finished (least ∷ 0 ∷ 131073 ∷ []) [] 12
  pub row_trap_2 : runs (elaborate
      (array 0 (bytes "a") 3
      ∷ main (store 0 (bytes "a") (number 2) (number 5) ∷ emits (element 0 (bytes "a") (number 2) ∷ element 0 (bytes "a") (number 3) ∷ []))
      ∷ []) 0) (0 ∷ 0 ∷ 0 ∷ []) ≡ ends (stopped (trapped 2)) (5 ∷ []) (0 ∷ 0 ∷ 5 ∷ []) 9
  -- "Evaluating the right side first" would log 3, 2, 1, 7
  pub row_order : runs (elaborate (echo ∷ main (emit 0 (f 1 ⟨ add ⟩ (f 2 ⟨ mul ⟩ f 3)) ∷ []) ∷ []) 0) [] ≡ ends finished (1 ∷ 2 ∷ 3 ∷ 7 ∷ []) [] 21
  -- "testing the index before the value is computed" would trap 2
  pub row_index_last : runs (elaborate
      (echo ∷ array 0 (bytes "a") 2
      ∷ main (store 0 (bytes "a") (f 1) (f 0) ∷ store 0 (bytes "a") (f 2) (f 9 ⟨ div ⟩ number 0) ∷ [])
      ∷ []) 0) (5 ∷ 5 ∷ []) ≡ ends (stopped (trapped 1)) (1 ∷ 0 ∷ 2 ∷ 9 ∷ []) (5 ∷ 0 ∷ []) 28
  pub row_62 : runs (elaborate (down ∷ main (emit 0 (f 62) ∷ []) ∷ []) 0) [] ≡ ends finished (62 ∷ []) [] 691
  pub row_63 : runs (elaborate (down ∷ main (emit 0 (f 63) ∷ []) ∷ []) 0) [] ≡ ends (stopped (trapped 3)) [] [] 696
  pub row_endless : runs (elaborate (main (while 0 (truth true) (body []) ∷ []) ∷ []) 0) [] ≡ ends (stopped out_of_fuel) [] [] 1000
  pub no_main : elaborate [] 7 ≡ breaks 7
  -- `let a: int = a;`
  pub let_of_itself : elaborate (main (declare 3 (bytes "a") int (name 5 (bytes "a")) ∷ []) ∷ []) 0 ≡ breaks 5
  -- a let that hides a visible one
  pub hiding : elaborate (main (declare 1 (bytes "a") int (number 0) ∷ declare 2 (bytes "a") int (number 0) ∷ []) ∷ []) 0 ≡ breaks 2
  -- `true < false`
  pub ordered_truths : elaborate (main (when 1 (binary 2 (strict lt) (truth true) (truth false)) (body []) ∷ []) ∷ []) 0 ≡ breaks 2
  -- `fn f(): int { while true { return 1; } }`
  pub falls_off : elaborate (function 4 (bytes "f") [] (some int) (body (while 1 (truth true) (body (give 2 (number 1) ∷ [])) ∷ [])) ∷ main [] ∷ []) 0 ≡ breaks 4
  -- `fn f(): int { if true { return 1; } }`
  pub falls_through : elaborate (function 4 (bytes "f") [] (some int) (body (when 1 (truth true) (body (give 2 (number 1) ∷ [])) ∷ [])) ∷ main [] ∷ []) 0 ≡ breaks 4
  -- an array used without index
  pub no_index : elaborate (array 1 (bytes "a") 2 ∷ main (emit 2 (name 3 (bytes "a")) ∷ []) ∷ []) 0 ≡ breaks 3
  -- `true == false` as a condition
  pub equal_truths : runs (elaborate (main (when 0 (binary 0 (strict eq) (truth true) (truth false)) (body []) ∷ []) ∷ []) 0) [] ≡ ends finished [] [] 4
  -- `emit --5;`
  pub minus_minus : runs (elaborate (main (emits (unary 0 negate (minus 5) ∷ [])) ∷ []) 0) [] ≡ ends finished (5 ∷ []) [] 4

pub vectors : Vectors
unfolding bytes ◌>>=◌ need found same global_of local_of array_of function_of declare_item declare_all main_of want changed joined combined indexed fit called known expr exprs fresh leaves gives stmt block_of parameters is_return ends_in_return function_from functions_from elaborate run_of bind begin apply operate read write fetch assign_slot rounds append eval evals exec block back call_at add_w sub_w mul_w neg_w negative magnitude lt_s quot_s rem_s bit_of
vectors = record { g_runs = refl; g_core = refl; z_quiet = refl; z_one = refl; z_two = refl; row_nothing = refl; row_emit = refl; row_trap_1 = refl; row_division = refl; row_wraps = refl; row_trap_2 = refl; row_order = refl; row_index_last = refl; row_62 = refl; row_63 = refl; row_endless = refl; no_main = refl; let_of_itself = refl; hiding = refl; ordered_truths = refl; falls_off = refl; falls_through = refl; no_index = refl; equal_truths = refl; minus_minus = refl }
