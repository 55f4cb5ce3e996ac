-- Document 01 §4 and §5 at their edges: each limit and one past it, each rule broken once, fuel to the unit, the ends of the range.
use Rattle.std.specs.Prelude.{true, false, List, [], ◌∷◌, ◌++◌, ◌≡◌, refl, ℕ, zero, suc, ◌+◌}
use Rattle.std.proofs.Math.Option.{Option, none, some}
use Rattle.word.specs.Word.{add_w, sub_w, mul_w, neg_w, negative, magnitude, lt_s, quot_s, rem_s, bit_of}
use Rattle.language.specs.Tree.{Name, Ty, int, bool, negate, not, eq, ne, lt, le, gt, ge, add, sub, mul, div, rem, or, and, strict, Strict, Param, Item, array, function, Expr, Stmt, Block, number, truth, name, element, call, unary, binary, declare, assign, store, when, choose, while, leave, give, emit, run, end, then}
use Rattle.language.specs.Tree as T
use Rattle.language.specs.Tokens.{bytes, same}
use Rattle.language.specs.Core.{Program}
use Rattle.language.specs.Rules.{Ruled, keeps, breaks, main_name, elaborate, ◌>>=◌, need, found, global_of, local_of, array_of, function_of, declare as declare_item, declare_all, main_of, want, changed, joined, combined, indexed, fit, called, known, expr, exprs, fresh, leaves, gives, stmt, block as block_of, parameters, is_return, ends_in_return, function_from, functions_from}
use Rattle.language.specs.Meaning.{trapped, out_of_fuel, Outcome, finished, stopped, Run, run_of, bind, begin, apply, operate, read, write, fetch, assign as assign_slot, rounds, append, eval, evals, exec, block, back, call_at}
use Rattle.language.specs.Examples.{◌⟨◌⟩◌, minus, body, one, param, main}

-- what is left of the fuel that is given, with the log's room that is given
pub record Left : Type 0 where
  pub outcome : Outcome
  pub log : List ℕ
  pub arrays : List ℕ
  pub fuel : ℕ

abbrev left : Run → Left
left r = record { outcome = r.outcome; log = r.world.log; arrays = r.world.arrays; fuel = r.world.fuel }

abbrev runs : Ruled Program → List ℕ → ℕ → ℕ → Option Left
runs (breaks p) xs fuel room = none
runs (keeps p) xs fuel room = some (left (run_of p xs fuel room))

abbrev ends : Outcome → List ℕ → List ℕ → ℕ → Option Left
ends o l xs u = some (record { outcome = o; log = l; arrays = xs; fuel = u })

-- 0 for a program that keeps the rules, else 1 more than the place
abbrev ok : Ruled Program → ℕ
ok (keeps p) = 0
ok (breaks p) = 1 + p

-- names that differ, and so many arrays of a size, functions, lets and parameters

abbrev nth : ℕ → Name
nth n = (1000 + n) ∷ []

abbrev arrays : ℕ → ℕ → List Item
arrays zero size = []
arrays (suc n) size = array n (nth n) size ∷ arrays n size

abbrev functions : ℕ → List Item
functions zero = []
functions (suc n) = function n (nth n) [] none (body []) ∷ functions n

abbrev lets : ℕ → List Stmt
lets zero = []
lets (suc n) = declare n (nth n) int (number 0) ∷ lets n

abbrev params : ℕ → List Param
params zero = []
params (suc n) = record { place = n; name = nth n; type = int } ∷ params n

pub record Edges : Type 0 where
  -- Each size limit, at it and one past it: the answer is 0, or 1 more than the place
  pub arrays_64 : ok (elaborate (arrays 64 1 ++ (main [] ∷ [])) 0) ≡ 0
  pub arrays_65 : ok (elaborate (arrays 65 1 ++ (main [] ∷ [])) 0) ≡ 1
  pub elements_16384 : ok (elaborate (arrays 4 4096 ++ (main [] ∷ [])) 0) ≡ 0
  pub elements_16385 : ok (elaborate (arrays 4 4096 ++ (array 77 (nth 9) 1 ∷ main [] ∷ [])) 0) ≡ 78
  pub size_4097 : ok (elaborate (arrays 1 4097 ++ (main [] ∷ [])) 0) ≡ 1
  pub size_0 : ok (elaborate (arrays 1 0 ++ (main [] ∷ [])) 0) ≡ 1
  pub functions_256 : ok (elaborate (functions 255 ++ (main [] ∷ [])) 0) ≡ 0
  pub functions_257 : ok (elaborate (functions 256 ++ (main [] ∷ [])) 0) ≡ 1
  pub parameters_8 : ok (elaborate (function 9 (bytes "f") (params 8) none (body []) ∷ main [] ∷ []) 0) ≡ 0
  pub parameters_9 : ok (elaborate (function 9 (bytes "f") (params 9) none (body []) ∷ main [] ∷ []) 0) ≡ 10
  pub locals_64 : ok (elaborate (main (lets 64) ∷ []) 0) ≡ 0
  pub locals_65 : ok (elaborate (main (lets 65) ∷ []) 0) ≡ 1
  -- Names, scopes and `main`
  pub parameter_twice : ok (elaborate (function 9 (bytes "f") (param "x" ∷ param "x" ∷ []) none (body []) ∷ main [] ∷ []) 5) ≡ 1
  pub main_an_array : ok (elaborate (array 3 (bytes "main") 1 ∷ []) 9) ≡ 4
  pub main_with_a_parameter : ok (elaborate (function 3 (bytes "main") (param "x" ∷ []) none (body []) ∷ []) 9) ≡ 4
  pub main_with_a_result : ok (elaborate (function 3 (bytes "main") [] (some int) (body (give 0 (number 1) ∷ [])) ∷ []) 9) ≡ 4
  pub side_by_side : ok (elaborate (main (when 0 (truth true) (body (declare 1 (bytes "x") int (number 1) ∷ [])) ∷ when 0 (truth true) (body (declare 1 (bytes "x") bool (truth true) ∷ [])) ∷ declare 2 (bytes "x") int (number 1) ∷ []) ∷ []) 0) ≡ 0
  pub hidden_in_a_block : ok (elaborate (main (declare 2 (bytes "x") int (number 1) ∷ when 0 (truth true) (body (declare 1 (bytes "x") int (number 1) ∷ [])) ∷ []) ∷ []) 0) ≡ 2
  pub named_like_a_function : ok (elaborate (main (declare 2 (bytes "f") int (number 1) ∷ []) ∷ function 3 (bytes "f") [] none (body []) ∷ []) 0) ≡ 3
  pub after_its_block : ok (elaborate (main (when 0 (truth true) (body (declare 1 (bytes "x") int (number 1) ∷ [])) ∷ emit 0 (name 7 (bytes "x")) ∷ []) ∷ []) 0) ≡ 8
  pub array_without_index_assigned : ok (elaborate (array 1 (bytes "a") 1 ∷ main (assign 2 (bytes "a") (number 1) ∷ []) ∷ []) 0) ≡ 3
  pub function_without_a_call : ok (elaborate (main (emit 0 (name 3 main_name) ∷ []) ∷ []) 0) ≡ 4
  pub named_twice : ok (elaborate (array 3 (nth 1) 1 ∷ function 5 (nth 1) [] none (body []) ∷ main [] ∷ []) 0) ≡ 6
  pub array_named_twice : ok (elaborate (function 3 (nth 1) [] none (body []) ∷ array 5 (nth 1) 1 ∷ main [] ∷ []) 0) ≡ 6
  pub lets_of_blocks_count : ok (elaborate (main (when 0 (truth true) (body (lets 1)) ∷ lets 64) ∷ []) 0) ≡ 1
  -- Types, calls and returns
  pub no_result_in_an_expression : ok (elaborate (main (emit 0 (call 4 main_name T.none) ∷ []) ∷ []) 0) ≡ 5
  pub two_types_compared : ok (elaborate (main (when 0 (binary 3 (strict eq) (truth true) (number 1)) (body []) ∷ []) ∷ []) 0) ≡ 4
  pub condition_before_its_block : ok (elaborate (main (when 5 (number 1) (body (emit 7 (truth true) ∷ [])) ∷ []) ∷ []) 0) ≡ 6
  pub both_blocks_return : ok (elaborate (function 4 (bytes "f") [] (some int) (body (choose 1 (truth true) (body (give 2 (number 1) ∷ [])) (body (give 2 (number 1) ∷ [])) ∷ [])) ∷ main [] ∷ []) 0) ≡ 0
  pub return_not_last : ok (elaborate (function 4 (bytes "f") [] (some int) (body (give 2 (number 1) ∷ emit 0 (number 1) ∷ [])) ∷ main [] ∷ []) 0) ≡ 5
  pub return_without_a_value : ok (elaborate (function 4 (bytes "f") [] (some int) (body (leave 2 ∷ [])) ∷ main [] ∷ []) 0) ≡ 3
  pub return_of_another_type : ok (elaborate (function 4 (bytes "f") [] (some int) (body (give 2 (truth true) ∷ [])) ∷ main [] ∷ []) 0) ≡ 3
  pub return_with_a_value : ok (elaborate (main (give 2 (number 1) ∷ []) ∷ []) 0) ≡ 3
  pub result_dropped : runs (elaborate (function 0 (bytes "f") [] (some bool) (body (give 0 (truth true) ∷ [])) ∷ main (run 0 (bytes "f") T.none ∷ []) ∷ []) 0) [] 3 0 ≡ ends finished [] [] 0
  pub too_many_arguments : ok (elaborate (main (run 6 main_name (one (number 1)) ∷ []) ∷ []) 0) ≡ 7
  -- Fuel to the unit, activations, and the log's room
  pub main_calls_itself : runs (elaborate (main (run 0 main_name T.none ∷ []) ∷ []) 0) [] 1000 10 ≡ ends (stopped (trapped 3)) [] [] 936
  pub trap_at_the_last_unit : runs (elaborate (main (run 0 main_name T.none ∷ []) ∷ []) 0) [] 64 10 ≡ ends (stopped (trapped 3)) [] [] 0
  pub one_unit_less : runs (elaborate (main (run 0 main_name T.none ∷ []) ∷ []) 0) [] 63 10 ≡ ends (stopped out_of_fuel) [] [] 0
  pub no_fuel_for_nothing : runs (elaborate (main [] ∷ []) 0) [] 0 0 ≡ ends finished [] [] 0
  pub no_fuel_for_a_statement : runs (elaborate (main (emit 0 (number 1) ∷ []) ∷ []) 0) [] 0 0 ≡ ends (stopped out_of_fuel) [] [] 0
  pub no_fuel_for_its_node : runs (elaborate (main (emit 0 (number 1) ∷ []) ∷ []) 0) [] 1 0 ≡ ends (stopped out_of_fuel) [] [] 0
  pub no_room : runs (elaborate (main (emit 0 (number 1) ∷ []) ∷ []) 0) [] 2 0 ≡ ends (stopped (trapped 4)) [] [] 0
  pub just_enough : runs (elaborate (main (emit 0 (number 1) ∷ []) ∷ []) 0) [] 2 1 ≡ ends finished (1 ∷ []) [] 0
  pub trap_before_full : runs (elaborate (main (emit 0 (number 1 ⟨ div ⟩ number 0) ∷ []) ∷ []) 0) [] 10 0 ≡ ends (stopped (trapped 1)) [] [] 6
  pub while_once : runs (elaborate (main (while 0 (truth false) (body []) ∷ []) ∷ []) 0) [] 2 0 ≡ ends finished [] [] 0
  pub while_no_condition : runs (elaborate (main (while 0 (truth false) (body []) ∷ []) ∷ []) 0) [] 1 0 ≡ ends (stopped out_of_fuel) [] [] 0
  -- Indices and order at the ends of the range; what is skipped
  pub index_below_0 : runs (elaborate (array 0 (bytes "a") 1 ∷ main (emit 0 (element 0 (bytes "a") (minus 1)) ∷ []) ∷ []) 0) (5 ∷ []) 10 9 ≡ ends (stopped (trapped 2)) [] (5 ∷ []) 6
  pub index_least : runs (elaborate (array 0 (bytes "a") 1 ∷ main (emit 0 (element 0 (bytes "a") (minus 2147483647 ⟨ sub ⟩ number 1)) ∷ []) ∷ []) 0) (5 ∷ []) 10 9 ≡ ends (stopped (trapped 2)) [] (5 ∷ []) 4
  pub index_minus_0 : runs (elaborate (array 0 (bytes "a") 1 ∷ main (emit 0 (element 0 (bytes "a") (minus 0)) ∷ []) ∷ []) 0) (5 ∷ []) 10 9 ≡ ends finished (5 ∷ []) (5 ∷ []) 6
  pub order_at_the_ends : runs (elaborate (main (when 0 ((minus 2147483647 ⟨ sub ⟩ number 1) ⟨ le ⟩ number 2147483647) (body (emit 0 (number 1) ∷ [])) ∷ when 0 (number 1 ⟨ ge ⟩ number 1) (body (emit 0 (number 2) ∷ [])) ∷ []) ∷ []) 0) [] 100 9 ≡ ends finished (1 ∷ 2 ∷ []) [] 85
  pub returns_from_a_loop : runs (elaborate (function 0 (bytes "f") [] none (body (while 0 (truth true) (body (leave 0 ∷ emit 0 (number 1) ∷ [])) ∷ emit 0 (number 2) ∷ [])) ∷ main (run 0 (bytes "f") T.none ∷ emit 0 (number 3) ∷ []) ∷ []) 0) [] 100 9 ≡ ends finished (3 ∷ []) [] 94
  pub and_skips : runs (elaborate (main (when 0 (binary 0 and (truth false) ((number 1 ⟨ div ⟩ number 0) ⟨ eq ⟩ number 1)) (body []) ∷ []) ∷ []) 0) [] 100 9 ≡ ends finished [] [] 97
  pub or_skips : runs (elaborate (main (when 0 (binary 0 or (truth true) ((number 1 ⟨ div ⟩ number 0) ⟨ eq ⟩ number 1)) (body []) ∷ []) ∷ []) 0) [] 100 9 ≡ ends finished [] [] 97
  pub greater_and_less : runs (elaborate (main (when 0 (number 2 ⟨ gt ⟩ number 1) (body (emit 0 (number 1) ∷ [])) ∷ when 0 (number 1 ⟨ gt ⟩ number 1) (body (emit 0 (number 2) ∷ [])) ∷ when 0 (number 1 ⟨ lt ⟩ number 1) (body (emit 0 (number 3) ∷ [])) ∷ when 0 (number 1 ⟨ le ⟩ number 1) (body (emit 0 (number 4) ∷ [])) ∷ []) ∷ []) 0) [] 100 9 ≡ ends finished (1 ∷ 4 ∷ []) [] 80
  pub not_true : runs (elaborate (main (when 0 (unary 0 not (truth true)) (body (emit 0 (number 1) ∷ [])) ∷ when 0 (unary 0 not (truth false)) (body (emit 0 (number 2) ∷ [])) ∷ []) ∷ []) 0) [] 100 9 ≡ ends finished (2 ∷ []) [] 92
  pub and_needs_both : runs (elaborate (main (when 0 (binary 0 and (truth true) (truth false)) (body (emit 0 (number 1) ∷ [])) ∷ when 0 (binary 0 or (truth false) (truth true)) (body (emit 0 (number 2) ∷ [])) ∷ []) ∷ []) 0) [] 100 9 ≡ ends finished (2 ∷ []) [] 90

pub edges : Edges
unfolding bytes ◌>>=◌ need found same global_of local_of array_of function_of declare_item declare_all main_of want changed joined combined indexed fit called known expr exprs fresh leaves gives stmt block_of parameters is_return ends_in_return function_from functions_from elaborate run_of bind begin apply operate read write fetch assign_slot rounds append eval evals exec block back call_at add_w sub_w mul_w neg_w negative magnitude lt_s quot_s rem_s bit_of
edges = record { arrays_64 = refl; arrays_65 = refl; elements_16384 = refl; elements_16385 = refl; size_4097 = refl; size_0 = refl; functions_256 = refl; functions_257 = refl; parameters_8 = refl; parameters_9 = refl; locals_64 = refl; locals_65 = refl; parameter_twice = refl; main_an_array = refl; main_with_a_parameter = refl; main_with_a_result = refl; side_by_side = refl; hidden_in_a_block = refl; named_like_a_function = refl; after_its_block = refl; array_without_index_assigned = refl; function_without_a_call = refl; named_twice = refl; array_named_twice = refl; lets_of_blocks_count = refl; no_result_in_an_expression = refl; two_types_compared = refl; condition_before_its_block = refl; both_blocks_return = refl; return_not_last = refl; return_without_a_value = refl; return_of_another_type = refl; return_with_a_value = refl; result_dropped = refl; too_many_arguments = refl; main_calls_itself = refl; trap_at_the_last_unit = refl; one_unit_less = refl; no_fuel_for_nothing = refl; no_fuel_for_a_statement = refl; no_fuel_for_its_node = refl; no_room = refl; just_enough = refl; trap_before_full = refl; while_once = refl; while_no_condition = refl; index_below_0 = refl; index_least = refl; index_minus_0 = refl; order_at_the_ends = refl; returns_from_a_loop = refl; and_skips = refl; or_skips = refl; greater_and_less = refl; not_true = refl; and_needs_both = refl }
