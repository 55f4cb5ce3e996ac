-- Examples, computed: the items of an expression, the words of a program, and vectors of document 01 §6 run from their words.
use mathlib.Core.Path.{◌≡◌, refl}
use mathlib.Core.List.{[], ◌∷◌}
use Prim.Native.Nat.{ℕ}
use Rattle.word.specs.Word.{add_w, mul_w}
use Rattle.language.specs.Tree.{add, mul, div}
use Rattle.language.specs.Core as C
use Rattle.language.specs.Meaning.{bind, begin, fetch, operate, write, append, back, finished, stopped, trapped, division_by_zero}
use Rattle.flat.specs.Items.{number, strict, item, code, begins, popped, push, step, scan, evaluate}
use Rattle.flat.specs.Statements.{flat, fexec, fcall_at}
use Rattle.flat.specs.Words.{kind_of, item_of, items_of, statement_of, sequence_of, block_of, function_of, flat_run, strict_number, kind_words, items_words, count, rest_length, stmt_words, entries, bodies, words_then, words_of}

-- 1 + 2 * 3: both operators begin before their left sides
sum : C.Expr
sum = C.strict add (C.number 1) (C.strict mul (C.number 2) (C.number 3))

sum_items : code sum 0 [] ≡ item 2 (number 1) ∷ item 2 (number 2) ∷ item 1 (number 3) ∷ item 0 (strict mul) ∷ item 0 (strict add) ∷ []
unfolding code sum
sum_items = refl

-- fn main() { emit 1; }
one : C.Program
one = record { functions = record { parameters = 0; lets = 0; body = C.then (C.emit (C.number 1)) C.end } ∷ []; main = 0; elements = 0 }

one_words : words_of one ≡ 1 ∷ 0 ∷ 0 ∷ 7 ∷ 1 ∷ 0 ∷ 0 ∷ 6 ∷ 0 ∷ 0 ∷ 1 ∷ 0 ∷ 0 ∷ 0 ∷ 4 ∷ 0 ∷ 1 ∷ 1 ∷ 0 ∷ []
unfolding one words_of words_then entries bodies count rest_length stmt_words items_words kind_words flat code
one_words = refl

-- fn f(x: int): int { emit x; return x; }
f : C.Function
f = record { parameters = 1; lets = 0; body = C.then (C.emit (C.local 0)) (C.then (C.give (C.local 0)) C.end) }

f_of : ℕ → C.Expr
f_of n = C.call 0 (C.more (C.number n) C.none)

-- `emit f(1) + f(2) * f(3);`: log 1, 2, 3, 7, fuel 21
in_order : C.Program
in_order = record { functions = f ∷ record { parameters = 0; lets = 0; body = C.then (C.emit (C.strict add (f_of 1) (C.strict mul (f_of 2) (f_of 3)))) C.end } ∷ []; main = 1; elements = 0 }

in_order_run : flat_run (words_of in_order) [] 21 4 ≡ record { outcome = finished; world = record { fuel = 0; log = 1 ∷ 2 ∷ 3 ∷ 7 ∷ []; arrays = [] } }
unfolding
    f f_of in_order words_of words_then entries bodies count rest_length stmt_words items_words kind_words strict_number flat code flat_run function_of block_of sequence_of statement_of items_of
    item_of kind_of fcall_at fexec evaluate scan step begins begin bind fetch operate push popped append back add_w mul_w
in_order_run = refl

-- `a[f(1)] = f(0); a[f(2)] = f(9) / 0;`: trap 1, log 1, 0, 2, 9, fuel 28: the value comes before the index is tested
value_first : C.Program
value_first =
    record {
      functions =
          f ∷
          record {
            parameters = 0;
            lets = 0;
            body =
                C.then (C.store (record { offset = 0; size = 2 }) (f_of 1) (f_of 0))
                (C.then (C.store (record { offset = 0; size = 2 }) (f_of 2) (C.strict div (f_of 9) (C.number 0))) C.end);
          } ∷
          [];
      main = 1;
      elements = 2;
    }

value_first_run : flat_run (words_of value_first) (5 ∷ 5 ∷ []) 28 4 ≡ record { outcome = stopped (trapped division_by_zero); world = record { fuel = 0; log = 1 ∷ 0 ∷ 2 ∷ 9 ∷ []; arrays = 5 ∷ 0 ∷ [] } }
unfolding
    f f_of value_first words_of words_then entries bodies count rest_length stmt_words items_words kind_words strict_number flat code flat_run function_of block_of sequence_of statement_of items_of
    item_of kind_of fcall_at fexec evaluate scan step begins begin bind fetch operate push popped append back write
value_first_run = refl
