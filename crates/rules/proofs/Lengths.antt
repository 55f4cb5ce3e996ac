-- How many words and items there are: a tree's expression and its core have equally many.
use mathlib.Core.Path.{◌≡◌, ap, ◌∙◌}
use mathlib.Core.List.{List}
use Prim.Native.Nat.{ℕ, suc, ◌+◌, ◌*◌}
use native.Mathlib.Omega.{arith}
use lib.ListN.{length}
use Rattle.language.specs.Tree.{Binary}
use Rattle.language.specs.Tree as T
use Rattle.language.specs.Core as C
use Rattle.grammar.specs.Flat as G
use Rattle.flat.specs.Items.{Item, size, sizes, code, codes}

mutual
  unfolding G.expr_words G.size

  pub expr_words_lem : (e : T.Expr) (more : List ℕ) → length (G.expr_words e more) ≡ 4 * G.size e + length more
  expr_words_lem (T.number n) more = omega arith
  expr_words_lem (T.truth b) more = omega arith
  expr_words_lem (T.name p x) more = omega arith
  expr_words_lem (T.element p x i) more = expr_words_lem i _ ∙ omega arith
  expr_words_lem (T.call p x xs) more = args_words_lem xs _ ∙ omega arith
  expr_words_lem (T.unary p o a) more = expr_words_lem a _ ∙ omega arith
  expr_words_lem (T.binary p Binary.or a b) more = expr_words_lem a _ ∙ omega (arith, expr_words_lem b (G.item G.join_item p 0 0 more))
  expr_words_lem (T.binary p Binary.and a b) more = expr_words_lem a _ ∙ omega (arith, expr_words_lem b (G.item G.join_item p 0 0 more))
  expr_words_lem (T.binary p (Binary.strict s) a b) more = expr_words_lem a _ ∙ omega (arith, expr_words_lem b (G.item G.strict_item p (G.strict_number s) 0 more))

  pub args_words_lem : (es : T.Args) (more : List ℕ) → length (G.args_words es more) ≡ 4 * G.sizes es + length more
  args_words_lem T.none more = omega arith
  args_words_lem (T.more e es) more = expr_words_lem e _ ∙ omega (arith, args_words_lem es more)

mutual
  unfolding code size

  pub code_length : (e : C.Expr) (k : ℕ) (is : List Item) → length (code e k is) ≡ size e + length is
  code_length (C.number n) k is = omega arith
  code_length (C.local x) k is = omega arith
  code_length (C.element a i) k is = code_length i _ _ ∙ omega arith
  code_length (C.call f xs) k is = codes_length xs f 0 (suc k) is
  code_length (C.unary o a) k is = code_length a _ _ ∙ omega arith
  code_length (C.strict o a b) k is = code_length a _ _ ∙ (ap (λ (n : ℕ). size a + n) (code_length b _ _) ∙ omega arith)
  code_length (C.and a b) k is = code_length a _ _ ∙ (ap (λ (n : ℕ). size a + suc n) (code_length b _ _) ∙ omega arith)
  code_length (C.or a b) k is = code_length a _ _ ∙ (ap (λ (n : ℕ). size a + suc n) (code_length b _ _) ∙ omega arith)

  pub codes_length : (xs : C.Args) (f n k : ℕ) (is : List Item) → length (codes xs f n k is) ≡ sizes xs + length is
  codes_length C.none f n k is = omega arith
  codes_length (C.more e xs) f n k is = code_length e _ _ ∙ (ap (λ (m : ℕ). size e + m) (codes_length xs f (suc n) 0 is) ∙ omega arith)
