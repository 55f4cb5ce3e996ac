-- Words and then more are the words, and then more: each encoding is linear in what follows, so that what is written part by part is the whole.
use mathlib.Core.Path.{◌≡◌, refl, sym, ap, ◌∙◌}
use mathlib.Core.List.{List, [], ◌∷◌, ◌++◌, append_assoc}
use Prim.Native.Nat.{ℕ, suc, ◌+◌, ◌*◌}
use native.Mathlib.Omega.{arith}
use lib.ListN.{length}
use Rattle.language.specs.Tree.{Place, Name, Binary, Expr, Args, Stmt, Block, Param, Item}
use Rattle.grammar.specs.Parse.{Tail, grow}
use Rattle.grammar.specs.Flat.{item, words_per_item, size, sizes, expr_words, args_words, right_words, tail_words, arg_count, header, run_words, stmt_words, block_words, params_words, type_number, item_words, items_words, strict_number, element_item, call_item, unary_item, unary_number, strict_item, and_item, or_item, join_item}

abbrev pub Linear : (List ℕ → List ℕ) → Type 0
Linear w = (more : List ℕ) → w more ≡ w [] ++ more

pub both : (u v : List ℕ → List ℕ) → Linear u → Linear v → Linear (λ m. u (v m))
both u v p q m = ap u (q m) ∙ p (v [] ++ m) ∙ sym (append_assoc (u []) (v []) m) ∙ ap (λ (w : List ℕ). w ++ m) (sym (p (v [])))

pub then_item : (u : List ℕ → List ℕ) (k p a b : ℕ) → Linear u → Linear (λ m. u (item k p a b m))
then_item u k p a b q m = both u (item k p a b) q (λ m. refl) m

item_then : (v : List ℕ → List ℕ) (k p a b : ℕ) → Linear v → Linear (λ m. item k p a b (v m))
item_then v k p a b q m = both (item k p a b) v (λ m. refl) q m

mutual
  unfolding expr_words args_words

  pub expr_linear : (e : Expr) → Linear (expr_words e)
  expr_linear (Expr.number n) m = refl
  expr_linear (Expr.truth b) m = refl
  expr_linear (Expr.name p x) m = refl
  expr_linear (Expr.element p x e) m = then_item (expr_words e) element_item p (length x) 0 (λ m. expr_linear e m) m
  expr_linear (Expr.call p x es) m = then_item (args_words es) call_item p (length x) (arg_count es) (λ m. args_linear es m) m
  expr_linear (Expr.unary p o a) m = then_item (expr_words a) unary_item p (unary_number o) 0 (λ m. expr_linear a m) m
  expr_linear (Expr.binary p Binary.or a b) m =
      both (expr_words a) (λ m. item or_item p (size b) 0 (expr_words b (item join_item p 0 0 m))) (λ m. expr_linear a m) (item_then (λ m. expr_words b (item join_item p 0 0 m)) or_item p (size b) 0 (then_item (expr_words b) join_item p 0 0 (λ m. expr_linear b m))) m
  expr_linear (Expr.binary p Binary.and a b) m =
      both (expr_words a) (λ m. item and_item p (size b) 0 (expr_words b (item join_item p 0 0 m))) (λ m. expr_linear a m) (item_then (λ m. expr_words b (item join_item p 0 0 m)) and_item p (size b) 0 (then_item (expr_words b) join_item p 0 0 (λ m. expr_linear b m))) m
  expr_linear (Expr.binary p (Binary.strict s) a b) m =
      both (expr_words a) (λ m. expr_words b (item strict_item p (strict_number s) 0 m)) (λ m. expr_linear a m) (then_item (expr_words b) strict_item p (strict_number s) 0 (λ m. expr_linear b m)) m

  pub args_linear : (es : Args) → Linear (args_words es)
  args_linear Args.none m = refl
  args_linear (Args.more e es) m = both (expr_words e) (args_words es) (λ m. expr_linear e m) (λ m. args_linear es m) m

pub right_linear : (p : Place) (o : Binary) (b : Expr) → Linear (right_words p o b)
unfolding right_words
right_linear p Binary.or b m = item_then (λ m. expr_words b (item join_item p 0 0 m)) or_item p (size b) 0 (then_item (expr_words b) join_item p 0 0 (expr_linear b)) m
right_linear p Binary.and b m = item_then (λ m. expr_words b (item join_item p 0 0 m)) and_item p (size b) 0 (then_item (expr_words b) join_item p 0 0 (expr_linear b)) m
right_linear p (Binary.strict s) b m = then_item (expr_words b) strict_item p (strict_number s) 0 (expr_linear b) m

pub binary_words : (p : Place) (o : Binary) (a b : Expr) (m : List ℕ) → expr_words (Expr.binary p o a b) m ≡ expr_words a (right_words p o b m)
unfolding expr_words right_words
binary_words p Binary.or a b m = refl
binary_words p Binary.and a b m = refl
binary_words p (Binary.strict s) a b m = refl

pub tail_linear : (r : Tail) → Linear (tail_words r)
unfolding tail_words
tail_linear Tail.done m = refl
tail_linear (Tail.more p o b r) m = both (right_words p o b) (tail_words r) (right_linear p o b) (tail_linear r) m

pub grow_words : (r : Tail) (a : Expr) (m : List ℕ) → expr_words (grow a r) m ≡ expr_words a (tail_words r m)
unfolding grow tail_words
grow_words Tail.done a m = refl
grow_words (Tail.more p o b r) a m = grow_words r (Expr.binary p o a b) m ∙ binary_words p o a b (tail_words r m)

pub run_linear : (p : Place) (x : Name) (es : Args) → Linear (run_words p x es)
unfolding run_words
run_linear p x es m = then_item (args_words es) call_item p (length x) (arg_count es) (args_linear es) m

-- a header and what follows it
headed : (h : List ℕ) (w : List ℕ → List ℕ) → Linear w → Linear (λ m. h ++ w m)
headed h w p m = ap (λ (v : List ℕ). h ++ v) (p m) ∙ sym (append_assoc h (w []) m)

mutual
  unfolding stmt_words block_words

  pub stmt_linear : (s : Stmt) → Linear (stmt_words s)
  stmt_linear (Stmt.declare p x t e) m = headed (header _ p (length x) (size e) 0 0 0 _ []) (expr_words e) (λ m. expr_linear e m) m
  stmt_linear (Stmt.assign p x e) m = headed (header _ p (length x) (size e) 0 0 0 _ []) (expr_words e) (λ m. expr_linear e m) m
  stmt_linear (Stmt.store p x a e) m = headed (header _ p (length x) (size a) (size e) 0 0 _ []) (λ w. expr_words a (expr_words e w)) (both (expr_words a) (expr_words e) (λ m. expr_linear a m) (λ m. expr_linear e m)) m
  stmt_linear (Stmt.when p e b) m = headed (header _ p _ (size e) 0 _ 0 _ []) (λ w. expr_words e (block_words b w)) (both (expr_words e) (block_words b) (λ m. expr_linear e m) (λ m. block_linear b m)) m
  stmt_linear (Stmt.choose p e b c) m =
      headed (header _ p _ (size e) 0 _ _ _ []) (λ w. expr_words e (block_words b (block_words c w))) (both (expr_words e) (λ w. block_words b (block_words c w)) (λ m. expr_linear e m) (both (block_words b) (block_words c) (λ m. block_linear b m) (λ m. block_linear c m))) m
  stmt_linear (Stmt.while p e b) m = headed (header _ p _ (size e) 0 _ 0 _ []) (λ w. expr_words e (block_words b w)) (both (expr_words e) (block_words b) (λ m. expr_linear e m) (λ m. block_linear b m)) m
  stmt_linear (Stmt.leave p) m = refl
  stmt_linear (Stmt.give p e) m = headed (header _ p 0 (size e) 0 0 0 _ []) (expr_words e) (λ m. expr_linear e m) m
  stmt_linear (Stmt.emit p e) m = headed (header _ p 0 (size e) 0 0 0 _ []) (expr_words e) (λ m. expr_linear e m) m
  stmt_linear (Stmt.run p x es) m = headed (header _ p (length x) _ 0 0 0 _ []) (run_words p x es) (run_linear p x es) m

  pub block_linear : (b : Block) → Linear (block_words b)
  block_linear Block.end m = refl
  block_linear (Block.then s b) m = both (stmt_words s) (block_words b) (λ m. stmt_linear s m) (λ m. block_linear b m) m

pub params_linear : (xs : List Param) → Linear (params_words xs)
unfolding params_words
params_linear [] m = refl
params_linear (x ∷ xs) m = ap (λ (w : List ℕ). x.place ∷ length x.name ∷ type_number x.type ∷ w) (params_linear xs m)

pub item_linear : (x : Item) → Linear (item_words x)
unfolding item_words
item_linear (Item.array p x n) m = refl
item_linear (Item.function p x xs t b) m = headed (header _ p (length x) _ _ _ _ _ []) (λ w. params_words xs (block_words b w)) (both (params_words xs) (block_words b) (params_linear xs) (λ m. block_linear b m)) m

pub items_linear : (xs : List Item) → Linear (items_words xs)
unfolding items_words
items_linear [] m = refl
items_linear (x ∷ xs) m = both (item_words x) (items_words xs) (item_linear x) (items_linear xs) m

-- an expression's words are its items'
mutual
  unfolding expr_words args_words size sizes

  pub expr_length_lem : (e : Expr) (m : List ℕ) → length (expr_words e m) ≡ words_per_item * size e + length m
  expr_length_lem (Expr.number n) m = omega arith
  expr_length_lem (Expr.truth b) m = omega arith
  expr_length_lem (Expr.name p x) m = omega arith
  expr_length_lem (Expr.element p x e) m = expr_length_lem e (item 2 p (length x) 0 m) ∙ omega arith
  expr_length_lem (Expr.call p x es) m = args_length es (item 3 p (length x) (arg_count es) m) ∙ omega arith
  expr_length_lem (Expr.unary p o a) m = expr_length_lem a _ ∙ omega arith
  expr_length_lem (Expr.binary p Binary.or a b) m = expr_length_lem a _ ∙ ap (λ (n : ℕ). words_per_item * size a + suc (suc (suc (suc n)))) (expr_length_lem b (item join_item p 0 0 m)) ∙ omega arith
  expr_length_lem (Expr.binary p Binary.and a b) m = expr_length_lem a _ ∙ ap (λ (n : ℕ). words_per_item * size a + suc (suc (suc (suc n)))) (expr_length_lem b (item join_item p 0 0 m)) ∙ omega arith
  expr_length_lem (Expr.binary p (Binary.strict s) a b) m = expr_length_lem a _ ∙ ap (λ (n : ℕ). words_per_item * size a + n) (expr_length_lem b (item strict_item p (strict_number s) 0 m)) ∙ omega arith

  pub args_length : (es : Args) (m : List ℕ) → length (args_words es m) ≡ words_per_item * sizes es + length m
  args_length Args.none m = omega arith
  args_length (Args.more e es) m = expr_length_lem e _ ∙ ap (λ (n : ℕ). words_per_item * size e + n) (args_length es m) ∙ omega arith
