-- A tree has at most eight words for each token that it was derived from, so that every text's tree fits its room.
use mathlib.Core.List.{List, []}
use mathlib.Core.Option.{Option}
use Prim.Native.Nat.{ℕ, ◌+◌, ◌*◌, ◌≤◌}
use native.Mathlib.Omega.{arith}
use lib.ListN.{length}
use Rattle.language.specs.Tree.{Place, Binary, Param, Item}
use Rattle.language.specs.Tree as T
use Rattle.language.specs.Tokens.{Placed}
use Rattle.language.specs.Grammar.{nth, IsExpr, IsRest, IsArgs, IsExprs, IsStmt, IsStmts, IsBlock, IsParam, IsParamList, IsParams, IsResult, IsItem, IsItems, Parses}
use Rattle.tokens.proofs.Room.{tokens_few}
use Rattle.grammar.specs.Flat as G
use Rattle.rules.proofs.Lengths.{expr_words_lem, args_words_lem}

size_binary : (p : Place) (o : Binary) (a b : T.Expr) → G.size (T.binary p o a b) ≤ G.size a + (G.size b + 2)
unfolding G.size
size_binary p Binary.or a b = omega arith
size_binary p Binary.and a b = omega arith
size_binary p (Binary.strict s) a b = omega arith

module _ (tok : ℕ → Option Placed) where
  mutual
    unfolding G.size

    expr_few : {l d i j : ℕ} {e : T.Expr} → IsExpr tok l d i j e → G.size e + 2 * i ≤ 2 * j
    expr_few (IsExpr.chain l a r) = omega (arith, expr_few a, rest_few r)
    expr_few (IsExpr.unary h o l a) = omega (arith, expr_few a)
    expr_few (IsExpr.number h e) = omega arith
    expr_few (IsExpr.true h e) = omega arith
    expr_few (IsExpr.false h e) = omega arith
    expr_few (IsExpr.name h e) = omega arith
    expr_few (IsExpr.element h s l a t e) = omega (arith, expr_few a)
    expr_few (IsExpr.call h s l a t e) = omega (arith, args_few a)
    expr_few (IsExpr.parens s l a t e) = omega (arith, expr_few a)

    rest_few : {l d i j : ℕ} {a e : T.Expr} → IsRest tok l d i j a e → G.size e + 2 * i ≤ G.size a + 2 * j
    rest_few IsRest.done = omega arith
    rest_few (IsRest.again {p = p} {o = o} {a = a} {b = b} c s k x r) = omega (arith, size_binary p o a b, expr_few x, rest_few r)
    rest_few (IsRest.once {p = p} {o = o} {a = a} {b = b} c s k x) = omega (arith, size_binary p o a b, expr_few x)

    args_few : {d i j : ℕ} {es : T.Args} → IsArgs tok d i j es → G.sizes es + 2 * i ≤ 2 * j
    args_few IsArgs.none = omega arith
    args_few (IsArgs.some es) = exprs_few es

    exprs_few : {d i j : ℕ} {es : T.Args} → IsExprs tok d i j es → G.sizes es + 2 * i ≤ 2 * j
    exprs_few (IsExprs.last e) = omega (arith, expr_few e)
    exprs_few (IsExprs.comma e s es) = omega (arith, expr_few e, exprs_few es)

  mutual
    unfolding G.stmt_words G.run_words

    stmt_few : {d i j : ℕ} {s : T.Stmt} → IsStmt tok d i j s → (more : List ℕ) → length (G.stmt_words s more) + 8 * i ≤ 8 * j + length more
    stmt_few (IsStmt.declare {e = e} w h c t q x s k) more = omega (arith, expr_words_lem e more, expr_few x)
    stmt_few (IsStmt.assign {e = e} h q x s k) more = omega (arith, expr_words_lem e more, expr_few x)
    stmt_few (IsStmt.store {a = a} {e = e} h u l y v q x s k) more = omega (arith, expr_words_lem a (G.expr_words e more), expr_words_lem e more, expr_few x, expr_few y)
    stmt_few (IsStmt.when {e = e} {b = b} w x y) more = omega (arith, expr_words_lem e (G.block_words b more), expr_few x, block_few y more)
    stmt_few (IsStmt.choose {e = e} {b = b} {c = c} w x y v z) more = omega (arith, expr_words_lem e (G.block_words b (G.block_words c more)), expr_few x, block_few y (G.block_words c more), block_few z more)
    stmt_few (IsStmt.while {e = e} {b = b} w x y) more = omega (arith, expr_words_lem e (G.block_words b more), expr_few x, block_few y more)
    stmt_few (IsStmt.leave w s k) more = omega arith
    stmt_few (IsStmt.give {e = e} w x s k) more = omega (arith, expr_words_lem e more, expr_few x)
    stmt_few (IsStmt.emit {e = e} w x s k) more = omega (arith, expr_words_lem e more, expr_few x)
    stmt_few (IsStmt.run {p = p} {x = x} {es = es} h u l y v s k) more = omega (arith, args_words_lem es (G.item G.call_item p (length x) (G.arg_count es) more), args_few y)

    stmts_few : {d i j : ℕ} {b : T.Block} → IsStmts tok d i j b → (more : List ℕ) → length (G.block_words b more) + 8 * i ≤ 8 * j + length more
    stmts_few IsStmts.end more = omega arith
    stmts_few (IsStmts.then {b = b} x y) more = omega (arith, stmt_few x (G.block_words b more), stmts_few y more)

    block_few : {d i j : ℕ} {b : T.Block} → IsBlock tok d i j b → (more : List ℕ) → length (G.block_words b more) + 8 * i + 16 ≤ 8 * j + length more
    block_few (IsBlock.block u l b v k) more = omega (arith, stmts_few b more)

  list_few : {i j : ℕ} {xs : List Param} → IsParamList tok i j xs → (more : List ℕ) → length (G.params_words xs more) + 8 * i ≤ 8 * j + length more
  unfolding G.params_words
  list_few (IsParamList.last (IsParam.param h c t k)) more = omega arith
  list_few (IsParamList.comma (IsParam.param h c t k) s xs) more = omega (arith, list_few xs more)

  params_few : {i j : ℕ} {xs : List Param} → IsParams tok i j xs → (more : List ℕ) → length (G.params_words xs more) + 8 * i ≤ 8 * j + length more
  unfolding G.params_words
  params_few IsParams.none more = omega arith
  params_few (IsParams.some xs) more = list_few xs more

  result_after : {i j : ℕ} {t : Option T.Ty} → IsResult tok i j t → i ≤ j
  result_after IsResult.none = omega arith
  result_after (IsResult.some s t k) = omega arith

  item_few : {i j : ℕ} {x : Item} → IsItem tok i j x → (more : List ℕ) → length (G.item_words x more) + 8 * i ≤ 8 * j + length more
  unfolding G.item_words
  item_few (IsItem.array w h a b c d e f k) more = omega arith
  item_few (IsItem.function {b = b} w h u ps v r x) more = omega (arith, params_few ps (G.block_words b more), result_after r, block_few x more)

  items_few : {i j : ℕ} {xs : List Item} → IsItems tok i j xs → (more : List ℕ) → length (G.items_words xs more) + 8 * i ≤ 8 * j + length more
  unfolding G.items_words
  items_few IsItems.end more = omega arith
  items_few (IsItems.then {xs = xs} x y) more = omega (arith, item_few x (G.items_words xs more), items_few y more)

pub tree_few : {text : List ℕ} {items : List Item} → Parses text items → length (G.tree_words items) ≤ G.tree_room
unfolding G.tree_words
tree_few p = omega (arith, items_few (nth p.tokens) p.derives [], tokens_few p.reads, p.reads.short)
