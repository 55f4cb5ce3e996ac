-- Every name of a text's tree stands in the text at the place that comes with it: so it is of name tokens, and a derivation's names are name tokens.
use mathlib.Core.Path.{◌≡◌, refl, sym, ap, subst, ◌∙◌}
use mathlib.Core.List.{List, [], ◌∷◌, ◌++◌, append_assoc}
use mathlib.Core.Option.{Option, some}
use Prim.Native.Nat.{ℕ, zero, suc, ◌+◌}
use native.Mathlib.Omega.{arith}
use lib.ListN.{length, length-append}
use lib.Seq.{get_or_at}
use Rattle.language.specs.Tree.{Place, Name, Param, Item}
use Rattle.language.specs.Tree as T
use Rattle.language.specs.Tokens.{Token, Placed, placed, Spells, Reads}
use Rattle.language.specs.Grammar.{At, nth, IsExpr, IsRest, IsArgs, IsExprs, IsStmt, IsStmts, IsBlock, IsParam, IsParamList, IsParams, IsItem, IsItems, Parses}
use Rattle.rules.specs.Tables.{part}
use Rattle.rules.specs.Named.{Stands, NamedExpr, NamedArgs, NamedStmt, NamedBlock, NamedParams, NamedItems}

-- Tokens

spelt : {w rest : List ℕ} {t : Token} → Spells w rest t → (x : Name) → t ≡ Token.name x → w ≡ x
spelt (Spells.name _ _ _ _ _) x e = cc
spelt (Spells.word _ _ _) x e = cc
spelt (Spells.number _ _ _ _ _ _) x e = cc
spelt (Spells.sign _ _ _) x e = cc

part_at : (before w rest : List ℕ) (i : ℕ) → length before ≡ i → part (before ++ (w ++ rest)) i (length w) ≡ w
unfolding part
part_at before [] rest i e = refl
part_at before (b ∷ w) rest i e =
    rw (get_or_at before b (w ++ rest) 0 i e)
    (subst (λ (xs : Name). b ∷ part xs (i + 1) (length w) ≡ b ∷ w) (append_assoc before (b ∷ []) (w ++ rest))
    (ap (λ (xs : Name). b ∷ xs) (part_at (before ++ (b ∷ [])) w rest (i + 1) (length-append before (b ∷ []) ∙ ap (λ (n : ℕ). n + 1) e))))

module _ (text : List ℕ) where
  first_stands : {i : Place} (w rest before : List ℕ) → text ≡ before ++ (w ++ rest) → length before ≡ i → (x : Name) (p : Place) → w ≡ x → i ≡ p → Stands text p x
  first_stands w rest before e l x p f g = rw (e, ← f, ← g) (part_at before w rest _ l)

  name_stands : {i : Place} {later : List ℕ} {ts : List Placed} → Reads i later ts → (before : List ℕ) → text ≡ before ++ later → length before ≡ i →
      (k : ℕ) (x : Name) (p : Place) → nth ts k ≡ some (placed (Token.name x) p) → Stands text p x
  unfolding nth
  name_stands Reads.end before e l k x p h = let z : ◌≡◌ {A = ℕ} 0 1 = cc in absurd (omega arith)
  name_stands (Reads.blank {b = b} {rest = rest} u r) before e l k x p h =
      name_stands r (before ++ (b ∷ [])) (e ∙ sym (append_assoc before (b ∷ []) rest)) (length-append before (b ∷ []) ∙ ap (λ (n : ℕ). n + 1) l) k x p h
  name_stands (Reads.comment {w = w} {rest = rest} c u v r) before e l k x p h =
      name_stands r (before ++ w) (e ∙ (ap (λ (t : List ℕ). before ++ t) u ∙ sym (append_assoc before w rest))) (length-append before w ∙ (ap (λ (n : ℕ). n + length w) l ∙ sym v)) k x p h
  name_stands (Reads.token {i = i} {w = w} {rest = rest} {t = t} s u v r) before e l zero x p h =
      let q : placed t i ≡ placed (Token.name x) p = cc in
      first_stands w rest before (e ∙ ap (λ (v : List ℕ). before ++ v) u) l x p (spelt s x (ap (λ (r : Placed). r.token) q)) (ap (λ (r : Placed). r.place) q)
  name_stands (Reads.token {w = w} {rest = rest} s u v r) before e l (suc k) x p h =
      name_stands r (before ++ w) (e ∙ (ap (λ (t : List ℕ). before ++ t) u ∙ sym (append_assoc before w rest))) (length-append before w ∙ (ap (λ (n : ℕ). n + length w) l ∙ sym v)) k x p h

-- Derivations

module _ (text : List ℕ) (tok : ℕ → Option Placed) (stands : (i : ℕ) (x : Name) (p : Place) → At tok i (Token.name x) p → Stands text p x) where
  mutual
    unfolding NamedExpr

    expr_named : {l d i j : ℕ} {e : T.Expr} → IsExpr tok l d i j e → NamedExpr text e
    expr_named (IsExpr.chain l a r) = rest_named r (expr_named a)
    expr_named (IsExpr.unary h o l a) = expr_named a
    expr_named (IsExpr.number h e) = tt
    expr_named (IsExpr.true h e) = tt
    expr_named (IsExpr.false h e) = tt
    expr_named (IsExpr.name h e) = stands _ _ _ h
    expr_named (IsExpr.element h s l a t e) = (stands _ _ _ h, expr_named a)
    expr_named (IsExpr.call h s l a t e) = (stands _ _ _ h, args_named a)
    expr_named (IsExpr.parens s l a t e) = expr_named a

    rest_named : {l d i j : ℕ} {a e : T.Expr} → IsRest tok l d i j a e → NamedExpr text a → NamedExpr text e
    rest_named IsRest.done n = n
    rest_named (IsRest.again c s o b r) n = rest_named r (n, expr_named b)
    rest_named (IsRest.once c s o b) n = (n, expr_named b)

    args_named : {d i j : ℕ} {es : T.Args} → IsArgs tok d i j es → NamedArgs text es
    args_named IsArgs.none = tt
    args_named (IsArgs.some es) = exprs_named es

    exprs_named : {d i j : ℕ} {es : T.Args} → IsExprs tok d i j es → NamedArgs text es
    exprs_named (IsExprs.last e) = (expr_named e, tt)
    exprs_named (IsExprs.comma e s es) = (expr_named e, exprs_named es)

  mutual
    unfolding NamedStmt

    stmt_named : {d i j : ℕ} {s : T.Stmt} → IsStmt tok d i j s → NamedStmt text s
    stmt_named (IsStmt.declare w h c t q e s k) = (stands _ _ _ h, expr_named e)
    stmt_named (IsStmt.assign h q e s k) = (stands _ _ _ h, expr_named e)
    stmt_named (IsStmt.store h u l a v q e s k) = (stands _ _ _ h, expr_named a, expr_named e)
    stmt_named (IsStmt.when w e b) = (expr_named e, block_named b)
    stmt_named (IsStmt.choose w e b v c) = (expr_named e, block_named b, block_named c)
    stmt_named (IsStmt.while w e b) = (expr_named e, block_named b)
    stmt_named (IsStmt.leave w s k) = tt
    stmt_named (IsStmt.give w e s k) = expr_named e
    stmt_named (IsStmt.emit w e s k) = expr_named e
    stmt_named (IsStmt.run h u l a v s k) = (stands _ _ _ h, args_named a)

    stmts_named : {d i j : ℕ} {b : T.Block} → IsStmts tok d i j b → NamedBlock text b
    stmts_named IsStmts.end = tt
    stmts_named (IsStmts.then s b) = (stmt_named s, stmts_named b)

    block_named : {d i j : ℕ} {b : T.Block} → IsBlock tok d i j b → NamedBlock text b
    block_named (IsBlock.block u l b v k) = stmts_named b

  param_named : {i j : ℕ} {x : Param} → IsParam tok i j x → Stands text x.place x.name
  param_named (IsParam.param h c t k) = stands _ _ _ h

  list_named : {i j : ℕ} {xs : List Param} → IsParamList tok i j xs → NamedParams text xs
  unfolding NamedParams
  list_named (IsParamList.last x) = (param_named x, tt)
  list_named (IsParamList.comma x s xs) = (param_named x, list_named xs)

  params_named : {i j : ℕ} {xs : List Param} → IsParams tok i j xs → NamedParams text xs
  unfolding NamedParams
  params_named IsParams.none = tt
  params_named (IsParams.some xs) = list_named xs

  item_named : {i j : ℕ} {x : Item} (xs : List Item) → IsItem tok i j x → NamedItems text xs → NamedItems text (x ∷ xs)
  unfolding NamedItems
  item_named xs (IsItem.array w h a b c d e f k) n = (stands _ _ _ h, n)
  item_named xs (IsItem.function w h u ps v r b) n = (stands _ _ _ h, params_named ps, block_named b, n)

  items_named : {i j : ℕ} {xs : List Item} → IsItems tok i j xs → NamedItems text xs
  unfolding NamedItems
  items_named IsItems.end = tt
  items_named (IsItems.then {xs = xs} x r) = item_named xs x (items_named r)

pub all_named : {text : List ℕ} {items : List Item} → Parses text items → NamedItems text items
all_named {text} p = items_named text (nth p.tokens) (λ k x at h. name_stands text p.reads.reads [] refl refl k x at h) p.derives
