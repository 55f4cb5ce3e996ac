-- A tree whose names stand in the text at the places that its nodes carry: so it is for every tree that a text parses to.
use Rattle.std.specs.Prelude.{◌≡◌, List, [], ◌∷◌, ℕ, length}
use Rattle.language.specs.Tree.{Place, Name, Expr, Args, Stmt, Block, Param, Item}
use Rattle.language.specs.Tree as T
use Rattle.rules.specs.Tables.{part}

module _ (text : List ℕ) where
  -- the name's bytes are those of the text from its place on
  abbrev pub Stands : Place → Name → Type 0
  Stands p x = part text p (length x) ≡ x

  unfoldable mutual
    pub NamedExpr : Expr → Type 0
    NamedExpr (T.number n) = Unit {0}
    NamedExpr (T.truth b) = Unit {0}
    NamedExpr (T.name p x) = Stands p x
    NamedExpr (T.element p x i) = Stands p x × NamedExpr i
    NamedExpr (T.call p x xs) = Stands p x × NamedArgs xs
    NamedExpr (T.unary p o a) = NamedExpr a
    NamedExpr (T.binary p o a b) = NamedExpr a × NamedExpr b

    pub NamedArgs : Args → Type 0
    NamedArgs T.none = Unit {0}
    NamedArgs (T.more e xs) = NamedExpr e × NamedArgs xs

  unfoldable mutual
    pub NamedStmt : Stmt → Type 0
    NamedStmt (T.declare p x t e) = Stands p x × NamedExpr e
    NamedStmt (T.assign p x e) = Stands p x × NamedExpr e
    NamedStmt (T.store p x i e) = Stands p x × NamedExpr i × NamedExpr e
    NamedStmt (T.when p e a) = NamedExpr e × NamedBlock a
    NamedStmt (T.choose p e a b) = NamedExpr e × NamedBlock a × NamedBlock b
    NamedStmt (T.while p e a) = NamedExpr e × NamedBlock a
    NamedStmt (T.leave p) = Unit {0}
    NamedStmt (T.give p e) = NamedExpr e
    NamedStmt (T.emit p e) = NamedExpr e
    NamedStmt (T.run p x xs) = Stands p x × NamedArgs xs

    pub NamedBlock : Block → Type 0
    NamedBlock T.end = Unit {0}
    NamedBlock (T.then s b) = NamedStmt s × NamedBlock b

  unfoldable pub NamedParams : List Param → Type 0
  NamedParams [] = Unit {0}
  NamedParams (p ∷ ps) = Stands p.place p.name × NamedParams ps

  unfoldable pub NamedItems : List Item → Type 0
  NamedItems [] = Unit {0}
  NamedItems (T.array p x n ∷ is) = Stands p x × NamedItems is
  NamedItems (T.function p x ps r b ∷ is) = Stands p x × NamedParams ps × NamedBlock b × NamedItems is
