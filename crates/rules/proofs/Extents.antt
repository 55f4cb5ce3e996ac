-- A statement's core has as many words as its tree, and a block's as many words and statements.
use mathlib.Core.Path.{◌≡◌, refl, sym, ap, ◌∙◌}
use mathlib.Core.List.{List, []}
use mathlib.Core.Option.{Option, none, some}
use Prim.Native.Nat.{ℕ, suc, ◌+◌, ◌*◌}
use native.Mathlib.Omega.{arith}
use lib.ListN.{length, drop, length-append}
use lib.Seq.{drop_at}
use Rattle.language.specs.Tree.{Ty, int, bool}
use Rattle.language.specs.Tree as T
use Rattle.language.specs.Core as C
use Rattle.language.specs.Rules.{Global, Scope, Typed, leaves, gives, stmt, block}
use Rattle.grammar.specs.Flat as G
use Rattle.grammar.proofs.FlatLaws.{stmt_linear, block_linear}
use Rattle.flat.specs.Items as I
use Rattle.flat.specs.Items.{code, codes}
use Rattle.flat.specs.Statements.{Stmt, put, store, choose, while, leave, give, emit, run, Block, end, then, flat, flats}
use Rattle.flat.specs.Statements as S
use Rattle.flat.specs.Words as F
use Rattle.flat.specs.Words.{rest_length, block_length}
use Rattle.rules.specs.Tables.{word}
use Rattle.rules.proofs.Kept.{All, kept, broken, anything}
use Rattle.rules.proofs.Kept as K
use Rattle.rules.proofs.Sizes.{wanted, fitted, sized, sized_all}
use Rattle.rules.proofs.Lengths.{expr_words_lem, args_words_lem, code_length, codes_length}
use Rattle.rules.proofs.Storing.{items_words_lem}

-- Flat statements and blocks

mutual
  unfolding F.stmt_words rest_length

  pub flat_stmt : (s : Stmt) (n : ℕ) (more : List ℕ) → length (F.stmt_words s n more) ≡ 8 + rest_length s + length more
  flat_stmt (put x is) n more = omega (arith, items_words_lem is more)
  flat_stmt (store a is js) n more = omega (arith, items_words_lem is (F.items_words js more), items_words_lem js more)
  flat_stmt (choose is a b) n more = omega (arith, items_words_lem is (F.block_words a (F.block_words b more)), flat_block a (F.block_words b more), flat_block b more)
  flat_stmt (while is b) n more = omega (arith, items_words_lem is (F.block_words b more), flat_block b more)
  flat_stmt leave n more = omega arith
  flat_stmt (give is) n more = omega (arith, items_words_lem is more)
  flat_stmt (emit is) n more = omega (arith, items_words_lem is more)
  flat_stmt (run is) n more = omega (arith, items_words_lem is more)
  flat_stmt S.unknown n more = omega arith

  pub flat_block : (b : Block) (more : List ℕ) → length (F.block_words b more) ≡ block_length b + length more
  flat_block end more = omega arith
  flat_block (then s b) more = omega (arith, flat_stmt s (rest_length s) (F.block_words b more), flat_block b more)

-- The tree's: what follows a block or a statement

two_blocks : (a b : T.Block) (more : List ℕ) → length (G.block_words a (G.block_words b more)) ≡ length (G.block_words a []) + length (G.block_words b more)
two_blocks a b more = ap length (block_linear a (G.block_words b more)) ∙ length-append (G.block_words a []) (G.block_words b more)

after : (s : T.Stmt) (b : T.Block) → length (G.stmt_words s (G.block_words b [])) ≡ length (G.stmt_words s []) + length (G.block_words b [])
after s b = ap length (stmt_linear s (G.block_words b [])) ∙ length-append (G.stmt_words s []) (G.block_words b [])

-- The eighth word of the header says how many follow it.

pub stmt_extent : (s : T.Stmt) (more : List ℕ) → length (G.stmt_words s []) ≡ 8 + word (G.stmt_words s more) 7
unfolding G.stmt_words G.run_words
stmt_extent (T.declare p x t e) more = omega arith
stmt_extent (T.assign p x e) more = omega arith
stmt_extent (T.store p x i e) more = omega (arith, expr_words_lem i (G.expr_words e []), expr_words_lem i [], expr_words_lem e [])
stmt_extent (T.when p e b) more = omega (arith, expr_words_lem e (G.block_words b []), expr_words_lem e [])
stmt_extent (T.choose p e a b) more = omega (arith, expr_words_lem e (G.block_words a (G.block_words b [])), expr_words_lem e [], two_blocks a b [])
stmt_extent (T.while p e b) more = omega (arith, expr_words_lem e (G.block_words b []), expr_words_lem e [])
stmt_extent (T.leave p) more = omega arith
stmt_extent (T.give p e) more = omega arith
stmt_extent (T.emit p e) more = omega arith
stmt_extent (T.run p x xs) more = omega arith

pub past_stmt : (s : T.Stmt) (n : ℕ) (more : List ℕ) → n ≡ 8 + word (G.stmt_words s more) 7 → drop n (G.stmt_words s more) ≡ more
past_stmt s n more h = ap (drop n) (stmt_linear s more) ∙ drop_at (G.stmt_words s []) more n (omega (arith, h, stmt_extent s more))

pub past_block : (b : T.Block) (n : ℕ) (more : List ℕ) → n ≡ length (G.block_words b []) → drop n (G.block_words b more) ≡ more
past_block b n more h = ap (drop n) (block_linear b more) ∙ drop_at (G.block_words b []) more n (sym h)

-- What elaboration gives

pub record StmtExtent (s : T.Stmt) (v : C.Stmt) : Type 0 where
  pub same : 8 + rest_length (flat v) ≡ length (G.stmt_words s [])

pub record BlockExtent (b : T.Block) (v : C.Block) : Type 0 where
  pub same : block_length (flats v) ≡ length (G.block_words b [])
  pub many : F.count (flats v) ≡ G.count b

-- an expression of as many items
items_same : (v : C.Expr) (e : T.Expr) (more : List ℕ) → I.size v ≡ G.size e → 4 * length (code v 0 []) + length more ≡ length (G.expr_words e more)
items_same v e more h = omega (arith, code_length v 0 [], expr_words_lem e more, h)

module _ (gs : List Global) (result : Option Ty) where
  left : (r : Option Ty) (p : ℕ) → All (λ v. flat v ≡ leave) (leaves gs r p)
  unfolding leaves flat
  left none p = kept refl
  left (some t) p = broken

  given : (r : Option Ty) (p : ℕ) (y : Typed) (e : T.Expr) → I.size y.expr ≡ G.size e → All (StmtExtent (T.give p e)) (gives gs r p y)
  unfolding gives flat rest_length G.stmt_words
  given none p y e h = broken
  given (some t) p y e h = K.then (wanted (λ v. I.size v ≡ G.size e) t p y h) λ v k. kept (record { same = omega (arith, items_same v e [] k) })

  ran : (vs : C.Args) (f : ℕ) (xs : T.Args) (p : ℕ) (x : T.Name) → I.sizes vs ≡ G.sizes xs + 1 → 4 * length (codes vs f 0 0 []) ≡ length (G.run_words p x xs [])
  unfolding G.run_words
  ran vs f xs p x h = omega (arith, codes_length vs f 0 0 [], args_words_lem xs (G.item G.call_item p (length x) (G.arg_count xs) []), h)

  mutual
    unfolding stmt flat rest_length G.stmt_words G.count F.count

    pub stmt_same : (s : T.Stmt) (σ : Scope gs) → All (λ v. StmtExtent s v.0) (stmt gs result s σ)
    stmt_same (T.declare p x t e) σ =
        K.then (sized gs σ.visible e) λ y h. K.then (wanted (λ v. I.size v ≡ G.size e) t p y h.same) λ v k. K.then anything λ _ _. K.then anything λ _ _. kept (record { same = omega (arith, items_same v e [] k) })
    stmt_same (T.assign p x e) σ = K.then (sized gs σ.visible e) λ y h. K.then anything λ l _. K.then (wanted (λ v. I.size v ≡ G.size e) l.type p y h.same) λ v k. kept (record { same = omega (arith, items_same v e [] k) })
    stmt_same (T.store p x i e) σ =
        K.then (sized gs σ.visible i) λ j g. K.then (sized gs σ.visible e) λ y h. K.then (wanted (λ v. I.size v ≡ G.size i) int p j g.same) λ u l. K.then (wanted (λ v. I.size v ≡ G.size e) int p y h.same) λ v k.
        K.then anything λ a _. kept (record { same = omega (arith, items_same u i (G.expr_words e []) l, items_same v e [] k) })
    stmt_same (T.when p e a) σ =
        K.then (sized gs σ.visible e) λ y h. K.then (wanted (λ v. I.size v ≡ G.size e) bool p y h.same) λ v k. K.then (block_same a σ) λ c m.
        kept (record { same = omega (arith, items_same v e (G.block_words a []) k, m.same) })
    stmt_same (T.choose p e a b) σ =
        K.then (sized gs σ.visible e) λ y h. K.then (wanted (λ v. I.size v ≡ G.size e) bool p y h.same) λ v k. K.then (block_same a σ) λ c m. K.then (block_same b _) λ d n.
        kept (record { same = omega (arith, items_same v e (G.block_words a (G.block_words b [])) k, m.same, n.same, two_blocks a b []) })
    stmt_same (T.while p e a) σ =
        K.then (sized gs σ.visible e) λ y h. K.then (wanted (λ v. I.size v ≡ G.size e) bool p y h.same) λ v k. K.then (block_same a σ) λ c m.
        kept (record { same = omega (arith, items_same v e (G.block_words a []) k, m.same) })
    stmt_same (T.leave p) σ = K.then (left result p) λ c m. kept (record { same = ap (λ (w : Stmt). 8 + rest_length w) m })
    stmt_same (T.give p e) σ = K.then (sized gs σ.visible e) λ y h. K.then (given result p y e h.same) λ c m. kept m
    stmt_same (T.emit p e) σ = K.then (sized gs σ.visible e) λ y h. K.then (wanted (λ v. I.size v ≡ G.size e) int p y h.same) λ v k. kept (record { same = omega (arith, items_same v e [] k) })
    stmt_same (T.run p x xs) σ =
        K.then (sized_all gs σ.visible xs) λ es h. K.then anything λ f _. K.then (fitted (λ vs. I.sizes vs ≡ G.sizes xs + 1) gs p es f.parameters h.same) λ vs k.
        kept (record { same = omega (arith, ran vs f.number xs p x k) })

    pub block_same : (b : T.Block) (σ : Scope gs) → All (λ v. BlockExtent b v.0) (block gs result b σ)
    block_same T.end σ = kept (record { same = refl; many = refl })
    block_same (T.then s b) σ = K.then (stmt_same s σ) λ c m. K.then (block_same b c.1) λ d n. kept (record { same = omega (arith, m.same, n.same, after s b); many = ap suc n.many })
