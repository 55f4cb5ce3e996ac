-- What a writer of the words goes by. It comes to a node's own item after its operands, when those are written: a node that begins before an expression
-- is then charged to that expression's first item. And what it writes next stands after what it has written.
use mathlib.Core.Path.{◌≡◌, refl, sym, ap, ◌∙◌}
use mathlib.Core.List.{List, [], ◌∷◌, ◌++◌}
use Prim.Native.Nat.{ℕ, suc, ◌+◌}
use lib.ListN.{length, set}
use Rattle.language.specs.Core.{Expr, Args}
use Rattle.language.specs.Core as C
use Rattle.flat.specs.Items.{Kind, number, local, element, call, unary, strict, and, or, join, Item, item, code, codes}
use Rattle.flat.specs.Items as I
use Rattle.flat.specs.Statements.{Stmt, put, store, choose, while, leave, give, emit, run, Block, end, then, flats}
use Rattle.flat.specs.Statements as S
use Rattle.flat.specs.Words.{kind_words, items_words, stmt_words, block_words, rest_length, block_length, entry, entries, bodies, words_then, words_of}

-- one more node begins before these items
unfoldable pub charged : List Item → List Item
charged [] = []
charged (i ∷ is) = item (suc i.charge) i.kind ∷ is

mutual
  unfolding code charged

  pub charged_code : (e : Expr) (k : ℕ) (is : List Item) → charged (code e k is) ≡ code e (suc k) is
  charged_code (C.number x) k is = refl
  charged_code (C.local x) k is = refl
  charged_code (C.element a i) k is = charged_code i (suc k) _
  charged_code (C.call f xs) k is = charged_codes xs f 0 (suc k) is
  charged_code (C.unary o a) k is = charged_code a (suc k) _
  charged_code (C.strict o a b) k is = charged_code a (suc k) _
  charged_code (C.and a b) k is = charged_code a (suc k) _
  charged_code (C.or a b) k is = charged_code a (suc k) _

  pub charged_codes : (xs : Args) (f n k : ℕ) (is : List Item) → charged (codes xs f n k is) ≡ codes xs f n (suc k) is
  charged_codes C.none f n k is = refl
  charged_codes (C.more e xs) f n k is = charged_code e k _

-- in words: the second word of the first item is one more
pub charge_word : (k : Kind) (c d : ℕ) (more : List ℕ) → set (kind_words k c more) 1 d ≡ kind_words k d more
unfolding kind_words
charge_word (number n) c d more = refl
charge_word (local x) c d more = refl
charge_word (element a) c d more = refl
charge_word (call f n) c d more = refl
charge_word (unary o) c d more = refl
charge_word (strict o) c d more = refl
charge_word (and n) c d more = refl
charge_word (or n) c d more = refl
charge_word join c d more = refl
charge_word I.unknown c d more = refl

pub charged_words : (i : Item) (is : List Item) (more : List ℕ) → items_words (charged (i ∷ is)) more ≡ set (items_words (i ∷ is) more) 1 (suc i.charge)
unfolding charged items_words
charged_words i is more = sym (charge_word i.kind i.charge (suc i.charge) (items_words is more))

-- Each thing's words, and then more, are its words before more.

kind_then : (k : Kind) (c : ℕ) (us vs : List ℕ) → kind_words k c (us ++ vs) ≡ kind_words k c us ++ vs
unfolding kind_words
kind_then (number n) c us vs = refl
kind_then (local x) c us vs = refl
kind_then (element a) c us vs = refl
kind_then (call f n) c us vs = refl
kind_then (unary o) c us vs = refl
kind_then (strict o) c us vs = refl
kind_then (and n) c us vs = refl
kind_then (or n) c us vs = refl
kind_then join c us vs = refl
kind_then I.unknown c us vs = refl

pub items_then : (is : List Item) (us vs : List ℕ) → items_words is (us ++ vs) ≡ items_words is us ++ vs
unfolding items_words
items_then [] us vs = refl
items_then (i ∷ is) us vs = ap (kind_words i.kind i.charge) (items_then is us vs) ∙ kind_then i.kind i.charge (items_words is us) vs

mutual
  unfolding stmt_words

  pub stmt_then : (s : Stmt) (n : ℕ) (us vs : List ℕ) → stmt_words s n (us ++ vs) ≡ stmt_words s n us ++ vs
  stmt_then (put x is) n us vs = rw (items_then is us vs)
  stmt_then (store a is js) n us vs = rw (items_then js us vs, items_then is (items_words js us) vs)
  stmt_then (choose is a b) n us vs = rw (block_then b us vs, block_then a (block_words b us) vs, items_then is (block_words a (block_words b us)) vs)
  stmt_then (while is b) n us vs = rw (block_then b us vs, items_then is (block_words b us) vs)
  stmt_then leave n us vs = refl
  stmt_then (give is) n us vs = rw (items_then is us vs)
  stmt_then (emit is) n us vs = rw (items_then is us vs)
  stmt_then (run is) n us vs = rw (items_then is us vs)
  stmt_then S.unknown n us vs = refl

  pub block_then : (b : Block) (us vs : List ℕ) → block_words b (us ++ vs) ≡ block_words b us ++ vs
  block_then end us vs = refl
  block_then (then s b) us vs = rw (block_then b us vs) (stmt_then s (rest_length s) (block_words b us) vs)

bodies_then : (fs : List C.Function) (us vs : List ℕ) → bodies fs (us ++ vs) ≡ bodies fs us ++ vs
unfolding bodies
bodies_then [] us vs = refl
bodies_then (f ∷ fs) us vs = rw (bodies_then fs us vs) (block_then (flats f.body) (bodies fs us) vs)

entries_then : (fs : List C.Function) (place : ℕ) (us vs : List ℕ) → entries fs place (us ++ vs) ≡ entries fs place us ++ vs
unfolding entries
entries_then [] place us vs = refl
entries_then (f ∷ fs) place us vs = rw (entries_then fs (place + block_length (flats f.body)) us vs)

pub words_then_lem : (p : C.Program) (more : List ℕ) → words_then p more ≡ words_of p ++ more
unfolding words_of words_then
words_then_lem p more = rw (bodies_then p.functions [] more, entries_then p.functions (entry (length p.functions)) (bodies p.functions []) more)
