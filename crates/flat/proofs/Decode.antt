-- Decoding undoes encoding: of items, statements and blocks, whatever words follow them.
use mathlib.Core.Path.{◌≡◌, refl, sym, ap, ◌∙◌}
use mathlib.Core.List.{List, [], ◌∷◌}
use Prim.Native.Nat.{ℕ, zero, suc, ◌+◌, ◌≤◌}
use native.Mathlib.Omega.{arith}
use lib.ListN.{length, get_or, drop}
use lib.Seq.{drop-drop}
use Rattle.language.specs.Tree.{Unary, negate, not, Strict, eq, ne, lt, le, gt, ge, add, sub, mul, div, rem}
use Rattle.language.specs.Core as C
use Rattle.flat.specs.Items.{Kind, number, local, element, call, unary, strict, and, or, join, Item, item, code}
use Rattle.flat.specs.Items as I
use Rattle.flat.specs.Statements.{Stmt, put, store, choose, while, leave, give, emit, run, Block, end, then, flat, flats}
use Rattle.flat.specs.Statements as S
use Rattle.flat.specs.Words.{word, words_per_item, unaries, stricts, kind_of, item_of, items_of, header_words, statement_of, sequence_of, block_of, unary_number, strict_number, kind_words, items_words, count, items_length, rest_length, block_length, stmt_words, block_words}
use Rattle.flat.specs.Fits.{nests, nests_all}

unary_back : (o : Unary) → get_or unaries (unary_number o) I.unknown ≡ unary o
unfolding unary_number
unary_back negate = refl
unary_back not = refl

strict_back : (o : Strict) → get_or stricts (strict_number o) I.unknown ≡ strict o
unfolding strict_number
strict_back eq = refl
strict_back ne = refl
strict_back lt = refl
strict_back le = refl
strict_back gt = refl
strict_back ge = refl
strict_back add = refl
strict_back sub = refl
strict_back mul = refl
strict_back div = refl
strict_back rem = refl

item_back : (k : Kind) (c : ℕ) (more : List ℕ) → item_of (kind_words k c more) ≡ item c k
unfolding item_of kind_of kind_words
item_back (number n) c more = refl
item_back (local x) c more = refl
item_back (element a) c more = refl
item_back (call f n) c more = refl
item_back (unary o) c more = ap (item c) (unary_back o)
item_back (strict o) c more = ap (item c) (strict_back o)
item_back (and n) c more = refl
item_back (or n) c more = refl
item_back join c more = refl
item_back I.unknown c more = refl

item_drop : (k : Kind) (c : ℕ) (more : List ℕ) → drop words_per_item (kind_words k c more) ≡ more
unfolding kind_words
item_drop (number n) c more = refl
item_drop (local x) c more = refl
item_drop (element a) c more = refl
item_drop (call f n) c more = refl
item_drop (unary o) c more = refl
item_drop (strict o) c more = refl
item_drop (and n) c more = refl
item_drop (or n) c more = refl
item_drop join c more = refl
item_drop I.unknown c more = refl

pub items_back : (is : List Item) (more : List ℕ) → items_of (length is) (items_words is more) ≡ is
unfolding items_of items_words
items_back [] more = refl
items_back (i ∷ is) more = rw (item_back i.kind i.charge (items_words is more), item_drop i.kind i.charge (items_words is more), items_back is more)

-- us is what is left of ws after n words
pub record Past (n : ℕ) (ws us : List ℕ) : Type 0 where
  pub is : drop n ws ≡ us

pub onward : {n m : ℕ} {ws us vs : List ℕ} → Past n ws us → Past m us vs → Past (n + m) ws vs
onward {n} {m} {ws} x y = record { is = sym (drop-drop m n ws) ∙ (ap (drop m) x.is ∙ y.is) }

pub past_header : {k a b n₁ n₂ s₁ s₂ n : ℕ} {more : List ℕ} → Past header_words (k ∷ a ∷ b ∷ n₁ ∷ n₂ ∷ s₁ ∷ s₂ ∷ n ∷ more) more
past_header = record { is = refl }

pub past_items : (is : List Item) (more : List ℕ) → Past (items_length is) (items_words is more) more
unfolding items_words
past_items [] more = record { is = refl }
past_items (i ∷ is) more = four (onward {n = words_per_item} (record { is = item_drop i.kind i.charge (items_words is more) }) (past_items is more))
  where
    four : {ws : List ℕ} → Past (words_per_item + items_length is) ws more → Past (items_length (i ∷ is)) ws more
    four {ws} x = record { is = ap (λ (j : ℕ). drop j ws) {x = items_length (i ∷ is)} {y = words_per_item + items_length is} (omega arith) ∙ x.is }

mutual
  unfolding rest_length stmt_words

  pub past_stmt : (s : Stmt) (n : ℕ) (more : List ℕ) → Past (header_words + rest_length s) (stmt_words s n more) more
  past_stmt (put x is) n more = onward past_header (past_items is more)
  past_stmt (store a is js) n more = onward past_header (onward (past_items is (items_words js more)) (past_items js more))
  past_stmt (choose is a b) n more = onward past_header (onward (past_items is (block_words a (block_words b more))) (onward (past_block a (block_words b more)) (past_block b more)))
  past_stmt (while is b) n more = onward past_header (onward (past_items is (block_words b more)) (past_block b more))
  past_stmt leave n more = record { is = refl }
  past_stmt (give is) n more = onward past_header (past_items is more)
  past_stmt (emit is) n more = onward past_header (past_items is more)
  past_stmt (run is) n more = onward past_header (past_items is more)
  past_stmt S.unknown n more = record { is = refl }

  pub past_block : (b : Block) (more : List ℕ) → Past (block_length b) (block_words b more) more
  past_block end more = record { is = refl }
  past_block (then s b) more = onward (past_stmt s (rest_length s) (block_words b more)) (past_block b more)

-- a statement's last header word says how far it goes
rest_word : (s : Stmt) (n : ℕ) (more : List ℕ) → word (stmt_words s n more) 7 ≡ n
unfolding stmt_words
rest_word (put x is) n more = refl
rest_word (store a is js) n more = refl
rest_word (choose is a b) n more = refl
rest_word (while is b) n more = refl
rest_word leave n more = refl
rest_word (give is) n more = refl
rest_word (emit is) n more = refl
rest_word (run is) n more = refl
rest_word S.unknown n more = refl

mutual
  unfolding flat statement_of block_of sequence_of count stmt_words nests

  stmt_back : (s : C.Stmt) (h n : ℕ) (more : List ℕ) → nests s ≤ h → statement_of (block_of h) (word (stmt_words (flat s) n more) 0) (stmt_words (flat s) n more) ≡ flat s
  stmt_back (C.put x e) h n more l = ap (put x) (items_back _ more)
  stmt_back (C.store a i e) h n more l =
      let q : Past (header_words + items_length (code i 0 [])) (stmt_words (flat (C.store a i e)) n more) (items_words (code e 0 []) more) = onward past_header (past_items (code i 0 []) (items_words (code e 0 []) more)) in
      rw (q.is, items_back (code i 0 []) (items_words (code e 0 []) more), items_back (code e 0 []) more)
  stmt_back (C.choose e a b) h n more l =
      let us : List ℕ = block_words (flats a) (block_words (flats b) more) in
      let q : Past (header_words + items_length (code e 0 [])) (stmt_words (flat (C.choose e a b)) n more) us = onward past_header (past_items (code e 0 []) us) in
      rw ((onward q (past_block (flats a) (block_words (flats b) more))).is, q.is, items_back (code e 0 []) us, block_back a h (block_words (flats b) more) (omega arith), block_back b h more (omega arith))
  stmt_back (C.while e b) h n more l =
      let q : Past (header_words + items_length (code e 0 [])) (stmt_words (flat (C.while e b)) n more) (block_words (flats b) more) = onward past_header (past_items (code e 0 []) (block_words (flats b) more)) in
      rw (q.is, items_back (code e 0 []) (block_words (flats b) more), block_back b h more (omega arith))
  stmt_back C.leave h n more l = refl
  stmt_back (C.give e) h n more l = ap give (items_back _ more)
  stmt_back (C.emit e) h n more l = ap emit (items_back _ more)
  stmt_back (C.run f xs) h n more l = ap run (items_back _ more)

  pub block_back : (b : C.Block) (h : ℕ) (more : List ℕ) → nests_all b ≤ h → block_of h (count (flats b)) (block_words (flats b) more) ≡ flats b
  block_back C.end zero more l = refl
  block_back C.end (suc h) more l = refl
  block_back (C.then s b) zero more l = absurd (omega arith)
  block_back (C.then s b) (suc h) more l =
      rw (
        rest_word (flat s) (rest_length (flat s)) (block_words (flats b) more),
        (past_stmt (flat s) (rest_length (flat s)) (block_words (flats b) more)).is,
        stmt_back s h (rest_length (flat s)) (block_words (flats b) more) (omega arith),
        block_back b (suc h) more (omega arith),
      )
