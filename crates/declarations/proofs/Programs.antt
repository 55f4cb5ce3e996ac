-- The words of a core program: its functions' entries and bodies are linear in what follows, and are written in two rows that don't meet.
use mathlib.Core.Path.{◌≡◌, refl, sym, ap, ◌∙◌}
use mathlib.Core.List.{List, [], ◌∷◌, ◌++◌, append_assoc}
use Prim.Native.Nat.{ℕ, suc, ◌+◌, ◌*◌, ◌≤◌, ◌<◌}
use native.Mathlib.Omega.{arith}
use lib.ListN.{length, length-append, set}
use lib.Seq.{sets}
use Rattle.language.specs.Core as C
use Rattle.grammar.proofs.FlatLaws.{Linear, both}
use Rattle.flat.specs.Items.{Kind, Item}
use Rattle.flat.specs.Items as I
use Rattle.flat.specs.Statements.{Stmt, Block, flats}
use Rattle.flat.specs.Statements as S
use Rattle.flat.specs.Words.{kind_words, items_words, header, count, rest_length, block_length, stmt_words, block_words, entries, bodies, entry, words_then, words_of}
use Rattle.rules.proofs.Stacks.{sets_append, set_before}
use Rattle.rules.proofs.Extents.{flat_block}
use Rattle.declarations.specs.Post.{entry_of, body_of}

-- Statements and blocks

kind_linear : (k : Kind) (c : ℕ) → Linear (kind_words k c)
unfolding kind_words
kind_linear (I.number n) c m = refl
kind_linear (I.local x) c m = refl
kind_linear (I.element a) c m = refl
kind_linear (I.call f n) c m = refl
kind_linear (I.unary o) c m = refl
kind_linear (I.strict o) c m = refl
kind_linear (I.and n) c m = refl
kind_linear (I.or n) c m = refl
kind_linear I.join c m = refl
kind_linear I.unknown c m = refl

items_linear : (is : List Item) → Linear (items_words is)
unfolding items_words
items_linear [] m = refl
items_linear (i ∷ is) m = both (kind_words i.kind i.charge) (items_words is) (kind_linear i.kind i.charge) (items_linear is) m

mutual
  unfolding stmt_words block_words

  stmt_linear : (s : Stmt) (n : ℕ) → Linear (stmt_words s n)
  stmt_linear (S.put x is) n m = ap (header 0 x 0 (length is) 0 0 0 n) (items_linear is m)
  stmt_linear (S.store a is js) n m = ap (header 1 a.offset a.size (length is) (length js) 0 0 n) (both (items_words is) (items_words js) (items_linear is) (items_linear js) m)
  stmt_linear (S.choose is a b) n m =
      ap (header 2 (block_length a) 0 (length is) 0 (count a) (count b) n)
      (both (items_words is) (λ w. block_words a (block_words b w)) (items_linear is) (both (block_words a) (block_words b) (λ w. block_linear a w) (λ w. block_linear b w)) m)
  stmt_linear (S.while is b) n m = ap (header 3 0 0 (length is) 0 (count b) 0 n) (both (items_words is) (block_words b) (items_linear is) (λ w. block_linear b w) m)
  stmt_linear S.leave n m = refl
  stmt_linear (S.give is) n m = ap (header 5 0 0 (length is) 0 0 0 n) (items_linear is m)
  stmt_linear (S.emit is) n m = ap (header 6 0 0 (length is) 0 0 0 n) (items_linear is m)
  stmt_linear (S.run is) n m = ap (header 7 0 0 (length is) 0 0 0 n) (items_linear is m)
  stmt_linear S.unknown n m = refl

  block_linear : (b : Block) → Linear (block_words b)
  block_linear S.end m = refl
  block_linear (S.then s b) m = both (stmt_words s (rest_length s)) (block_words b) (λ w. stmt_linear s (rest_length s) w) (λ w. block_linear b w) m

-- Functions

bodies_linear : (fs : List C.Function) → Linear (bodies fs)
unfolding bodies
bodies_linear [] m = refl
bodies_linear (f ∷ fs) m = both (block_words (flats f.body)) (bodies fs) (block_linear (flats f.body)) (bodies_linear fs) m

entries_linear : (fs : List C.Function) (place : ℕ) → Linear (entries fs place)
unfolding entries
entries_linear [] place m = refl
entries_linear (f ∷ fs) place m = ap (λ (w : List ℕ). place ∷ count (flats f.body) ∷ f.parameters ∷ f.lets ∷ w) (entries_linear fs (place + block_length (flats f.body)) m)

entries_length : (fs : List C.Function) (place : ℕ) → length (entries fs place []) ≡ 4 * length fs
unfolding entries
entries_length [] place = refl
entries_length (f ∷ fs) place = omega (arith, entries_length fs (place + block_length (flats f.body)))

-- one function more

bodies_more : (fs : List C.Function) (f : C.Function) → bodies (fs ++ (f ∷ [])) [] ≡ bodies fs [] ++ body_of f
unfolding bodies
bodies_more [] f = refl
bodies_more (g ∷ fs) f = ap (block_words (flats g.body)) (bodies_more fs f) ∙ (block_linear (flats g.body) (bodies fs [] ++ body_of f) ∙ (sym (append_assoc (body_of g) (bodies fs []) (body_of f)) ∙ ap (λ (w : List ℕ). w ++ body_of f) (sym (block_linear (flats g.body) (bodies fs [])))))

bodies_length : (f : C.Function) (fs : List C.Function) → length (bodies (f ∷ fs) []) ≡ block_length (flats f.body) + length (bodies fs [])
unfolding bodies
bodies_length f fs = flat_block (flats f.body) (bodies fs [])

entries_more : (fs : List C.Function) (f : C.Function) (place : ℕ) → entries (fs ++ (f ∷ [])) place [] ≡ entries fs place [] ++ entry_of f (place + length (bodies fs []))
unfolding entries bodies
entries_more [] f place = ap (entry_of f) {x = place} {y = place + 0} (omega arith)
entries_more (g ∷ fs) f place =
    ap (λ (w : List ℕ). place ∷ count (flats g.body) ∷ g.parameters ∷ g.lets ∷ w)
    (entries_more fs f (place + block_length (flats g.body)) ∙ ap (λ (n : ℕ). entries fs (place + block_length (flats g.body)) [] ++ entry_of f n) (omega (arith, bodies_length g fs)))

-- Two rows: entries from 3 on, bodies from further on

sets_below : (l : List ℕ) (p q : ℕ) (c h : List ℕ) → q + length h ≤ p → sets (sets l p c) q h ≡ sets (sets l q h) p c
sets_below l p q c [] k = refl
sets_below l p q c (x ∷ h) k = ap (λ (w : List ℕ). sets w (suc q) h) (set_before l p q x c (omega (arith, k))) ∙ sets_below (set l q x) p (suc q) c h (omega (arith, k))

two_rows : (c : List ℕ) (a q : ℕ) (u v x y : List ℕ) → a + length u + length x ≤ q → sets (sets (sets (sets c a u) q v) (q + length v) y) (a + length u) x ≡ sets (sets c a (u ++ x)) q (v ++ y)
two_rows c a q u v x y l =
    ap (λ (w : List ℕ). sets w (a + length u) x) (sets_append (sets c a u) q v y) ∙ (sets_below (sets c a u) q (a + length u) (v ++ y) x l ∙ ap (λ (w : List ℕ). sets w q (v ++ y)) (sets_append c a u x))

-- where the entry of one function more goes
entry_place : (done : List C.Function) (place : ℕ) → entry (length done) ≡ 3 + length (entries done place [])
entry_place done place = omega (arith, entries_length done place)

-- one function more in both rows
pub row_more : (core : List ℕ) {core₁ core₂ : List ℕ} (done : List C.Function) (f : C.Function) (total : ℕ) → length done < total →
    core₁ ≡ sets (sets core 3 (entries done (entry total) [])) (entry total) (bodies done []) →
    core₂ ≡ sets (sets core₁ (entry total + length (bodies done [])) (body_of f)) (entry (length done)) (entry_of f (entry total + length (bodies done []))) →
    core₂ ≡ sets (sets core 3 (entries (done ++ (f ∷ [])) (entry total) [])) (entry total) (bodies (done ++ (f ∷ [])) [])
row_more core {core₁} {core₂} done f total l c d = go (entry_of f (entry total + length (bodies done []))) refl
  where
    go : (x : List ℕ) → x ≡ entry_of f (entry total + length (bodies done [])) → core₂ ≡ sets (sets core 3 (entries (done ++ (f ∷ [])) (entry total) [])) (entry total) (bodies (done ++ (f ∷ [])) [])
    go x e =
        let size : length x ≡ 4 = ap length e in
        d ∙ (ap (λ (w : List ℕ). sets (sets core₁ (entry total + length (bodies done [])) (body_of f)) (entry (length done)) w) (sym e) ∙
        (ap (λ (w : List ℕ). sets (sets w (entry total + length (bodies done [])) (body_of f)) (entry (length done)) x) c ∙
        (ap (λ (n : ℕ). sets (sets (sets (sets core 3 (entries done (entry total) [])) (entry total) (bodies done [])) (entry total + length (bodies done [])) (body_of f)) n x) (entry_place done (entry total)) ∙
        (two_rows core 3 (entry total) (entries done (entry total) []) (bodies done []) x (body_of f) (omega (arith, size, l, entries_length done (entry total))) ∙
        (ap (λ (w : List ℕ). sets (sets core 3 w) (entry total) (bodies done [] ++ body_of f)) (ap (λ (w : List ℕ). entries done (entry total) [] ++ w) e ∙ sym (entries_more done f (entry total))) ∙
        ap (λ (w : List ℕ). sets (sets core 3 (entries (done ++ (f ∷ [])) (entry total) [])) (entry total) w) (sym (bodies_more done f)))))))

pub bodies_on : (done : List C.Function) (f : C.Function) → length (bodies (done ++ (f ∷ [])) []) ≡ length (bodies done []) + block_length (flats f.body)
bodies_on done f = ap length (bodies_more done f) ∙ (length-append (bodies done []) (body_of f) ∙ omega (arith, flat_block (flats f.body) []))

three_parts : (c : List ℕ) (h u v : List ℕ) (i j : ℕ) → i ≡ length h → j ≡ i + length u → sets (sets (sets c 0 h) i u) j v ≡ sets c 0 (h ++ (u ++ v))
three_parts c h u v i j e f =
    ap (λ (n : ℕ). sets (sets (sets c 0 h) i u) n v) f ∙ (sets_append (sets c 0 h) i u v ∙ (ap (λ (n : ℕ). sets (sets c 0 h) n (u ++ v)) {x = i} {y = 0 + length h} (omega (arith, e)) ∙ sets_append c 0 h (u ++ v)))

header_of : C.Program → List ℕ
header_of p = length p.functions ∷ p.main ∷ p.elements ∷ []

words_are : (p : C.Program) → words_of p ≡ header_of p ++ (entries p.functions (entry (length p.functions)) [] ++ bodies p.functions [])
unfolding words_of words_then header_of
words_are p = ap (λ (w : List ℕ). length p.functions ∷ p.main ∷ p.elements ∷ w) (entries_linear p.functions (entry (length p.functions)) (bodies p.functions []))

-- the header and both rows, which meet, are the program
module _ (core : List ℕ) (fs : List C.Function) (main elements total : ℕ) (n : length fs ≡ total) where
  abbrev program : C.Program
  program = record { functions = fs; main = main; elements = elements }

  pub program_there : {core₁ core₂ : List ℕ} → core₁ ≡ sets core 0 (total ∷ main ∷ elements ∷ []) →
      core₂ ≡ sets (sets core₁ 3 (entries fs (entry total) [])) (entry total) (bodies fs []) → core₂ ≡ sets core 0 (words_of program)
  unfolding header_of
  program_there {core₁} {core₂} c d =
      d ∙ (ap (λ (w : List ℕ). sets (sets w 3 (entries fs (entry total) [])) (entry total) (bodies fs [])) c ∙
      (rw (← n) (three_parts core (header_of program) (entries fs (entry (length fs)) []) (bodies fs []) 3 (entry (length fs)) refl (omega (arith, entries_length fs (entry (length fs))))) ∙ ap (sets core 0) (sym (words_are program))))

  pub program_length : entry total + length (bodies fs []) ≡ length (words_of program)
  unfolding header_of
  program_length =
      sym (ap length (words_are program) ∙ omega (arith, n, length-append (entries fs (entry (length fs)) []) (bodies fs []), entries_length fs (entry (length fs))))
