-- The words of a block's flat form stand where they are written.
use Prim.Native.Nat.{ℕ, suc, ◌+◌, ◌*◌, ◌≤◌}
use native.Mathlib.Omega.{arith}
use mathlib.Core.Path.{◌≡◌, refl, sym, ap, ◌∙◌, subst, subst⁻¹}
use mathlib.Core.List.{List, [], ◌∷◌}
use lib.ListN.{length, length-drop}
use Rattle.language.specs.Core.{Expr, Args, Stmt, Block}
use Rattle.language.specs.Core as C
use Rattle.flat.specs.Items.{Item, code, codes, size, sizes}
use Rattle.flat.specs.Items as I
use Rattle.flat.specs.Statements.{flat, flats}
use Rattle.flat.specs.Statements as S
use Rattle.flat.specs.Words.{word, kind_words, items_words, items_length, count, rest_length, block_length, stmt_words, block_words}
use Rattle.flat.proofs.Decode.{Past, onward, past_stmt, past_block, past_header}
use Rattle.compiler.specs.Lies.{Lies}
use Rattle.compiler.specs.Standing.{first_end, second_end, behind, second_block, Standing, put, store, choose, while, leave, give, emit, run, Stand, end, then}
use Rattle.compiler.proofs.Written.{Stands, stands, stand_all, call_stands, at}

-- how many items there are
mutual
  unfolding code codes size sizes

  items_many : (e : Expr) (k : ℕ) (is : List Item) → length (code e k is) ≡ size e + length is
  items_many (C.number n) k is = omega arith
  items_many (C.local x) k is = omega arith
  items_many (C.element a i) k is = omega (arith, items_many i (suc k) (I.item 0 (I.element a) ∷ is))
  items_many (C.call f xs) k is = args_many xs f 0 (suc k) is
  items_many (C.unary o a) k is = omega (arith, items_many a (suc k) (I.item 0 (I.unary o) ∷ is))
  items_many (C.strict o a b) k is =
      omega (arith, items_many a (suc k) (code b 0 (I.item 0 (I.strict o) ∷ is)), items_many b 0 (I.item 0 (I.strict o) ∷ is))
  items_many (C.and a b) k is =
      omega (arith, items_many a (suc k) (I.item 0 (I.and (size b)) ∷ code b 0 (I.item 0 I.join ∷ is)), items_many b 0 (I.item 0 I.join ∷ is))
  items_many (C.or a b) k is =
      omega (arith, items_many a (suc k) (I.item 0 (I.or (size b)) ∷ code b 0 (I.item 0 I.join ∷ is)), items_many b 0 (I.item 0 I.join ∷ is))

  args_many : (xs : Args) (f n k : ℕ) (is : List Item) → length (codes xs f n k is) ≡ sizes xs + length is
  args_many C.none f n k is = omega arith
  args_many (C.more e xs) f n k is = omega (arith, items_many e k (codes xs f (suc n) 0 is), args_many xs f (suc n) 0 is)

-- the words of a header
record Header (ws us : List ℕ) (p k a b n₁ n₂ s₁ s₂ n : ℕ) : Type 0 where
  kind : word ws p ≡ k
  one : word ws (p + 1) ≡ a
  two : word ws (p + 2) ≡ b
  first : word ws (p + 3) ≡ n₁
  second : word ws (p + 4) ≡ n₂
  count₁ : word ws (p + 5) ≡ s₁
  count₂ : word ws (p + 6) ≡ s₂
  long : word ws (p + 7) ≡ n
  rest : Past (p + 8) ws us
  inside : p + 8 ≤ length ws

header_at : {ws us : List ℕ} {p k a b n₁ n₂ s₁ s₂ n : ℕ} → Past p ws (k ∷ a ∷ b ∷ n₁ ∷ n₂ ∷ s₁ ∷ s₂ ∷ n ∷ us) → Header ws us p k a b n₁ n₂ s₁ s₂ n
header_at {ws} {us} {p} {k} {a} {b} {n₁} {n₂} {s₁} {s₂} {n} h =
    let all : List ℕ = k ∷ a ∷ b ∷ n₁ ∷ n₂ ∷ s₁ ∷ s₂ ∷ n ∷ us in
    record {
      kind = at ws all p 0 p h (omega arith);
      one = at ws all p 1 (p + 1) h (omega arith);
      two = at ws all p 2 (p + 2) h (omega arith);
      first = at ws all p 3 (p + 3) h (omega arith);
      second = at ws all p 4 (p + 4) h (omega arith);
      count₁ = at ws all p 5 (p + 5) h (omega arith);
      count₂ = at ws all p 6 (p + 6) h (omega arith);
      long = at ws all p 7 (p + 7) h (omega arith);
      rest = onward h past_header;
      inside = omega (arith, length-drop p ws, ap length h.is);
    }

-- how many words there are

kind_long : (k : I.Kind) (c : ℕ) (more : List ℕ) → length (kind_words k c more) ≡ 4 + length more
unfolding kind_words
kind_long (I.number n) c more = omega arith
kind_long (I.local x) c more = omega arith
kind_long (I.element a) c more = omega arith
kind_long (I.call f n) c more = omega arith
kind_long (I.unary o) c more = omega arith
kind_long (I.strict o) c more = omega arith
kind_long (I.and n) c more = omega arith
kind_long (I.or n) c more = omega arith
kind_long I.join c more = omega arith
kind_long I.unknown c more = omega arith

items_long : (is : List Item) (more : List ℕ) → length (items_words is more) ≡ items_length is + length more
unfolding items_words
items_long [] more = omega arith
items_long (i ∷ is) more = omega (arith, kind_long i.kind i.charge (items_words is more), items_long is more)

mutual
  unfolding stmt_words rest_length

  stmt_long : (s : S.Stmt) (n : ℕ) (more : List ℕ) → length (stmt_words s n more) ≡ 8 + rest_length s + length more
  stmt_long (S.put x is) n more = omega (arith, items_long is more)
  stmt_long (S.store a is js) n more = omega (arith, items_long is (items_words js more), items_long js more)
  stmt_long (S.choose is a b) n more = omega (arith, items_long is (block_words a (block_words b more)), block_long a (block_words b more), block_long b more)
  stmt_long (S.while is b) n more = omega (arith, items_long is (block_words b more), block_long b more)
  stmt_long S.leave n more = omega arith
  stmt_long (S.give is) n more = omega (arith, items_long is more)
  stmt_long (S.emit is) n more = omega (arith, items_long is more)
  stmt_long (S.run is) n more = omega (arith, items_long is more)
  stmt_long S.unknown n more = omega arith

  pub block_long : (b : S.Block) (more : List ℕ) → length (block_words b more) ≡ block_length b + length more
  block_long S.end more = omega arith
  block_long (S.then s b) more = omega (arith, stmt_long s (rest_length s) (block_words b more), block_long b more)

-- a statement's last header word says how far it goes
long_word : (s : S.Stmt) (n : ℕ) (more : List ℕ) → word (stmt_words s n more) 7 ≡ n
unfolding stmt_words
long_word (S.put x is) n more = refl
long_word (S.store a is js) n more = refl
long_word (S.choose is a b) n more = refl
long_word (S.while is b) n more = refl
long_word S.leave n more = refl
long_word (S.give is) n more = refl
long_word (S.emit is) n more = refl
long_word (S.run is) n more = refl
long_word S.unknown n more = refl

-- what is written from i on, of n words and more, is inside
within : (n k : ℕ) {ws us : List ℕ} {i : ℕ} → i ≤ length ws → Past i ws us → length us ≡ n + k → i + n ≤ length ws
within n k {ws} {us} {i} h p e = omega (arith, length-drop i ws, ap length p.is)

-- an expression that is written from i on
record Expression (ws us : List ℕ) (e : Expr) (i j : ℕ) : Type 0 where
  lies : Lies ws e i j
  rest : Past j ws us
  inside : j ≤ length ws

until : {ws us : List ℕ} {e : Expr} {i j : ℕ} → (s : Stands ws us e i) → s.end ≡ j → j ≤ length ws → Expression ws us e i j
until {ws} {us} {e} {i} {j} s h l = record { lies = subst (λ (m : ℕ). Lies ws e i m) h s.lies; rest = subst (λ (m : ℕ). Past m ws us) h s.rest; inside = l }

expression : (e : Expr) (us : List ℕ) {ws : List ℕ} {i : ℕ} (n : ℕ) → i ≤ length ws → Past i ws (items_words (code e 0 []) us) → n ≡ length (code e 0 []) → Expression ws us e i (i + 4 * n)
unfolding items_words
expression e us {ws} {i} n h p m =
    let s : Stands ws us e i = stands e 0 [] us p in
    until s (omega (arith, s.span, m, items_many e 0 [])) (within (4 * n) (length us) h p (items_long (code e 0 []) us ∙ ap (λ (k : ℕ). 4 * k + length us) (sym m)))

-- arguments and their call
arguments : (f : ℕ) (xs : Args) (us : List ℕ) {ws : List ℕ} {i : ℕ} (n : ℕ) → i ≤ length ws → Past i ws (items_words (codes xs f 0 0 []) us) → n ≡ length (codes xs f 0 0 []) →
    Expression ws us (C.call f xs) i (i + 4 * n)
unfolding items_words size
arguments f xs us {ws} {i} n h p m =
    let s : Stands ws us (C.call f xs) i = call_stands (stand_all xs f 0 0 [] us p) in
    until s (omega (arith, s.span, m, args_many xs f 0 0 [])) (within (4 * n) (length us) h p (items_long (codes xs f 0 0 []) us ∙ ap (λ (k : ℕ). 4 * k + length us) (sym m)))

counted : {ws : List ℕ} {b : Block} {p n m : ℕ} → Stand ws b p n → m ≡ n → Stand ws b p m
counted {ws} {b} {p} s e = subst⁻¹ (λ (k : ℕ). Stand ws b p k) e s

mutual
  unfolding flat flats stmt_words count

  standing : (s : Stmt) (n : ℕ) (more : List ℕ) {ws : List ℕ} {p : ℕ} → length ws ≤ 1073741824 → Past p ws (stmt_words (flat s) n more) → Standing ws s p
  standing (C.put x e) n more {ws} {p} l h =
      let g : Header ws (items_words (code e 0 []) more) p 0 x 0 (length (code e 0 [])) 0 0 0 n = header_at h in
      let y : Expression ws more e (p + 8) (first_end ws p) = expression e more (word ws (p + 3)) g.inside g.rest g.first in
      put g.kind g.one (omega (arith, y.inside)) y.lies
  standing (C.store a i e) n more {ws} {p} l h =
      let g : Header ws (items_words (code i 0 []) (items_words (code e 0 []) more)) p 1 a.offset a.size (length (code i 0 [])) (length (code e 0 [])) 0 0 n = header_at h in
      let y : Expression ws (items_words (code e 0 []) more) i (p + 8) (first_end ws p) = expression i (items_words (code e 0 []) more) (word ws (p + 3)) g.inside g.rest g.first in
      let z : Expression ws more e (first_end ws p) (second_end ws p) = expression e more (word ws (p + 4)) y.inside y.rest g.second in
      store g.kind g.one g.two (omega (arith, z.inside)) y.lies z.lies
  standing (C.choose e a b) n more {ws} {p} l h =
      let us : List ℕ = block_words (flats a) (block_words (flats b) more) in
      let g : Header ws (items_words (code e 0 []) us) p 2 (block_length (flats a)) 0 (length (code e 0 [])) 0 (count (flats a)) (count (flats b)) n = header_at h in
      let y : Expression ws us e (p + 8) (first_end ws p) = expression e us (word ws (p + 3)) g.inside g.rest g.first in
      let q : Past (second_block ws p) ws (block_words (flats b) more) = subst⁻¹ (λ (m : ℕ). Past (first_end ws p + m) ws (block_words (flats b) more)) g.one (onward y.rest (past_block (flats a) (block_words (flats b) more))) in
      choose g.kind (omega (arith, within (block_length (flats a)) (length (block_words (flats b) more)) y.inside y.rest (block_long (flats a) (block_words (flats b) more)), g.one)) y.lies
      (counted (stand a (block_words (flats b) more) l y.rest) g.count₁) (counted (stand b more l q) g.count₂)
  standing (C.while e b) n more {ws} {p} l h =
      let us : List ℕ = block_words (flats b) more in
      let g : Header ws (items_words (code e 0 []) us) p 3 0 0 (length (code e 0 [])) 0 (count (flats b)) 0 n = header_at h in
      let y : Expression ws us e (p + 8) (first_end ws p) = expression e us (word ws (p + 3)) g.inside g.rest g.first in
      while g.kind (omega (arith, y.inside)) y.lies (counted (stand b more l y.rest) g.count₁)
  standing C.leave n more {ws} {p} l h =
      let g : Header ws more p 4 0 0 0 0 0 0 n = header_at h in
      leave g.kind
  standing (C.give e) n more {ws} {p} l h =
      let g : Header ws (items_words (code e 0 []) more) p 5 0 0 (length (code e 0 [])) 0 0 0 n = header_at h in
      let y : Expression ws more e (p + 8) (first_end ws p) = expression e more (word ws (p + 3)) g.inside g.rest g.first in
      give g.kind (omega (arith, y.inside)) y.lies
  standing (C.emit e) n more {ws} {p} l h =
      let g : Header ws (items_words (code e 0 []) more) p 6 0 0 (length (code e 0 [])) 0 0 0 n = header_at h in
      let y : Expression ws more e (p + 8) (first_end ws p) = expression e more (word ws (p + 3)) g.inside g.rest g.first in
      emit g.kind (omega (arith, y.inside)) y.lies
  standing (C.run f xs) n more {ws} {p} l h =
      let g : Header ws (items_words (codes xs f 0 0 []) more) p 7 0 0 (length (codes xs f 0 0 [])) 0 0 0 n = header_at h in
      let y : Expression ws more (C.call f xs) (p + 8) (first_end ws p) = arguments f xs more (word ws (p + 3)) g.inside g.rest g.first in
      run g.kind (omega (arith, y.inside)) y.lies

  pub stand : (b : Block) (more : List ℕ) {ws : List ℕ} {p : ℕ} → length ws ≤ 1073741824 → Past p ws (block_words (flats b) more) → Stand ws b p (count (flats b))
  stand C.end more l h = end refl
  stand (C.then s b) more {ws} {p} l h =
      let us : List ℕ = block_words (flats b) more in
      let g : word ws (p + 7) ≡ rest_length (flat s) = at ws (stmt_words (flat s) (rest_length (flat s)) us) p 7 (p + 7) h refl ∙ long_word (flat s) (rest_length (flat s)) us in
      let q : Past (p + (8 + rest_length (flat s))) ws us = onward h (past_stmt (flat s) (rest_length (flat s)) us) in
      then {p = p} refl (omega (arith, length-drop p ws, ap length h.is, stmt_long (flat s) (rest_length (flat s)) us)) (standing s (rest_length (flat s)) us l h)
      (stand b more l (subst (λ (m : ℕ). Past m ws us) {x = p + (8 + rest_length (flat s))} {y = behind ws p} (omega (arith, g)) q))
