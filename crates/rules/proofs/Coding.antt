-- Items written one after the other are the items of the expression, and a charge added at its first item is a node that begins there.
use mathlib.Core.Path.{◌≡◌, refl, sym, ap, ◌∙◌}
use mathlib.Core.List.{List, [], ◌∷◌, ◌++◌, append_assoc}
use Prim.Native.Nat.{ℕ, suc, ◌+◌, ◌<◌, ◌≤◌, ◌^◌}
use native.Mathlib.Omega.{arith}
use native.Mathlib.Nat.{suc-add, zero-add}
use lib.ListN.{length, set}
use lib.Seq.{get_or-append-add}
use Rattle.word.specs.Word.{add_w}
use Rattle.language.specs.Core as C
use Rattle.flat.specs.Items.{Item, item, Kind, number, local, element, call, unary, strict, and, or, join, unknown, size, sizes, code, codes}
use Rattle.flat.specs.Words.{kind_words, items_words}
use Rattle.rules.specs.Scan.{charged}

kind_linear : (k : Kind) (c : ℕ) (us vs : List ℕ) → kind_words k c (us ++ vs) ≡ kind_words k c us ++ vs
unfolding kind_words
kind_linear (number n) c us vs = refl
kind_linear (local x) c us vs = refl
kind_linear (element a) c us vs = refl
kind_linear (call f n) c us vs = refl
kind_linear (unary o) c us vs = refl
kind_linear (strict o) c us vs = refl
kind_linear (and n) c us vs = refl
kind_linear (or n) c us vs = refl
kind_linear join c us vs = refl
kind_linear unknown c us vs = refl

pub items_append : (is js : List Item) → items_words (is ++ js) [] ≡ items_words is [] ++ items_words js []
unfolding items_words
items_append [] js = refl
items_append (i ∷ is) js = ap (kind_words i.kind i.charge) (items_append is js) ∙ kind_linear i.kind i.charge (items_words is []) (items_words js [])

mutual
  unfolding code

  pub code_append : (e : C.Expr) (k : ℕ) (is js : List Item) → code e k (is ++ js) ≡ code e k is ++ js
  code_append (C.number n) k is js = refl
  code_append (C.local x) k is js = refl
  code_append (C.element a i) k is js = code_append i (suc k) (item 0 (element a) ∷ is) js
  code_append (C.call f xs) k is js = codes_append xs f 0 (suc k) is js
  code_append (C.unary o a) k is js = code_append a (suc k) (item 0 (unary o) ∷ is) js
  code_append (C.strict o a b) k is js = ap (code a (suc k)) (code_append b 0 (item 0 (strict o) ∷ is) js) ∙ code_append a (suc k) (code b 0 (item 0 (strict o) ∷ is)) js
  code_append (C.and a b) k is js =
      ap (λ (us : List Item). code a (suc k) (item 0 (and (size b)) ∷ us)) (code_append b 0 (item 0 join ∷ is) js) ∙ code_append a (suc k) (item 0 (and (size b)) ∷ code b 0 (item 0 join ∷ is)) js
  code_append (C.or a b) k is js =
      ap (λ (us : List Item). code a (suc k) (item 0 (or (size b)) ∷ us)) (code_append b 0 (item 0 join ∷ is) js) ∙ code_append a (suc k) (item 0 (or (size b)) ∷ code b 0 (item 0 join ∷ is)) js

  pub codes_append : (xs : C.Args) (f n k : ℕ) (is js : List Item) → codes xs f n k (is ++ js) ≡ codes xs f n k is ++ js
  codes_append C.none f n k is js = refl
  codes_append (C.more e xs) f n k is js = ap (code e k) (codes_append xs f (suc n) 0 is js) ∙ code_append e k (codes xs f (suc n) 0 is) js

set_add : (xs ys : List ℕ) (n a : ℕ) → set (xs ++ ys) (length xs + n) a ≡ xs ++ set ys n a
set_add [] ys n a = ap (λ (j : ℕ). set ys j a) (zero-add n)
set_add (x ∷ xs) ys n a = ap (λ (j : ℕ). set (x ∷ (xs ++ ys)) j a) (suc-add (length xs) n) ∙ ap (λ (l : List ℕ). x ∷ l) (set_add xs ys n a)

small : (c n : ℕ) → c + n < 2 ^ 32 → add_w c n ≡ c + n
unfolding add_w
small c n h = omega (arith, h)

-- the charge of the item after ws
pub charged_here : (ws : List ℕ) (k c n j : ℕ) (more : List ℕ) → j ≡ c + n → c + n < 2 ^ 32 → charged n (length ws) (ws ++ k ∷ c ∷ more) ≡ ws ++ k ∷ j ∷ more
unfolding charged
charged_here ws k c n j more e h =
    rw (get_or-append-add ws (k ∷ c ∷ more) 1 0, small c n h, set_add ws (k ∷ c ∷ more) 1 (c + n), e) refl

some_item : (xs : C.Args) → 1 ≤ sizes xs
unfolding sizes
some_item C.none = omega arith
some_item (C.more e xs) = omega (arith, some_item xs)

mutual
  unfolding code size items_words kind_words

  pub charged_code : (e : C.Expr) (ws : List ℕ) (k n j : ℕ) (is : List Item) → j ≡ k + n → k + size e + n < 2 ^ 32 → charged n (length ws) (ws ++ items_words (code e k is) []) ≡ ws ++ items_words (code e j is) []
  charged_code (C.number x) ws k n j is e h = charged_here ws 0 (suc k) n (suc j) _ (omega (arith, e)) (omega (arith, h))
  charged_code (C.local x) ws k n j is e h = charged_here ws 1 (suc k) n (suc j) _ (omega (arith, e)) (omega (arith, h))
  charged_code (C.element a i) ws k n j is e h = charged_code i ws (suc k) n (suc j) _ (omega (arith, e)) (omega (arith, h))
  charged_code (C.call f xs) ws k n j is e h = charged_codes xs f 0 ws (suc k) n (suc j) is (omega (arith, e)) (omega (arith, h))
  charged_code (C.unary o a) ws k n j is e h = charged_code a ws (suc k) n (suc j) _ (omega (arith, e)) (omega (arith, h))
  charged_code (C.strict o a b) ws k n j is e h = charged_code a ws (suc k) n (suc j) _ (omega (arith, e)) (omega (arith, h))
  charged_code (C.and a b) ws k n j is e h = charged_code a ws (suc k) n (suc j) _ (omega (arith, e)) (omega (arith, h))
  charged_code (C.or a b) ws k n j is e h = charged_code a ws (suc k) n (suc j) _ (omega (arith, e)) (omega (arith, h))

  pub charged_codes : (xs : C.Args) (f i : ℕ) (ws : List ℕ) (k n j : ℕ) (is : List Item) → j ≡ k + n → k + sizes xs + n ≤ 2 ^ 32 → charged n (length ws) (ws ++ items_words (codes xs f i k is) []) ≡ ws ++ items_words (codes xs f i j is) []
  charged_codes C.none f i ws k n j is e h = charged_here ws 3 k n j _ e (omega (arith, h))
  charged_codes (C.more x xs) f i ws k n j is e h = charged_code x ws k n j _ e (omega (arith, h, some_item xs))

-- what stands after an expression is written, and its first item is charged
pub grown : (e : C.Expr) (ws : List ℕ) (n : ℕ) (js is : List Item) → size e + n < 2 ^ 32 →
    charged n (length ws) ((ws ++ items_words (code e 0 js) []) ++ items_words is []) ≡ ws ++ items_words (code e n (js ++ is)) []
grown e ws n js is h =
    ap (charged n (length ws)) (append_assoc ws (items_words (code e 0 js) []) (items_words is []) ∙ ap (λ (us : List ℕ). ws ++ us) (sym (items_append (code e 0 js) is) ∙ ap (λ (us : List Item). items_words us []) (sym (code_append e 0 js is)))) ∙
    charged_code e ws 0 n n (js ++ is) (omega arith) (omega (arith, h))
