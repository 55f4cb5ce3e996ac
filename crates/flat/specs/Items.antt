-- The flat form of an expression: one item for each node, operands before what is done with them, so that one scan forward with a stack of
-- operands evaluates it. A node costs fuel when it begins, and that is before its operands: so an item carries a charge, the number of nodes
-- that begin just before it, which are all the nodes whose leftmost leaf it is.
use Rattle.std.specs.Prelude.{List, [], ◌∷◌, ℕ, zero, suc, ◌+◌, ltb, length, get_or, drop}
use Rattle.word.specs.Choice.{pick}
use Rattle.language.specs.Tree.{Unary, Strict}
use Rattle.language.specs.Core.{Array, Expr, Args}
use Rattle.language.specs.Core as C
use Rattle.language.specs.Meaning.{Act, ◌>>=◌, ◌>>◌, value, trap, begin, branch, apply, operate, read, fetch}

-- What an item does. `and n` and `or n` stand between the two sides: where the left side decides, its n items on the right are skipped, up to `join`,
-- where both ways meet. `call f n` calls function f with the n uppermost operands. `unknown` is what no expression has.
pub data Kind : Type 0 where
  number : ℕ → Kind
  local : ℕ → Kind
  element : Array → Kind
  call : ℕ → ℕ → Kind
  unary : Unary → Kind
  strict : Strict → Kind
  and : ℕ → Kind
  or : ℕ → Kind
  join : Kind
  unknown : Kind

pub record Item : Type 0 where
  pub charge : ℕ
  pub kind : Kind

abbrev pub item : ℕ → Kind → Item
item c k = record { charge = c; kind = k }

-- how many items an expression has; of arguments, with their call
unfoldable mutual
  pub size : Expr → ℕ
  size (C.number n) = 1
  size (C.local x) = 1
  size (C.element a i) = size i + 1
  size (C.call f xs) = sizes xs
  size (C.unary o a) = size a + 1
  size (C.strict o a b) = size a + (size b + 1)
  size (C.and a b) = size a + (1 + (size b + 1))
  size (C.or a b) = size a + (1 + (size b + 1))

  pub sizes : Args → ℕ
  sizes C.none = 1
  sizes (C.more e xs) = size e + sizes xs

-- An expression's items, where k nodes begin just before it, and what follows them.
unfoldable mutual
  pub code : Expr → ℕ → List Item → List Item
  code (C.number n) k is = item (suc k) (number n) ∷ is
  code (C.local x) k is = item (suc k) (local x) ∷ is
  code (C.element a i) k is = code i (suc k) (item 0 (element a) ∷ is)
  code (C.call f xs) k is = codes xs f 0 (suc k) is
  code (C.unary o a) k is = code a (suc k) (item 0 (unary o) ∷ is)
  code (C.strict o a b) k is = code a (suc k) (code b 0 (item 0 (strict o) ∷ is))
  code (C.and a b) k is = code a (suc k) (item 0 (and (size b)) ∷ code b 0 (item 0 join ∷ is))
  code (C.or a b) k is = code a (suc k) (item 0 (or (size b)) ∷ code b 0 (item 0 join ∷ is))

  -- the arguments that are still to come, after n of them, and then the call of f
  pub codes : Args → ℕ → ℕ → ℕ → List Item → List Item
  codes C.none f n k is = item k (call f n) ∷ is
  codes (C.more e xs) f n k is = code e k (codes xs f (suc n) 0 is)

-- The scan

-- How a run of words that are no program's stops. No trap of document 01 has this number.
abbrev pub malformed : ℕ
malformed = 0

-- The room for operands. Document 01 §3 lets 32 brackets be open; between one and the next at most three operators of rising level wait for
-- their right side, and before an argument at most seven others do: 32 * 10, and 4 innermost.
abbrev pub most_operands : ℕ
most_operands = 324

-- n nodes begin
unfoldable pub begins : ℕ → Act (Unit {0})
begins zero = value tt
begins (suc n) = do
  begins n
  begin

-- the uppermost operand
abbrev pub top : List ℕ → ℕ
top vs = get_or vs 0 0

-- the n uppermost operands in the order in which they came, and then more
unfoldable pub popped : ℕ → List ℕ → List ℕ → List ℕ
popped zero vs more = more
popped (suc n) [] more = popped n [] (0 ∷ more)
popped (suc n) (v ∷ vs) more = popped n vs (v ∷ more)

-- what follows an item: how many items to skip, and the operands
abbrev pub Onward : Type 0
Onward = ℕ → List ℕ → Act ℕ

unfoldable pub push : List ℕ → Onward → ℕ → Act ℕ
push vs k v = pick (ltb (length vs) most_operands) (k 0 (v ∷ vs)) (trap malformed)

-- `invoke f vs` is a call of function f with the values vs
module _ (invoke : ℕ → List ℕ → Act ℕ) where
  unfoldable pub step : Kind → List ℕ → Onward → Act ℕ
  step (number n) vs k = push vs k n
  step (local x) vs k = do
    v ← fetch x
    push vs k v
  step (element a) vs k = do
    v ← read a (top vs)
    push (drop 1 vs) k v
  step (call f n) vs k = pick (ltb (length vs) n) (trap malformed) (do
    v ← invoke f (popped n vs [])
    push (drop n vs) k v)
  step (unary o) vs k = push (drop 1 vs) k (apply o (top vs))
  step (strict o) vs k = do
    v ← operate o (top (drop 1 vs)) (top vs)
    push (drop 2 vs) k v
  step (and n) vs k = branch (top vs) (k 0 (drop 1 vs)) (push (drop 1 vs) (λ _. k n) 0)
  step (or n) vs k = branch (top vs) (push (drop 1 vs) (λ _. k n) 1) (k 0 (drop 1 vs))
  step join vs k = k 0 vs
  step unknown vs k = trap malformed

  -- each item is charged when it is reached, and then done
  unfoldable pub scan : List Item → Onward
  scan [] m vs = value (top vs)
  scan (i ∷ is) (suc m) vs = scan is m vs
  scan (i ∷ is) zero vs = do
    begins i.charge
    step i.kind vs (scan is)

  -- the value of an expression's items
  unfoldable pub evaluate : List Item → Act ℕ
  evaluate is = scan is 0 []
