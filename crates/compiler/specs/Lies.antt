-- Where an expression stands among the words of a flat program: its items are those in the words from i up to j. The compiler reads it from its end, the root
-- first, so an item is given by the position behind it. Charges are not looked at.
use Rattle.std.specs.Prelude.{ℕ, ◌-◌, ◌≤◌, ◌≡◌, List}
use Rattle.language.specs.Tree.{Unary, Strict}
use Rattle.language.specs.Core.{Array, Expr, Args}
use Rattle.language.specs.Core as C
use Rattle.flat.specs.Words.{word, unary_number, strict_number}
use Rattle.codegen.specs.Owed.{count}

-- an item of kind k ends at j; the two words that its kind has a use for
pub record Ends (ws : List ℕ) (j k : ℕ) : Type 0 where
  pub enough : 4 ≤ j
  pub kind : word ws (j - 4) ≡ k

abbrev pub first : List ℕ → ℕ → ℕ
first ws j = word ws (j - 2)

abbrev pub second : List ℕ → ℕ → ℕ
second ws j = word ws (j - 1)

mutual
  pub data Lies (ws : List ℕ) : Expr → ℕ → ℕ → Type 0 where
    number : {n i j : ℕ} → Ends ws j 0 → first ws j ≡ n → i ≡ j - 4 → Lies ws (C.number n) i j
    local : {x i j : ℕ} → Ends ws j 1 → first ws j ≡ x → i ≡ j - 4 → Lies ws (C.local x) i j
    element : {a : Array} {e : Expr} {i j : ℕ} → Ends ws j 2 → first ws j ≡ a.offset → second ws j ≡ a.size → Lies ws e i (j - 4) → Lies ws (C.element a e) i j
    call : {f : ℕ} {xs : Args} {i j : ℕ} → Ends ws j 3 → first ws j ≡ f → second ws j ≡ count xs → LieAll ws xs i (j - 4) → Lies ws (C.call f xs) i j
    unary : {o : Unary} {e : Expr} {i j : ℕ} → Ends ws j 4 → first ws j ≡ unary_number o → Lies ws e i (j - 4) → Lies ws (C.unary o e) i j
    strict : {o : Strict} {a b : Expr} {i m j : ℕ} → Ends ws j 5 → first ws j ≡ strict_number o → Lies ws a i m → Lies ws b m (j - 4) → Lies ws (C.strict o a b) i j
    and : {a b : Expr} {i m j : ℕ} → Ends ws j 8 → Lies ws a i (m - 4) → Ends ws m 6 → Lies ws b m (j - 4) → Lies ws (C.and a b) i j
    or : {a b : Expr} {i m j : ℕ} → Ends ws j 8 → Lies ws a i (m - 4) → Ends ws m 7 → Lies ws b m (j - 4) → Lies ws (C.or a b) i j

  -- arguments, one behind the other
  pub data LieAll (ws : List ℕ) : Args → ℕ → ℕ → Type 0 where
    none : {i j : ℕ} → i ≡ j → LieAll ws C.none i j
    more : {e : Expr} {xs : Args} {i m j : ℕ} → Lies ws e i m → LieAll ws xs m j → LieAll ws (C.more e xs) i j
