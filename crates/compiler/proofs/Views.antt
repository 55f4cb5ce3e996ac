-- The kind of the item that ends an expression says which expression it is.
use Prim.Native.Nat.{ℕ, ◌+◌, ◌-◌, ◌≤◌}
use native.Mathlib.Omega.{arith}
use mathlib.Core.Path.{◌≡◌, refl, sym, ap, ◌∙◌}
use mathlib.Core.Bool.{Bool, true, false}
use mathlib.Core.List.{List}
use Rattle.word.specs.Choice.{pick}
use Rattle.language.specs.Tree.{Unary, Strict}
use Rattle.language.specs.Core.{Array, Expr, Args}
use Rattle.language.specs.Core as C
use Rattle.flat.specs.Words.{word, unary_number, strict_number}
use Rattle.codegen.specs.Owed.{count}
use Rattle.compiler.specs.Lies.{Ends, first, second, Lies, number, local, element, call, unary, strict, and, or, LieAll, none, more}

pub array_is : (a : Array) {x y : ℕ} → x ≡ a.offset → y ≡ a.size → ◌≡◌ {A = Array} a (record { offset = x; size = y })
array_is a {x} e f = ap (λ (o : ℕ). record { offset = o; size = a.size }) (sym e) ∙ ap (λ (s : ℕ). record { offset = x; size = s }) (sym f)

-- `&&` and `||`: which of the two, the item between the sides says
unfoldable pub joining : Bool → Expr → Expr → Expr
joining false a b = C.and a b
joining true a b = C.or a b

module _ (ws : List ℕ) (i j : ℕ) where
  pub record NumberAt (e : Expr) : Type 0 where
    pub is : e ≡ C.number (first ws j)
    pub start : i ≡ j - 4

  pub record LocalAt (e : Expr) : Type 0 where
    pub is : e ≡ C.local (first ws j)
    pub start : i ≡ j - 4

  pub record ElementAt (e : Expr) : Type 0 where
    pub at : Expr
    pub is : e ≡ C.element (record { offset = first ws j; size = second ws j }) at
    pub index : Lies ws at i (j - 4)

  pub record CallAt (e : Expr) : Type 0 where
    pub xs : Args
    pub is : e ≡ C.call (first ws j) xs
    pub many : second ws j ≡ count xs
    pub arguments : LieAll ws xs i (j - 4)

  pub record UnaryAt (e : Expr) : Type 0 where
    pub o : Unary
    pub a : Expr
    pub is : e ≡ C.unary o a
    pub operator : first ws j ≡ unary_number o
    pub operand : Lies ws a i (j - 4)

  pub record StrictAt (e : Expr) : Type 0 where
    pub o : Strict
    pub a : Expr
    pub b : Expr
    pub middle : ℕ
    pub is : e ≡ C.strict o a b
    pub operator : first ws j ≡ strict_number o
    pub left : Lies ws a i middle
    pub right : Lies ws b middle (j - 4)

  pub record JoinAt (e : Expr) : Type 0 where
    pub other : Bool
    pub a : Expr
    pub b : Expr
    pub middle : ℕ
    pub is : e ≡ joining other a b
    pub between : Ends ws middle (pick other 7 6)
    pub left : Lies ws a i (middle - 4)
    pub right : Lies ws b middle (j - 4)

module _ {ws : List ℕ} {i j : ℕ} where
  pub is_number : {e : Expr} → Lies ws e i j → word ws (j - 4) ≡ 0 → NumberAt ws i j e
  is_number (number k p q) h = record { is = ap C.number (sym p); start = q }
  is_number (local k p q) h = absurd (omega arith)
  is_number (element k p q l) h = absurd (omega arith)
  is_number (call k p q l) h = absurd (omega arith)
  is_number (unary k p l) h = absurd (omega arith)
  is_number (strict k p l r) h = absurd (omega arith)
  is_number (and k l p r) h = absurd (omega arith)
  is_number (or k l p r) h = absurd (omega arith)

  pub is_local : {e : Expr} → Lies ws e i j → word ws (j - 4) ≡ 1 → LocalAt ws i j e
  is_local (number k p q) h = absurd (omega arith)
  is_local (local k p q) h = record { is = ap C.local (sym p); start = q }
  is_local (element k p q l) h = absurd (omega arith)
  is_local (call k p q l) h = absurd (omega arith)
  is_local (unary k p l) h = absurd (omega arith)
  is_local (strict k p l r) h = absurd (omega arith)
  is_local (and k l p r) h = absurd (omega arith)
  is_local (or k l p r) h = absurd (omega arith)

  pub is_element : {e : Expr} → Lies ws e i j → word ws (j - 4) ≡ 2 → ElementAt ws i j e
  is_element (number k p q) h = absurd (omega arith)
  is_element (local k p q) h = absurd (omega arith)
  is_element (element {a} {e} k p q l) h = record { at = e; is = ap (λ (x : Array). C.element x e) (array_is a p q); index = l }
  is_element (call k p q l) h = absurd (omega arith)
  is_element (unary k p l) h = absurd (omega arith)
  is_element (strict k p l r) h = absurd (omega arith)
  is_element (and k l p r) h = absurd (omega arith)
  is_element (or k l p r) h = absurd (omega arith)

  pub is_call : {e : Expr} → Lies ws e i j → word ws (j - 4) ≡ 3 → CallAt ws i j e
  is_call (number k p q) h = absurd (omega arith)
  is_call (local k p q) h = absurd (omega arith)
  is_call (element k p q l) h = absurd (omega arith)
  is_call (call {f} {xs} k p q l) h = record { xs = xs; is = ap (λ (g : ℕ). C.call g xs) (sym p); many = q; arguments = l }
  is_call (unary k p l) h = absurd (omega arith)
  is_call (strict k p l r) h = absurd (omega arith)
  is_call (and k l p r) h = absurd (omega arith)
  is_call (or k l p r) h = absurd (omega arith)

  pub is_unary : {e : Expr} → Lies ws e i j → word ws (j - 4) ≡ 4 → UnaryAt ws i j e
  is_unary (number k p q) h = absurd (omega arith)
  is_unary (local k p q) h = absurd (omega arith)
  is_unary (element k p q l) h = absurd (omega arith)
  is_unary (call k p q l) h = absurd (omega arith)
  is_unary (unary {o} {e} k p l) h = record { o = o; a = e; is = refl; operator = p; operand = l }
  is_unary (strict k p l r) h = absurd (omega arith)
  is_unary (and k l p r) h = absurd (omega arith)
  is_unary (or k l p r) h = absurd (omega arith)

  pub is_strict : {e : Expr} → Lies ws e i j → word ws (j - 4) ≡ 5 → StrictAt ws i j e
  is_strict (number k p q) h = absurd (omega arith)
  is_strict (local k p q) h = absurd (omega arith)
  is_strict (element k p q l) h = absurd (omega arith)
  is_strict (call k p q l) h = absurd (omega arith)
  is_strict (unary k p l) h = absurd (omega arith)
  is_strict (strict {o} {a} {b} {i} {m} k p l r) h = record { o = o; a = a; b = b; middle = m; is = refl; operator = p; left = l; right = r }
  is_strict (and k l p r) h = absurd (omega arith)
  is_strict (or k l p r) h = absurd (omega arith)

  pub is_join : {e : Expr} → Lies ws e i j → word ws (j - 4) ≡ 8 → JoinAt ws i j e
  unfolding joining
  is_join (number k p q) h = absurd (omega arith)
  is_join (local k p q) h = absurd (omega arith)
  is_join (element k p q l) h = absurd (omega arith)
  is_join (call k p q l) h = absurd (omega arith)
  is_join (unary k p l) h = absurd (omega arith)
  is_join (strict k p l r) h = absurd (omega arith)
  is_join (and {a} {b} {i} {m} k l p r) h = record { other = false; a = a; b = b; middle = m; is = refl; between = p; left = l; right = r }
  is_join (or {a} {b} {i} {m} k l p r) h = record { other = true; a = a; b = b; middle = m; is = refl; between = p; left = l; right = r }

  pub ends : {e : Expr} → Lies ws e i j → 4 ≤ j
  ends (number k p q) = k.enough
  ends (local k p q) = k.enough
  ends (element k p q l) = k.enough
  ends (call k p q l) = k.enough
  ends (unary k p l) = k.enough
  ends (strict k p l r) = k.enough
  ends (and k l p r) = k.enough
  ends (or k l p r) = k.enough

-- an expression is at least one item long
module _ {ws : List ℕ} where
  mutual
    pub starts : {e : Expr} {i j : ℕ} → Lies ws e i j → i + 4 ≤ j
    starts (number k p q) = omega arith
    starts (local k p q) = omega arith
    starts (element k p q l) = omega (arith, starts l)
    starts (call k p q l) = omega (arith, starts_in l)
    starts (unary k p l) = omega (arith, starts l)
    starts (strict k p l r) = omega (arith, starts l, starts r)
    starts (and k l p r) = omega (arith, starts l, starts r)
    starts (or k l p r) = omega (arith, starts l, starts r)

    starts_in : {xs : Args} {i j : ℕ} → LieAll ws xs i j → i ≤ j
    starts_in (none h) = omega arith
    starts_in (more l ls) = omega (arith, starts l, starts_in ls)
