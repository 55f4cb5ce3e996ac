-- An expression's core has as many items as its tree.
use mathlib.Core.Path.{◌≡◌, refl, ap}
use mathlib.Core.List.{List, [], ◌∷◌}
use Prim.Native.Nat.{ℕ, suc, ◌+◌}
use native.Mathlib.Omega.{arith}
use lib.ListN.{length}
use Rattle.language.specs.Tree.{Place, Ty, int, bool, Strict, eq, ne, lt, le, gt, ge, add, sub, mul, div, rem, Binary}
use Rattle.language.specs.Tree as T
use Rattle.language.specs.Core as C
use Rattle.language.specs.Rules.{Ruled, Global, Local, Typed, want, changed, joined, combined, indexed, fit, called, known, expr, exprs}
use Rattle.grammar.specs.Flat as G
use Rattle.flat.specs.Items as I
use Rattle.rules.proofs.Kept.{All, kept, broken, then, anything}

-- the arguments of a call, without their types
unfoldable pub args_of : List Typed → C.Args
args_of [] = C.none
args_of (e ∷ es) = C.more e.expr (args_of es)

unfoldable pub types_of : List Typed → List Ty
types_of [] = []
types_of (e ∷ es) = e.type ∷ types_of es

pub wanted : (P : C.Expr → Type 0) (t : Ty) (at : Place) (e : Typed) → P e.expr → All P (want t at e)
unfolding want
wanted P t at e h = then anything λ _ _. kept h

both_wanted : (P : C.Expr → Type 0) (t u : Ty) (f : C.Expr → C.Expr → C.Expr) (at : Place) (a b : Typed) → P (f a.expr b.expr) → All (λ v. P v.expr) (joined t u f at a b)
unfolding joined
both_wanted P t u f at a b h =
    then (wanted (λ v. P (f v b.expr)) t at a h) λ v p.
    then (wanted (λ w. P (f v w)) t at b p) λ w q.
    kept q

strict_wanted : (P : C.Expr → Type 0) (o : Strict) (at : Place) (a b : Typed) → P (C.strict o a.expr b.expr) → All (λ v. P v.expr) (combined (Binary.strict o) at a b)
unfolding combined
strict_wanted P eq at a b h = both_wanted P a.type bool (C.strict eq) at a b h
strict_wanted P ne at a b h = both_wanted P a.type bool (C.strict ne) at a b h
strict_wanted P lt at a b h = both_wanted P int bool (C.strict lt) at a b h
strict_wanted P le at a b h = both_wanted P int bool (C.strict le) at a b h
strict_wanted P gt at a b h = both_wanted P int bool (C.strict gt) at a b h
strict_wanted P ge at a b h = both_wanted P int bool (C.strict ge) at a b h
strict_wanted P add at a b h = both_wanted P int int (C.strict add) at a b h
strict_wanted P sub at a b h = both_wanted P int int (C.strict sub) at a b h
strict_wanted P mul at a b h = both_wanted P int int (C.strict mul) at a b h
strict_wanted P div at a b h = both_wanted P int int (C.strict div) at a b h
strict_wanted P rem at a b h = both_wanted P int int (C.strict rem) at a b h

pub fitted : (P : C.Args → Type 0) (globals : List Global) (at : Place) (es : List Typed) (ts : List Ty) → P (args_of es) → All P (fit globals at es ts)
unfolding fit args_of
fitted P globals at [] [] h = kept h
fitted P globals at [] (t ∷ ts) h = broken
fitted P globals at (e ∷ es) [] h = broken
fitted P globals at (e ∷ es) (t ∷ ts) h =
    then (wanted (λ v. v ≡ e.expr) t at e refl) λ v p.
    then (fitted (λ vs. P (C.more v vs)) globals at es ts (rw p h)) λ vs k.
    kept k

-- an expression, and a row of arguments with its call
pub record Sized (e : T.Expr) (t : Typed) : Type 0 where
  pub same : I.size t.expr ≡ G.size e

pub record SizedAll (es : T.Args) (ts : List Typed) : Type 0 where
  pub same : I.sizes (args_of ts) ≡ G.sizes es + 1
  pub count : length ts ≡ G.arg_count es

to_sized : {e : T.Expr} {m : Ruled Typed} → All (λ v. I.size v.expr ≡ G.size e) m → All (Sized e) m
to_sized h = record { holds = λ a q. record { same = h.holds a q } }

module _ (globals : List Global) (locals : List Local) where
  mutual
    unfolding expr known indexed called changed combined I.size G.size G.arg_count args_of

    pub sized : (e : T.Expr) → All (Sized e) (expr globals locals e)
    sized (T.number n) = kept (record { same = refl })
    sized (T.truth b) = kept (record { same = refl })
    sized (T.name p x) = then anything λ l _. kept (record { same = refl })
    sized (T.element p x i) = then (sized i) λ t h. then (wanted (λ v. I.size v ≡ G.size i) int p t h.same) λ v k. then anything λ a _. kept (record { same = ap (λ (n : ℕ). n + 1) k })
    sized (T.call p x xs) = then (sized_all xs) λ ts h. then anything λ s _. then (fitted (λ vs. I.sizes vs ≡ G.sizes xs + 1) globals p ts s.parameters h.same) λ vs k. then anything λ t _. kept (record { same = k })
    sized (T.unary p T.negate a) = then (sized a) λ t h. then (wanted (λ v. I.size v ≡ G.size a) int p t h.same) λ v k. kept (record { same = ap (λ (n : ℕ). n + 1) k })
    sized (T.unary p T.not a) = then (sized a) λ t h. then (wanted (λ v. I.size v ≡ G.size a) bool p t h.same) λ v k. kept (record { same = ap (λ (n : ℕ). n + 1) k })
    sized (T.binary p Binary.or a b) = then (sized a) λ x h. then (sized b) λ y k. to_sized (both_wanted (λ v. I.size v ≡ G.size (T.binary p Binary.or a b)) bool bool C.or p x y (rw (h.same, k.same) refl))
    sized (T.binary p Binary.and a b) = then (sized a) λ x h. then (sized b) λ y k. to_sized (both_wanted (λ v. I.size v ≡ G.size (T.binary p Binary.and a b)) bool bool C.and p x y (rw (h.same, k.same) refl))
    sized (T.binary p (Binary.strict o) a b) = then (sized a) λ x h. then (sized b) λ y k. to_sized (strict_wanted (λ v. I.size v ≡ G.size (T.binary p (Binary.strict o) a b)) o p x y (rw (h.same, k.same) refl))

    pub sized_all : (es : T.Args) → All (SizedAll es) (exprs globals locals es)
    sized_all T.none = kept (record { same = refl; count = refl })
    sized_all (T.more e es) = then (sized e) λ t h. then (sized_all es) λ ts k. kept (record { same = omega (arith, h.same, k.same); count = ap suc k.count })
