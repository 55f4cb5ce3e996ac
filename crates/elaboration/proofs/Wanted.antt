-- Operands of the type that is wanted: a property of what they are joined to is one of the result.
use Rattle.language.specs.Tree.{Place, Ty, int, bool, Strict, eq, ne, lt, le, gt, ge, add, sub, mul, div, rem, Binary}
use Rattle.language.specs.Core as C
use Rattle.language.specs.Rules.{Typed, want, joined, combined}
use Rattle.elaboration.proofs.All.{All, kept, then, needed}

pub wanted : (P : C.Expr → Type 0) (t : Ty) (at : Place) (e : Typed) → P e.expr → All P (want t at e)
unfolding want
wanted P t at e h = then (needed at) λ _ _. kept h

pub both_wanted : (P : C.Expr → Type 0) (t u : Ty) (f : C.Expr → C.Expr → C.Expr) (at : Place) (a b : Typed) → P (f a.expr b.expr) → All (λ v. P v.expr) (joined t u f at a b)
unfolding joined
both_wanted P t u f at a b h =
    then (wanted (λ v. P (f v b.expr)) t at a h) λ v p.
    then (wanted (λ w. P (f v w)) t at b p) λ w q.
    kept q

pub strict_wanted : (P : C.Expr → Type 0) (o : Strict) (at : Place) (a b : Typed) → P (C.strict o a.expr b.expr) → All (λ v. P v.expr) (combined (Binary.strict o) at a b)
unfolding combined
strict_wanted P eq at a b h = both_wanted P a.type bool (C.strict eq) at a b h
strict_wanted P ne at a b h = both_wanted P a.type bool (C.strict ne) at a b h
strict_wanted P lt at a b h = both_wanted P int bool (C.strict lt) at a b h
strict_wanted P le at a b h = both_wanted P int bool (C.strict le) at a b h
strict_wanted P gt at a b h = both_wanted P int bool (C.strict gt) at a b h
strict_wanted P ge at a b h = both_wanted P int bool (C.strict ge) at a b h
strict_wanted P add at a b h = both_wanted P int int (C.strict add) at a b h
strict_wanted P sub at a b h = both_wanted P int int (C.strict sub) at a b h
strict_wanted P mul at a b h = both_wanted P int int (C.strict mul) at a b h
strict_wanted P div at a b h = both_wanted P int int (C.strict div) at a b h
strict_wanted P rem at a b h = both_wanted P int int (C.strict rem) at a b h
