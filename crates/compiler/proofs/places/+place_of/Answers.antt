-- By the kind of the last item; the measure is the position.
use mathlib.Core.Path.{refl}
use Rattle.compiler.proofs.Numbered.{tells, denies}
use Rattle.compiler.proofs.Placing.{place_none, place_number, place_local, place_unary, place_other}
use Rattle.compiler.proofs.places.+place_of.Goals as goal

pub returns-then-end-lt4 : goal.returns-then-end-lt4
returns-then-end-lt4 t c = place_none c.if-end-lt4.true

pub returns-then-is_kind : goal.returns-then-is_kind
returns-then-is_kind t c = place_number refl (tells c.is_kind.ensures c.if-is_kind.true) c.word.ensures

pub returns-then-is_kind-2 : goal.returns-then-is_kind-2
returns-then-is_kind-2 t c = place_local refl (tells c.is_kind-2.ensures c.if-is_kind-2.true) c.word-then-is_kind-2.ensures

pub returns-then-is_kind-3 : goal.returns-then-is_kind-3
returns-then-is_kind-3 t c = place_unary refl (tells c.is_kind-3.ensures c.if-is_kind-3.true) c.unary_operator-o.ensures c.place_of-p.ensures c.result.ensures

pub returns : goal.returns
returns t c = place_other (denies c.is_kind.ensures c.if-is_kind.false) (denies c.is_kind-2.ensures c.if-is_kind-2.false) (denies c.is_kind-3.ensures c.if-is_kind-3.false)
