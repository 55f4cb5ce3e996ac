-- Expressions: each way through is a law of the parser; the measure counts the steps inwards that are left, and the calls of one step.
use mathlib.Core.Path.{refl, sym, ap, ◌∙◌}
use Rattle.grammar.proofs.Steps.{exits, yes, no, begun, room, room_at, room_on, room_put, room_gap}
use Rattle.grammar.proofs.ExprLaws.{level_out, level_prim, level_rest, level_bad, rest_stop, rest_end, rest_bad, rest_again, operand_bad, operand_strict, operand_lazy, args_out, args_bad, args_last, args_again, arguments_deep, arguments_none, arguments_bad, arguments_open, arguments_done, enclosed_deep, enclosed_bad, enclosed_open, enclosed_done, named_index, named_index_bad, named_call, named_call_bad, named_name, unary_deep, unary_bad, unary_done, primary_number, primary_name, primary_true, primary_false, primary_paren, primary_minus, primary_bang, primary_none, rest_begun, unary_tag, unary_low, strict_number_is, not_strict, as_read, no_kind}
use Rattle.grammar.specs.Operator.{binary_of}
use Rattle.grammar.specs.Told.{item_kind}
use Rattle.tokens.specs.Numbers.{number_of_kind}
use Rattle.tokens.proofs.KindNumbers.{other_number}
use native.Mathlib.Omega.{arith}
use Rattle.grammar.proofs.expressions.+args_arguments_enclosed_level_named_operand_primary_rest_unary.Goals as goal

pub args-loop-count-init : goal.args-loop-count-init
args-loop-count-init t c = (begun c.requires.begins, refl)

pub args-level-requires : goal.args-level-requires
args-level-requires t c = (omega arith, (room_on c.requires c.loop-count.invariant.0 c.loop-count.invariant.1, omega arith))

pub args-returns-in_err-one : goal.args-returns-in_err-one
args-returns-in_err-one t c = exits c.from_residual.ensures.1 refl (args_bad _ _ _ _ c.loop-count.invariant.0 (omega arith) c.in_err-one.ensures.by)

pub args-returns-then-not-is : goal.args-returns-then-not-is
args-returns-then-not-is t c = args_last _ _ _ _ c.loop-count.invariant.0 (omega arith) (omega arith) c.in_ok-one.ensures.by refl (no c.if-not-is.ensures.same)

pub args-loop-count-preserved : goal.args-loop-count-preserved
args-loop-count-preserved t c = (args_again _ _ _ _ c.loop-count.invariant.0 (omega arith) (omega arith) c.in_ok-one.ensures.by refl (yes c.if-not-is.ensures.same) (c.if-not-is.ensures.there refl), c.level.auto.out ∙ c.loop-count.invariant.1)

pub args-returns : goal.args-returns
args-returns t c = args_out _ _ _ _ c.loop-count.invariant.0 (omega arith)

pub arguments-returns-then-d-ge-MOST_OPEN : goal.arguments-returns-then-d-ge-MOST_OPEN
arguments-returns-then-d-ge-MOST_OPEN t c = arguments_deep _ _ _ c.if-d-ge-MOST_OPEN.true

pub arguments-returns-then-is : goal.arguments-returns-then-is
arguments-returns-then-is t c = arguments_none _ _ _ c.if-d-ge-MOST_OPEN.false refl (yes c.if-is.ensures.same) (c.if-is.ensures.there refl)

pub arguments-args-requires : goal.arguments-args-requires
arguments-args-requires t c = (omega arith, room_at _ _ c.requires.0 (omega (arith, c.requires.1)) (omega arith))

pub arguments-returns-in_err-all : goal.arguments-returns-in_err-all
arguments-returns-in_err-all t c = exits c.from_residual.ensures.1 refl (arguments_bad _ _ _ c.if-d-ge-MOST_OPEN.false refl (no c.if-is.ensures.same) c.in_err-all.ensures.by)

pub arguments-returns-in_err-expect : goal.arguments-returns-in_err-expect
arguments-returns-in_err-expect t c = exits c.from_residual-in_err-expect.ensures.1 c.in_err-expect.ensures.0 (arguments_open _ _ _ c.if-d-ge-MOST_OPEN.false refl (no c.if-is.ensures.same) c.in_ok-all.ensures.by refl c.in_err-expect.ensures.1)

pub arguments-returns : goal.arguments-returns
arguments-returns t c = arguments_done _ _ _ c.if-d-ge-MOST_OPEN.false refl (no c.if-is.ensures.same) c.in_ok-all.ensures.by refl c.in_ok-expect.ensures.0 c.in_ok-expect.ensures.1

pub enclosed-returns-then-d-ge-MOST_OPEN : goal.enclosed-returns-then-d-ge-MOST_OPEN
enclosed-returns-then-d-ge-MOST_OPEN t c = enclosed_deep _ _ _ _ c.if-d-ge-MOST_OPEN.true

pub enclosed-level-requires : goal.enclosed-level-requires
enclosed-level-requires t c = (omega arith, (room_at _ _ c.requires.0 (omega (arith, c.requires.1)) (omega arith), omega arith))

pub enclosed-returns-in_err-inside : goal.enclosed-returns-in_err-inside
enclosed-returns-in_err-inside t c = exits c.from_residual.ensures.1 refl (enclosed_bad _ _ _ _ c.if-d-ge-MOST_OPEN.false c.in_err-inside.ensures.by)

pub enclosed-returns-in_err-expect : goal.enclosed-returns-in_err-expect
enclosed-returns-in_err-expect t c = exits c.from_residual-in_err-expect.ensures.1 c.in_err-expect.ensures.0 (enclosed_open _ _ _ _ c.if-d-ge-MOST_OPEN.false c.in_ok-inside.ensures.by refl c.in_err-expect.ensures.1)

pub enclosed-returns : goal.enclosed-returns
enclosed-returns t c = enclosed_done _ _ _ _ c.if-d-ge-MOST_OPEN.false c.in_ok-inside.ensures.by refl c.in_ok-expect.ensures.0 c.in_ok-expect.ensures.1

pub level-returns-then-h-eq0 : goal.level-returns-then-h-eq0
level-returns-then-h-eq0 t c = level_out _ _ _ _ c.if-h-eq0.true

pub level-primary-requires : goal.level-primary-requires
level-primary-requires t c = (omega arith, c.requires.0)

pub level-returns-then-l-ge-UNARY_LEVEL : goal.level-returns-then-l-ge-UNARY_LEVEL
level-returns-then-l-ge-UNARY_LEVEL t c = level_prim _ _ _ _ c.if-h-eq0.false c.if-l-ge-UNARY_LEVEL.true c.primary.ensures

pub level-level-requires : goal.level-level-requires
level-level-requires t c = (omega arith, (c.requires.0, omega arith))

pub level-returns-in_err-first : goal.level-returns-in_err-first
level-returns-in_err-first t c = exits c.from_residual.ensures.1 refl (level_bad _ _ _ _ c.if-h-eq0.false c.if-l-ge-UNARY_LEVEL.false c.in_err-first.ensures.by)

pub level-rest-requires : goal.level-rest-requires
level-rest-requires t c = (omega arith, (room c.requires.0 c.in_ok-first.ensures.by c.level.auto.out, c.requires.1, c.if-l-ge-UNARY_LEVEL.false))

pub level-returns : goal.level-returns
level-returns t c = level_rest _ _ _ _ c.if-h-eq0.false c.if-l-ge-UNARY_LEVEL.false c.in_ok-first.ensures.by c.most_of.ensures.0 c.rest.ensures

pub named-enclosed-requires : goal.named-enclosed-requires
named-enclosed-requires t c = (omega arith, (room_at _ _ c.requires.0 (omega (arith, c.requires.1)) (omega arith), c.if-is.ensures.there refl))

pub named-returns-in_err-index : goal.named-returns-in_err-index
named-returns-in_err-index t c = exits c.from_residual.ensures.1 refl (named_index_bad _ _ _ refl c.place-p.ensures c.value-v.ensures c.requires.2 (yes c.if-is.ensures.same) c.in_err-index.ensures.by)

pub named-put-end-requires : goal.named-put-end-requires
named-put-end-requires t c = room_put c.requires.0 c.in_ok-index.ensures.by c.enclosed.auto.out

pub named-returns-then-is : goal.named-returns-then-is
named-returns-then-is t c = named_index _ _ _ refl c.place-p.ensures c.value-v.ensures c.requires.2 (yes c.if-is.ensures.same) c.in_ok-index.ensures.by c.put-end.ensures.written c.put-end.ensures.end

pub named-arguments-requires : goal.named-arguments-requires
named-arguments-requires t c = (omega arith, (room_at _ _ c.requires.0 (omega (arith, c.requires.1)) (omega arith), c.if-is-2.ensures.there refl))

pub named-returns-in_err-all : goal.named-returns-in_err-all
named-returns-in_err-all t c = exits c.from_residual-in_err-all.ensures.1 refl (named_call_bad _ _ _ refl c.place-p.ensures c.value-v.ensures c.requires.2 (no c.if-is.ensures.same) (yes c.if-is-2.ensures.same) c.in_err-all.ensures.by)

pub named-put-end-requires-then-is-2 : goal.named-put-end-requires-then-is-2
named-put-end-requires-then-is-2 t c = room_put c.requires.0 c.in_ok-all.ensures.by c.arguments.auto.out

pub named-returns-then-is-2 : goal.named-returns-then-is-2
named-returns-then-is-2 t c = named_call _ _ _ refl c.place-p.ensures c.value-v.ensures c.requires.2 (no c.if-is.ensures.same) (yes c.if-is-2.ensures.same) c.in_ok-all.ensures.by c.put-end-then-is-2.ensures.written c.put-end-then-is-2.ensures.end

pub named-put-end-requires-2 : goal.named-put-end-requires-2
named-put-end-requires-2 t c = omega (arith, c.requires.0.free, c.requires.1)

pub named-returns : goal.named-returns
named-returns t c = named_name _ _ _ refl c.place-p.ensures c.value-v.ensures c.requires.2 (no c.if-is.ensures.same) (no c.if-is-2.ensures.same) c.put-end-2.ensures.written c.put-end-2.ensures.end c.requires.1

pub operand-level-requires : goal.operand-level-requires
operand-level-requires t c = (omega arith, (room_at _ _ c.requires.0 (omega (arith, c.requires.2)) (omega arith), omega (arith, c.requires.3)))

pub operand-returns-in_err-side-in-Strict : goal.operand-returns-in_err-side-in-Strict
operand-returns-in_err-side-in-Strict t c = exits c.from_residual.ensures.1 refl (operand_bad _ _ _ _ refl c.place-p.ensures c.in_err-side-in-Strict.ensures.by)

pub operand-put-end-requires : goal.operand-put-end-requires
operand-put-end-requires t c = room_put c.requires.0 c.in_ok-side-in-Strict.ensures.by c.level.auto.out

pub operand-returns-in_ok-side-in-Strict : goal.operand-returns-in_ok-side-in-Strict
operand-returns-in_ok-side-in-Strict t c = operand_strict _ _ _ _ refl c.place-p.ensures (sym (ap binary_of c.in-Strict.is) ∙ c.requires.1.means) c.in_ok-side-in-Strict.ensures.by (strict_number_is _) c.put-end.ensures.written c.put-end.ensures.end

pub operand-level-requires-in_default : goal.operand-level-requires-in_default
operand-level-requires-in_default t c = (omega arith, (room_at _ _ c.requires.0 (omega (arith, c.requires.2)) (omega arith), omega (arith, c.requires.3)))

pub operand-returns-in_err-side-in_default : goal.operand-returns-in_err-side-in_default
operand-returns-in_err-side-in_default t c = exits c.from_residual-in_err-side-in_default.ensures.1 refl (operand_bad _ _ _ _ refl c.place-p.ensures c.in_err-side-in_default.ensures.by)

pub operand-put-requires : goal.operand-put-requires
operand-put-requires t c = omega (arith, c.requires.0.free, c.requires.2, c.level-in_default.auto.out)

pub operand-put-end-requires-in_default : goal.operand-put-end-requires-in_default
operand-put-end-requires-in_default t c = omega (arith, room_gap c.requires.0 refl c.in_ok-side-in_default.ensures.by c.level-in_default.auto.out, c.put.auto.out)

pub operand-returns-in_ok-side-in_default : goal.operand-returns-in_ok-side-in_default
operand-returns-in_ok-side-in_default t c = operand_lazy _ _ _ _ refl c.place-p.ensures (c.from.ensures ∙ c.item.ensures ∙ ap item_kind c.requires.1.means) (λ z. not_strict _ c.in_default.not-Strict (sym c.item.ensures ∙ sym c.from.ensures ∙ z)) refl c.in_ok-side-in_default.ensures.by c.put.ensures.written c.put-end-in_default.ensures.written c.put-end-in_default.ensures.end

pub rest-loop-init : goal.rest-loop-init
rest-loop-init t c = (rest_begun _ _ _ _ _ c.requires.0.begins (omega arith), refl)

pub rest-returns-in_default : goal.rest-returns-in_default
rest-returns-in_default t c = rest_stop _ _ _ _ _ c.loop.invariant.0 (omega arith) refl refl c.in_default.ensures

pub rest-operand-requires : goal.rest-operand-requires
rest-operand-requires t c = (omega arith, (room_on c.requires.0 c.loop.invariant.0 c.loop.invariant.1, c.in-Some.ensures.0, c.in-Some.ensures.2, omega (arith, c.in-Some.ensures.1, c.requires.1), omega (arith, c.in-Some.ensures.1, c.requires.2)))

pub rest-returns-in_err-right : goal.rest-returns-in_err-right
rest-returns-in_err-right t c = exits c.from_residual.ensures.1 refl (rest_bad _ _ _ _ _ c.loop.invariant.0 (omega arith) refl (sym c.in-Some.ensures.0.level) c.in-Some.ensures.1 c.in_err-right.ensures.by)

pub rest-loop-preserved : goal.rest-loop-preserved
rest-loop-preserved t c = (rest_again _ _ _ _ _ c.loop.invariant.0 (omega arith) (omega arith) refl (sym c.in-Some.ensures.0.level) c.in-Some.ensures.1 c.in_ok-right.ensures.by, c.operand.auto.out ∙ c.loop.invariant.1)

pub rest-returns : goal.rest-returns
rest-returns t c = rest_end _ _ _ _ _ c.loop.invariant.0 (omega arith)

pub unary-returns-then-d-ge-MOST_OPEN : goal.unary-returns-then-d-ge-MOST_OPEN
unary-returns-then-d-ge-MOST_OPEN t c = unary_deep _ _ _ _ c.if-d-ge-MOST_OPEN.true

pub unary-level-requires : goal.unary-level-requires
unary-level-requires t c = (omega arith, (room_at _ _ c.requires.0 (omega (arith, c.requires.1)) (omega arith), omega arith))

pub unary-returns-in_err-side : goal.unary-returns-in_err-side
unary-returns-in_err-side t c = exits c.from_residual.ensures.1 refl (unary_bad _ _ _ _ c.if-d-ge-MOST_OPEN.false c.in_err-side.ensures.by)

pub unary-put-end-requires : goal.unary-put-end-requires
unary-put-end-requires t c = room_put c.requires.0 c.in_ok-side.ensures.by c.level.auto.out

pub unary-returns : goal.unary-returns
unary-returns t c = unary_done _ _ _ _ c.if-d-ge-MOST_OPEN.false (unary_low c.args.operator) (unary_tag c.args.operator) c.place-p.ensures c.in_ok-side.ensures.by c.put-end.ensures.written c.put-end.ensures.end

pub primary-returns-in_default : goal.primary-returns-in_default
primary-returns-in_default t c = primary_none _ _ _ refl (λ z. no_kind (c.in_default.ensures.none refl) z (omega arith) (omega arith)) (λ z. no_kind (c.in_default.ensures.none refl) z (omega arith) (omega arith)) (λ z. no_kind (c.in_default.ensures.none refl) z (omega arith) (omega arith)) (λ z. no_kind (c.in_default.ensures.none refl) z (omega arith) (omega arith)) (λ z. no_kind (c.in_default.ensures.none refl) z (omega arith) (omega arith)) (λ z. no_kind (c.in_default.ensures.none refl) z (omega arith) (omega arith)) (λ z. no_kind (c.in_default.ensures.none refl) z (omega arith) (omega arith))

pub primary-leaf-requires : goal.primary-leaf-requires
primary-leaf-requires t c = (omega (arith, c.in-Some.ensures.there refl), omega (arith, c.requires.free, c.in-Some.ensures.there refl))

pub primary-named-requires : goal.primary-named-requires
primary-named-requires t c = (omega arith, (c.requires, c.in-Some.ensures.there refl, (c.in-Some.ensures.some ∙ ap number_of_kind c.in-Name.is)))

pub primary-leaf-requires-in-True : goal.primary-leaf-requires-in-True
primary-leaf-requires-in-True t c = (omega (arith, c.in-Some.ensures.there refl), omega (arith, c.requires.free, c.in-Some.ensures.there refl))

pub primary-leaf-requires-in-False : goal.primary-leaf-requires-in-False
primary-leaf-requires-in-False t c = (omega (arith, c.in-Some.ensures.there refl), omega (arith, c.requires.free, c.in-Some.ensures.there refl))

pub primary-enclosed-requires : goal.primary-enclosed-requires
primary-enclosed-requires t c = (omega arith, (c.requires, c.in-Some.ensures.there refl))

pub primary-unary-requires : goal.primary-unary-requires
primary-unary-requires t c = (omega arith, (c.requires, c.in-Some.ensures.there refl))

pub primary-unary-requires-in-Bang : goal.primary-unary-requires-in-Bang
primary-unary-requires-in-Bang t c = (omega arith, (c.requires, c.in-Some.ensures.there refl))

pub primary-returns-in-Number : goal.primary-returns-in-Number
primary-returns-in-Number t c = as_read c.leaf.ensures.next c.leaf.ensures.told (primary_number _ _ _ refl (c.in-Some.ensures.some ∙ ap number_of_kind c.in-Number.is) c.value.ensures c.leaf.ensures.written c.leaf.ensures.end (c.in-Some.ensures.there refl))

pub primary-returns-in-Name : goal.primary-returns-in-Name
primary-returns-in-Name t c = primary_name _ _ _ refl (c.in-Some.ensures.some ∙ ap number_of_kind c.in-Name.is) c.named.ensures

pub primary-returns-in-True : goal.primary-returns-in-True
primary-returns-in-True t c = as_read c.leaf-in-True.ensures.next c.leaf-in-True.ensures.told (primary_true _ _ _ refl (c.in-Some.ensures.some ∙ ap number_of_kind c.in-True.is) c.leaf-in-True.ensures.written c.leaf-in-True.ensures.end (c.in-Some.ensures.there refl))

pub primary-returns-in-False : goal.primary-returns-in-False
primary-returns-in-False t c = as_read c.leaf-in-False.ensures.next c.leaf-in-False.ensures.told (primary_false _ _ _ refl (c.in-Some.ensures.some ∙ ap number_of_kind c.in-False.is) c.leaf-in-False.ensures.written c.leaf-in-False.ensures.end (c.in-Some.ensures.there refl))

pub primary-returns-in-LeftParen : goal.primary-returns-in-LeftParen
primary-returns-in-LeftParen t c = primary_paren _ _ _ refl (c.in-Some.ensures.some ∙ ap number_of_kind c.in-LeftParen.is) c.enclosed.ensures

pub primary-returns-in-Minus : goal.primary-returns-in-Minus
primary-returns-in-Minus t c = primary_minus _ _ _ refl (c.in-Some.ensures.some ∙ ap number_of_kind c.in-Minus.is) c.unary.ensures

pub primary-returns-in-Bang : goal.primary-returns-in-Bang
primary-returns-in-Bang t c = primary_bang _ _ _ refl (c.in-Some.ensures.some ∙ ap number_of_kind c.in-Bang.is) c.unary-in-Bang.ensures

pub primary-returns-in_default-kind : goal.primary-returns-in_default-kind
primary-returns-in_default-kind t c = primary_none _ _ _ refl (λ z. other_number c.in_default-kind.not-Number (sym c.in-Some.ensures.some ∙ z)) (λ z. other_number c.in_default-kind.not-Name (sym c.in-Some.ensures.some ∙ z)) (λ z. other_number c.in_default-kind.not-True (sym c.in-Some.ensures.some ∙ z)) (λ z. other_number c.in_default-kind.not-False (sym c.in-Some.ensures.some ∙ z)) (λ z. other_number c.in_default-kind.not-LeftParen (sym c.in-Some.ensures.some ∙ z)) (λ z. other_number c.in_default-kind.not-Minus (sym c.in-Some.ensures.some ∙ z)) (λ z. other_number c.in_default-kind.not-Bang (sym c.in-Some.ensures.some ∙ z))
