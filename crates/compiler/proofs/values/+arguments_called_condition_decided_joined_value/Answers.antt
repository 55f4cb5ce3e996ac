-- Each function of the cycle emits the code of what ends where it looks. Measures: the position, then who calls whom.
use Prim.Native.Nat.{◌-◌}
use mathlib.Core.Path.{refl, sym, ap, ◌∙◌}
use native.Mathlib.Omega.{arith}
use lib.ListN.{get_or}
use Rattle.flat.specs.declared.item.Kind.TheVariants as K
use Rattle.flat.specs.Numbers.{kind_number}
use Rattle.compiler.specs.Lies.{first}
use Rattle.compiler.specs.Post.{agree}
use Rattle.emission.proofs.Tapes.{after_five, after_one, after_three, after_two, untouched}
use Rattle.compiler.proofs.Numbered.{tells, denies, apart}
use Rattle.compiler.proofs.Valuing as E
use Rattle.compiler.proofs.Deciding as D
use Rattle.compiler.proofs.Calling as C
use Rattle.compiler.proofs.values.+arguments_called_condition_decided_joined_value.Goals as goal

pub arguments-loop-i-init : goal.arguments-loop-i-init
arguments-loop-i-init t c = (untouched C.arguments_all, omega arith)

pub arguments-start_of-start-requires : goal.arguments-start_of-start-requires
arguments-start_of-start-requires t c = omega (arith, c.requires.small, c.loop-i.invariant.1)

pub arguments-temporaries-before-requires : goal.arguments-temporaries-before-requires
arguments-temporaries-before-requires t c = omega (arith, c.requires.small, c.loop-i.invariant.1, c.start_of-start.ensures.within)

pub arguments-value-requires : goal.arguments-value-requires
arguments-value-requires t c = (omega (arith, c.decreases, c.loop-i.invariant.1), record { small = omega (arith, c.requires.small, c.loop-i.invariant.1); room = omega (arith, c.requires.room, c.loop-i.invariant.0.within) })

pub arguments-loop-i-preserved : goal.arguments-loop-i-preserved
arguments-loop-i-preserved t c = (after_two c.loop-i.invariant.0 c.value.ensures (C.arguments_next (λ h. omega (arith, c.loop-i-test.true, h)) (omega (arith, c.requires.small, c.loop-i.invariant.1)) c.start_of-start.ensures.starts c.temporaries-before.ensures.weighs c.plus-below.ensures c.loop-i.invariant.0.says c.value.ensures.says), omega (arith, c.loop-i.invariant.1, c.start_of-start.ensures.within))

pub arguments-returns : goal.arguments-returns
arguments-returns t c = after_one c.loop-i.invariant.0 (C.arguments_end c.loop-i.invariant.0.says (omega (arith, c.loop-i-test.false)))

pub called-calling-requires : goal.called-calling-requires
called-calling-requires t c = (c.requires.0, c.requires.1)

pub called-arguments-requires : goal.called-arguments-requires
called-arguments-requires t c = (omega (arith, c.decreases, c.requires.1, c.ranges.end), record { small = omega (arith, c.requires.0.small); room = omega (arith, c.requires.0.room, c.calling.ensures.within) })

pub called-returns : goal.called-returns
called-returns t c = after_two c.calling.ensures c.arguments.ensures (C.calls c.word-n.ensures c.calling.ensures.says c.arguments.ensures.says)

pub condition-loop-e-init : goal.condition-loop-e-init
condition-loop-e-init t c = (untouched D.heads_start, omega arith, c.requires.ahead, c.requires.room)

pub condition-loop-e-preserved-then-is_not : goal.condition-loop-e-preserved-then-is_not
condition-loop-e-preserved-then-is_not t c = (after_one c.loop-e.invariant.0 (D.heads_on c.loop-e.invariant.0.says (D.heads_not _ _ _ _ _ _ _ _ _ (D.are_both (get_or c.args.code.words.now (c.loop-e.e - 4) 0) (first c.args.code.words.now c.loop-e.e) (sym c.is_not.ensures ∙ c.if-is_not.true)).0 (D.are_both (get_or c.args.code.words.now (c.loop-e.e - 4) 0) (first c.args.code.words.now c.loop-e.e) (sym c.is_not.ensures ∙ c.if-is_not.true)).1)), omega (arith, c.loop-e.invariant.1), c.loop-e.invariant.2, c.loop-e.invariant.3)

pub condition-start_of-middle-requires : goal.condition-start_of-middle-requires
condition-start_of-middle-requires t c = omega (arith, c.requires.small, c.loop-e.invariant.1)

pub condition-returns-then-middle-lt4 : goal.condition-returns-then-middle-lt4
condition-returns-then-middle-lt4 t c = after_one c.loop-e.invariant.0 (D.heads_to c.loop-e.invariant.0.says (D.condition_broken _ _ _ _ _ _ _ _ _ (tells c.is_kind.ensures c.if-is_kind.true) c.start_of-middle.ensures.starts c.if-middle-lt4.true))

pub condition-condition-requires : goal.condition-condition-requires
condition-condition-requires t c = (omega (arith, c.decreases, c.loop-e.invariant.1, c.loop-e-test.true), record { small = omega (arith, c.requires.small, c.loop-e.invariant.1); ahead = c.loop-e.invariant.2; room = c.loop-e.invariant.3 })

pub condition-loop-e-smaller : goal.condition-loop-e-smaller
condition-loop-e-smaller t c = omega (arith, c.start_of-middle.ensures.within, c.if-middle-lt4.false, c.loop-e-test.true)

pub condition-loop-e-preserved : goal.condition-loop-e-preserved
condition-loop-e-preserved t c = (after_two c.loop-e.invariant.0 c.condition.ensures (D.heads_on c.loop-e.invariant.0.says (D.heads_aimed c.aim-goal.ensures (D.heads_join _ _ _ _ _ _ _ _ _ _ c.loop-e.invariant.2 (tells c.is_kind.ensures c.if-is_kind.true) c.start_of-middle.ensures.starts c.is_kind-other.ensures c.condition.ensures.says))), omega (arith, c.loop-e.invariant.1, c.start_of-middle.ensures.within), (D.aimed (agree c.loop-e.truth c.is_kind-other.result) c.loop-e.invariant.2 c.condition.ensures.within c.aim-goal.ensures).0, omega (arith, (D.aimed (agree c.loop-e.truth c.is_kind-other.result) c.loop-e.invariant.2 c.condition.ensures.within c.aim-goal.ensures).1, c.loop-e.invariant.3))

pub condition-decided-requires : goal.condition-decided-requires
condition-decided-requires t c = (omega (arith, c.decreases, c.loop-e.invariant.1), (record { small = omega (arith, c.requires.small, c.loop-e.invariant.1); ahead = c.loop-e.invariant.2; room = c.loop-e.invariant.3 }, (c.loop-e-test.true, (denies c.is_kind.ensures c.if-is_kind.false, sym c.is_not.ensures ∙ c.if-is_not.false))))

pub condition-returns-in-loop-e : goal.condition-returns-in-loop-e
condition-returns-in-loop-e t c = after_two c.loop-e.invariant.0 c.decided.ensures (D.heads_to c.loop-e.invariant.0.says c.decided.ensures.says)

pub condition-returns : goal.condition-returns
condition-returns t c = after_one c.loop-e.invariant.0 (D.heads_to c.loop-e.invariant.0.says (D.condition_nowhere _ _ _ _ _ _ _ _ (omega (arith, c.loop-e-test.false))))

pub decided-overflow_sub-end : goal.decided-overflow_sub-end
decided-overflow_sub-end t c = omega (arith, c.requires.1.0)

pub decided-always-requires : goal.decided-always-requires
decided-always-requires t c = c.requires.0.ahead

pub decided-returns-then-is_kind : goal.decided-returns-then-is_kind
decided-returns-then-is_kind t c = after_one c.always.ensures (D.condition_number _ _ _ _ _ _ _ _ (tells c.is_kind.ensures c.if-is_kind.true) c.word-n.ensures c.always.ensures.says)

pub decided-testing_answer-requires : goal.decided-testing_answer-requires
decided-testing_answer-requires t c = c.requires.0.ahead

pub decided-called-requires : goal.decided-called-requires
decided-called-requires t c = (omega (arith, c.decreases), (record { small = c.requires.0.small; room = omega (arith, c.requires.0.ahead, c.requires.0.room, c.testing_answer.ensures.within) }, c.requires.1.0))

pub decided-returns-then-is_kind-2 : goal.decided-returns-then-is_kind-2
decided-returns-then-is_kind-2 t c = after_two c.testing_answer.ensures c.called.ensures (D.condition_call _ _ _ _ _ _ _ _ (tells c.is_kind-2.ensures c.if-is_kind-2.true) c.testing_answer.ensures.says c.called.ensures.says)

pub decided-relation_of-requires : goal.decided-relation_of-requires
decided-relation_of-requires t c = c.requires.1.0

pub decided-testing-requires : goal.decided-testing-requires
decided-testing-requires t c = c.requires.0.ahead

pub decided-value-requires-in-None : goal.decided-value-requires-in-None
decided-value-requires-in-None t c = (omega (arith, c.decreases), record { small = c.requires.0.small; room = omega (arith, c.requires.0.ahead, c.requires.0.room, c.testing.ensures.within) })

pub decided-returns-in-None : goal.decided-returns-in-None
decided-returns-in-None t c = after_two c.testing.ensures c.value-in-None.ensures (D.condition_value _ _ _ _ _ _ _ _ (denies c.is_kind.ensures c.if-is_kind.false) (denies c.is_kind-2.ensures c.if-is_kind-2.false) c.requires.1.1.0 (D.not_both (get_or c.args.code.words.now (c.args.end - 4) 0) (first c.args.code.words.now c.args.end) c.requires.1.1.1) c.in-None.ensures refl c.place_of-p.ensures c.testing.ensures.says c.value-in-None.ensures.says)

pub decided-sides-right-requires : goal.decided-sides-right-requires
decided-sides-right-requires t c = omega (arith, c.requires.0.small)

pub decided-compare-requires : goal.decided-compare-requires
decided-compare-requires t c = (c.requires.1.0, c.requires.0.ahead)

pub decided-value-requires : goal.decided-value-requires
decided-value-requires t c = (omega (arith, c.decreases, c.requires.1.0), record { small = omega (arith, c.requires.0.small); room = omega (arith, c.requires.0.ahead, c.requires.0.room, c.compare.ensures.within) })

pub decided-value-requires-in-Some : goal.decided-value-requires-in-Some
decided-value-requires-in-Some t c = (omega (arith, c.decreases, c.requires.1.0, c.sides-right.ensures.within), record { small = omega (arith, c.requires.0.small, c.sides-right.ensures.within); room = omega (arith, c.requires.0.ahead, c.requires.0.room, c.compare.ensures.within, c.value.ensures.within) })

pub decided-returns-in-Some : goal.decided-returns-in-Some
decided-returns-in-Some t c = after_three c.compare.ensures c.value.ensures c.value-in-Some.ensures (D.condition_compare _ _ _ _ _ _ _ _ c.requires.0.small c.in-Some.ensures refl c.sides-right.ensures.sides_at c.compare.ensures.says c.value.ensures.says c.value-in-Some.ensures.says)

pub joined-start_of-middle-requires : goal.joined-start_of-middle-requires
joined-start_of-middle-requires t c = omega (arith, c.requires.0.small)

pub joined-returns-then-middle-lt4 : goal.joined-returns-then-middle-lt4
joined-returns-then-middle-lt4 t c = untouched (E.value_broken _ _ _ _ _ _ _ c.requires.1.1 c.start_of-middle.ensures.starts c.if-middle-lt4.true)

pub joined-jump-requires : goal.joined-jump-requires
joined-jump-requires t c = (c.settle.ensures.within, c.requires.0.room)

pub joined-value-requires : goal.joined-value-requires
joined-value-requires t c = (omega (arith, c.decreases, c.requires.1.0), record { small = omega (arith, c.requires.0.small); room = omega (arith, c.requires.0.room, c.settle.ensures.within, c.jump.ensures.within, c.carry.ensures.within) })

pub joined-condition-requires : goal.joined-condition-requires
joined-condition-requires t c = (omega (arith, c.decreases, c.requires.1.0, c.start_of-middle.ensures.within), record { small = omega (arith, c.requires.0.small, c.start_of-middle.ensures.within); ahead = omega (arith, c.jump.ensures.within, c.carry.ensures.within, c.value.ensures.within); room = omega (arith, c.settle.ensures.within, c.requires.0.room) })

pub joined-returns : goal.joined-returns
joined-returns t c = after_five c.settle.ensures c.jump.ensures c.carry.ensures c.value.ensures c.condition.ensures (E.value_join _ _ _ _ _ _ c.requires.1.1 c.start_of-middle.ensures.starts c.is_kind-other.ensures c.place_of-p.ensures (E.bit_of c.is_kind-other.result c.from-v.ensures) c.settle.ensures.says c.jump.ensures.says c.carry.ensures.says c.value.ensures.says c.condition.ensures.says)

pub value-loop-e-init : goal.value-loop-e-init
value-loop-e-init t c = (untouched E.leads_start, omega arith)

pub value-element-requires : goal.value-element-requires
value-element-requires t c = (c.loop-e-test.true, omega (arith, c.requires.room, c.loop-e.invariant.0.within))

pub value-loop-e-preserved-in-Element : goal.value-loop-e-preserved-in-Element
value-loop-e-preserved-in-Element t c = (after_two c.loop-e.invariant.0 c.element.ensures (E.leads_on c.loop-e.invariant.0.says (E.leads_element _ _ _ _ _ _ _ (sym c.in-Ok.ensures ∙ ap kind_number c.in-Element.is) c.element.ensures.says)), omega (arith, c.loop-e.invariant.1))

pub value-unary-requires : goal.value-unary-requires
value-unary-requires t c = c.loop-e-test.true

pub value-loop-e-preserved-in-Unary : goal.value-loop-e-preserved-in-Unary
value-loop-e-preserved-in-Unary t c = (after_two c.loop-e.invariant.0 c.unary.ensures (E.leads_on c.loop-e.invariant.0.says (E.leads_unary _ _ _ _ _ _ _ (sym c.in-Ok.ensures ∙ ap kind_number c.in-Unary.is) c.unary.ensures.says)), omega (arith, c.loop-e.invariant.1))

pub value-sides-right-requires : goal.value-sides-right-requires
value-sides-right-requires t c = omega (arith, c.requires.small, c.loop-e.invariant.1)

pub value-strict-requires : goal.value-strict-requires
value-strict-requires t c = (c.loop-e-test.true, omega (arith, c.requires.room, c.loop-e.invariant.0.within))

pub value-value-requires : goal.value-value-requires
value-value-requires t c = (omega (arith, c.decreases, c.loop-e.invariant.1, c.loop-e-test.true), record { small = omega (arith, c.requires.small, c.loop-e.invariant.1); room = omega (arith, c.requires.room, c.loop-e.invariant.0.within, c.strict.ensures.within) })

pub value-loop-e-smaller : goal.value-loop-e-smaller
value-loop-e-smaller t c = omega (arith, c.sides-right.ensures.within, c.loop-e-test.true)

pub value-loop-e-preserved : goal.value-loop-e-preserved
value-loop-e-preserved t c = (after_three c.loop-e.invariant.0 c.strict.ensures c.value.ensures (E.leads_on c.loop-e.invariant.0.says (E.leads_strict _ _ _ _ _ _ _ (omega (arith, c.requires.small, c.loop-e.invariant.1)) c.sides-right.ensures.sides_at (sym c.in-Ok.ensures ∙ ap kind_number c.in-Strict.is) c.strict.ensures.says c.value.ensures.says)), omega (arith, c.loop-e.invariant.1, c.sides-right.ensures.within))

pub value-called-requires : goal.value-called-requires
value-called-requires t c = (omega (arith, c.decreases, c.loop-e.invariant.1), (record { small = omega (arith, c.requires.small, c.loop-e.invariant.1); room = omega (arith, c.requires.room, c.loop-e.invariant.0.within, c.answered.ensures.within) }, c.loop-e-test.true))

pub value-returns-in-Call : goal.value-returns-in-Call
value-returns-in-Call t c = after_three c.loop-e.invariant.0 c.answered.ensures c.called.ensures (E.leads_to c.loop-e.invariant.0.says (E.value_call _ _ _ _ _ _ _ (sym c.in-Ok.ensures ∙ ap kind_number c.in-Call.is) c.answered.ensures.says c.called.ensures.says))

pub value-joined-requires : goal.value-joined-requires
value-joined-requires t c = (omega (arith, c.decreases, c.loop-e.invariant.1), (record { small = omega (arith, c.requires.small, c.loop-e.invariant.1); room = omega (arith, c.requires.room, c.loop-e.invariant.0.within) }, (c.loop-e-test.true, sym c.in-Ok.ensures ∙ ap kind_number c.in-Join.is)))

pub value-returns-in-Join : goal.value-returns-in-Join
value-returns-in-Join t c = after_two c.loop-e.invariant.0 c.joined.ensures (E.leads_to c.loop-e.invariant.0.says c.joined.ensures.says)

pub value-returns-in_default : goal.value-returns-in_default
value-returns-in_default t c = after_one c.loop-e.invariant.0 (E.leads_to c.loop-e.invariant.0.says (E.value_none _ _ _ _ _ _ _ (λ h. omega (arith, c.in_default.ensures, h)) (λ h. omega (arith, c.in_default.ensures, h)) (λ h. omega (arith, c.in_default.ensures, h)) (λ h. omega (arith, c.in_default.ensures, h)) (λ h. omega (arith, c.in_default.ensures, h))))

pub value-returns-in_default-kind : goal.value-returns-in_default-kind
value-returns-in_default-kind t c = after_one c.loop-e.invariant.0 (E.leads_to c.loop-e.invariant.0.says (E.value_none _ _ _ _ _ _ _ (apart K.Element c.in_default-kind.not-Element c.in-Ok.ensures) (apart K.Call c.in_default-kind.not-Call c.in-Ok.ensures) (apart K.Unary c.in_default-kind.not-Unary c.in-Ok.ensures) (apart K.Strict c.in_default-kind.not-Strict c.in-Ok.ensures) (apart K.Join c.in_default-kind.not-Join c.in-Ok.ensures)))

pub value-returns : goal.value-returns
value-returns t c = after_one c.loop-e.invariant.0 (E.leads_to c.loop-e.invariant.0.says (E.value_nowhere _ _ _ _ _ _ _ (omega (arith, c.loop-e-test.false))))
