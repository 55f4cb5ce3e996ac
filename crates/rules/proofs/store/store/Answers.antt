-- By both expressions, then by the array that is named and by their types.
use native.Mathlib.Omega.{arith}
use mathlib.Core.Path.{sym}
use Prim.Native.Nat.{◌+◌, ◌*◌}
use lib.Seq.{drop-drop}
use Rattle.grammar.specs.declared.tree.ValueType.TheVariants as K
use Rattle.rules.proofs.Valued as V
use Rattle.rules.proofs.Moving as M
use Rattle.rules.proofs.Heading.{header_room, stmt_on}
use Rattle.rules.proofs.Storing as L
use Rattle.rules.proofs.store.store.Goals as goal

pub first_expression-requires : goal.first_expression-requires
first_expression-requires g c = (header_room c.requires).after

pub second_expression-requires : goal.second_expression-requires
second_expression-requires g c = stmt_on c.requires c.first_expression.auto.types c.first_expression.auto.starts c.first_expression.auto.core

pub returns-in_default : goal.returns-in_default
returns-in_default g c = record { states_two = L.index_wrong _ _ _ _ _ _ _ _ _ _ _ c.first_expression.ensures c.in_ok-ty.was c.second_expression.ensures (sym (drop-drop (4 * c.args.head.first) (c.args.spot.tree + 8) c.args.program.now.tree.now)) c.in_ok-value.was c.in_default.ensures; moves = M.stuck _ _ _ _ }

pub returns-then-ne : goal.returns-then-ne
returns-then-ne g c = record { states_two = L.value_wrong _ _ _ _ _ _ _ _ _ _ _ c.first_expression.ensures c.in_ok-ty.was c.second_expression.ensures (sym (drop-drop (4 * c.args.head.first) (c.args.spot.tree + 8) c.args.program.now.tree.now)) c.in_ok-value.was (V.unlike _ K.Int c.ne.ensures c.if-ne.true); moves = M.stuck _ _ _ _ }

pub header_of_two-requires : goal.header_of_two-requires
header_of_two-requires g c = omega (arith, (header_room c.requires).header, c.first_expression.auto.core, c.second_expression.auto.core)

pub returns : goal.returns
returns g c = record { states_two = L.store_next _ _ _ _ _ _ _ _ _ _ _ c.first_expression.ensures c.in_ok-ty.was c.second_expression.ensures (sym (drop-drop (4 * c.args.head.first) (c.args.spot.tree + 8) c.args.program.now.tree.now)) c.in_ok-value.was _ c.in-Some.ensures (V.alike _ K.Int c.ne.ensures c.if-ne.false) c.header_of_two.ensures; moves = M.stays _ _ _ }

pub returns-in_err-value : goal.returns-in_err-value
returns-in_err-value g c = rw (V.passed _ c.from_residual-in_err-value.ensures.1) (record { states_two = L.value_fault _ _ _ _ _ _ _ _ _ _ _ c.first_expression.ensures c.in_ok-ty.was c.second_expression.ensures (sym (drop-drop (4 * c.args.head.first) (c.args.spot.tree + 8) c.args.program.now.tree.now)) c.in_err-value.was; moves = M.stuck _ _ _ _ })

pub returns-in_err-ty : goal.returns-in_err-ty
returns-in_err-ty g c = rw (V.passed _ c.from_residual.ensures.1) (record { states_two = L.index_fault _ _ _ _ _ _ _ _ _ _ _ c.first_expression.ensures c.in_err-ty.was; moves = M.stuck _ _ _ _ })
