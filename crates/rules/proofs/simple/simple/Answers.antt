-- One arm for each kind's number.
use native.Mathlib.Omega.{arith}
use mathlib.Core.Path.{sym, ap, ◌∙◌}
use Rattle.grammar.specs.Numbers.{number_of_statement}
use Rattle.rules.specs.Statements.{holds_blocks}
use Rattle.rules.proofs.Sorts.{holds_rest}
use Rattle.rules.proofs.Heading.{header_room}
use Rattle.rules.proofs.Moving as M
use Rattle.rules.proofs.Arms as L
use Rattle.rules.proofs.simple.simple.Goals as goal

pub assign-requires : goal.assign-requires
assign-requires g c = header_room c.requires.0

pub store-requires : goal.store-requires
store-requires g c = c.requires.0

pub leave-requires : goal.leave-requires
leave-requires g c = omega (arith, (header_room c.requires.0).header)

pub give-requires : goal.give-requires
give-requires g c = header_room c.requires.0

pub emit-requires : goal.emit-requires
emit-requires g c = header_room c.requires.0

pub run-requires : goal.run-requires
run-requires g c = c.requires.0

pub declare-requires : goal.declare-requires
declare-requires g c = (header_room c.requires.0, omega (arith, c.requires.0.all.for_locals, c.requires.0.all.visible, c.requires.0.all.few))

pub declare-requires-in-DeclareBool : goal.declare-requires-in-DeclareBool
declare-requires-in-DeclareBool g c = (header_room c.requires.0, omega (arith, c.requires.0.all.for_locals, c.requires.0.all.visible, c.requires.0.all.few))

pub returns-in-Assign : goal.returns-in-Assign
returns-in-Assign g c = record { statement = λ b. L.of_kind _ _ _ _ _ _ c.args.program.now.tree.now c.args.spot.tree _ _ _ _ _ c.requires.1 0 (sym c.in-Some.ensures ∙ ap number_of_statement c.in-Assign.is) c.assign.ensures.states b; moves = c.assign.ensures.moves }

pub returns-in-Store : goal.returns-in-Store
returns-in-Store g c = record { statement = λ b. L.of_kind _ _ _ _ _ _ c.args.program.now.tree.now c.args.spot.tree _ _ _ _ _ c.requires.1 1 (sym c.in-Some.ensures ∙ ap number_of_statement c.in-Store.is) c.store.ensures.states_two b; moves = c.store.ensures.moves }

pub returns-in-Leave : goal.returns-in-Leave
returns-in-Leave g c = record { statement = λ b. L.of_kind _ _ _ _ _ _ c.args.program.now.tree.now c.args.spot.tree _ _ _ _ _ c.requires.1 4 (sym c.in-Some.ensures ∙ ap number_of_statement c.in-Leave.is) (c.leave.ensures.leaves.by _ _ _) b; moves = c.leave.ensures.by_index _ }

pub returns-in-Give : goal.returns-in-Give
returns-in-Give g c = record { statement = λ b. L.of_kind _ _ _ _ _ _ c.args.program.now.tree.now c.args.spot.tree _ _ _ _ _ c.requires.1 5 (sym c.in-Some.ensures ∙ ap number_of_statement c.in-Give.is) c.give.ensures.states b; moves = c.give.ensures.moves }

pub returns-in-Emit : goal.returns-in-Emit
returns-in-Emit g c = record { statement = λ b. L.of_kind _ _ _ _ _ _ c.args.program.now.tree.now c.args.spot.tree _ _ _ _ _ c.requires.1 6 (sym c.in-Some.ensures ∙ ap number_of_statement c.in-Emit.is) c.emit.ensures.states b; moves = c.emit.ensures.moves }

pub returns-in-Run : goal.returns-in-Run
returns-in-Run g c = record { statement = λ b. L.of_kind _ _ _ _ _ _ c.args.program.now.tree.now c.args.spot.tree _ _ _ _ _ c.requires.1 7 (sym c.in-Some.ensures ∙ ap number_of_statement c.in-Run.is) c.run.ensures.runs b; moves = c.run.ensures.moves }

pub returns-in-DeclareInt : goal.returns-in-DeclareInt
returns-in-DeclareInt g c = record { statement = λ b. L.of_kind _ _ _ _ _ _ c.args.program.now.tree.now c.args.spot.tree _ _ _ _ _ c.requires.1 9 (sym c.in-Some.ensures ∙ ap number_of_statement c.in-DeclareInt.is) c.declare.ensures.states b; moves = c.declare.ensures.moves }

pub returns-in-DeclareBool : goal.returns-in-DeclareBool
returns-in-DeclareBool g c = record { statement = λ b. L.of_kind _ _ _ _ _ _ c.args.program.now.tree.now c.args.spot.tree _ _ _ _ _ c.requires.1 10 (sym c.in-Some.ensures ∙ ap number_of_statement c.in-DeclareBool.is) c.declare-in-DeclareBool.ensures.states b; moves = c.declare-in-DeclareBool.ensures.moves }

pub returns-in_default : goal.returns-in_default
returns-in_default g c = record { statement = λ b. L.of_none _ _ _ _ _ _ c.args.program.now.tree.now c.args.spot.tree _ _ _ _ _ c.requires.1 c.in_default.ensures; moves = M.stuck _ _ _ _ }

pub returns-in_default-kind : goal.returns-in_default-kind
returns-in_default-kind g c = record { statement = λ b. L.of_blocks _ _ _ _ _ _ c.args.program.now.tree.now c.args.spot.tree _ _ _ _ _ c.requires.1 (ap holds_blocks (sym c.in-Some.ensures) ∙ holds_rest _ c.in_default-kind.not-Assign c.in_default-kind.not-Store c.in_default-kind.not-Leave c.in_default-kind.not-Give c.in_default-kind.not-Emit c.in_default-kind.not-Run c.in_default-kind.not-DeclareInt c.in_default-kind.not-DeclareBool) b; moves = M.stuck _ _ _ _ }
