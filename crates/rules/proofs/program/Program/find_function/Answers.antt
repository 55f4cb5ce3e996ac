-- By the entry that is found, and by whether it is an array.
use Rattle.rules.proofs.Making as L
use Rattle.rules.proofs.program.Program.find_function.Goals as goal

pub returns-in_err-global : goal.returns-in_err-global
returns-in_err-global c = rw c.from_residual.ensures (L.no_thing_named _ c.args.name c.in_err-global.ensures)

pub returns-then-is_array : goal.returns-then-is_array
returns-then-is_array c = L.not_function _ c.args.name c.in_ok-global.ensures c.is_array.ensures c.if-is_array.true

pub returns : goal.returns
returns c = L.a_function_lem _ c.args.name c.in_ok-global.ensures c.is_array.ensures c.if-is_array.false
