-- `agree` meets its contract: an arm for each clause of the definition.
use mathlib.Core.Path.{sym, ◌∙◌}
use Rattle.agreement.specs.Agreement.{agrees_of}
use Rattle.agreement.proofs.agree.Goals as goal

pub returns-then-exits : goal.returns-then-exits
unfolding agrees_of
returns-then-exits c = rw (c.in-Finished.is, sym c.exits.ensures ∙ c.if-exits.true) c.left_same.ensures

pub returns-else-exits : goal.returns-else-exits
unfolding agrees_of
returns-else-exits c = rw (c.in-Finished.is, sym c.exits.ensures, c.if-exits.false)

pub returns-then-traps_with : goal.returns-then-traps_with
unfolding agrees_of
returns-then-traps_with c = rw (c.in-Trapped.is, sym c.traps_with.ensures ∙ c.if-traps_with.true) c.left_same-then-traps_with.ensures

pub returns-else-traps_with : goal.returns-else-traps_with
unfolding agrees_of
returns-else-traps_with c = rw (c.in-Trapped.is, sym c.traps_with.ensures, c.if-traps_with.false)

pub returns-then-not-faults : goal.returns-then-not-faults
unfolding agrees_of
returns-then-not-faults c = rw (c.in-OutOfFuel.is, sym c.faults.ensures, c.if-not-faults.true) c.begins.ensures

pub returns-else-not-faults : goal.returns-else-not-faults
unfolding agrees_of
returns-else-not-faults c = rw (c.in-OutOfFuel.is, sym c.faults.ensures, c.if-not-faults.false)
