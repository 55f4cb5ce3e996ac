-- Each function of the cycle emits the code of what ends where it looks. Measures: the position, then who calls whom.
use Prim.Native.Nat.{◌*◌, ◌+◌, ◌≤◌}
use Rattle.emission.specs.OnTape.{OnTape}
use Rattle.compiler.proofs.Calling as A
use Rattle.compiler.proofs.Valuing as E
use Rattle.compiler.proofs.Deciding as D
use Rattle.compiler.proofs.values.+arguments_called_condition_decided_joined_value.Given as goal

abbrev pub decreases-arguments : goal.decreases-arguments
decreases-arguments l = 8589934592 * l.end + 4 + l.n

abbrev pub decreases-called : goal.decreases-called
decreases-called l = 8589934592 * l.end

abbrev pub decreases-condition : goal.decreases-condition
decreases-condition l = 8589934592 * l.end + 3

abbrev pub decreases-decided : goal.decreases-decided
decreases-decided l = 8589934592 * l.end + 2

abbrev pub decreases-joined : goal.decreases-joined
decreases-joined l = 8589934592 * l.end

abbrev pub decreases-value : goal.decreases-value
decreases-value l = 8589934592 * l.end + 1

abbrev pub invariant-condition-loop-e : goal.invariant-condition-loop-e
invariant-condition-loop-e l = OnTape (λ at us us' r. D.Heads l.code.words.now l.code.entries.now l.code.near l.d l.t l.end at l.to us l.truth l.e r l.goal us') l.initial.tape l.tape × (l.e ≤ l.end) × (l.tape.at ≤ l.goal) × (l.goal ≤ 262144)

abbrev pub decreases-condition-loop-e : goal.decreases-condition-loop-e
decreases-condition-loop-e l = l.e

abbrev pub invariant-value-loop-e : goal.invariant-value-loop-e
invariant-value-loop-e l = OnTape (λ at us us' r. E.Leads l.code.words.now l.code.entries.now l.code.near l.d l.end at us l.e r us') l.initial.tape l.tape × (l.e ≤ l.end)

abbrev pub decreases-value-loop-e : goal.decreases-value-loop-e
decreases-value-loop-e l = l.e

abbrev pub invariant-arguments-loop-i : goal.invariant-arguments-loop-i
invariant-arguments-loop-i l = OnTape (λ at us us' r. A.ArgumentsLeft l.code.words.now l.code.entries.now l.code.near l.end l.n l.d at us l.e l.i r us') l.initial.tape l.tape × (l.e ≤ l.end)
