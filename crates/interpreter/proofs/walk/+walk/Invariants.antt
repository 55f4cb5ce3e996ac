-- Each function of the cycle computes the flat meaning of what its words decode to. Measures: the activations that may still be made, then how deep
-- blocks may still nest, then who calls whom.
use Prim.Native.Nat.{◌*◌, ◌+◌, ◌-◌}
use lib.ListN.{take, drop}
use Rattle.interpreter.specs.Post.{world, Grows}
use Rattle.interpreter.proofs.Running as L
use Rattle.interpreter.proofs.walk.+walk.Given as goal

abbrev pub decreases-block : goal.decreases-block
decreases-block l = 1000 * l.this.left + 8 * l.depth + 5

abbrev pub decreases-call : goal.decreases-call
decreases-call l = 1000 * l.this.left

abbrev pub decreases-enter : goal.decreases-enter
decreases-enter l = 1000 * l.this.left + 1

abbrev pub decreases-one : goal.decreases-one
decreases-one l = 1000 * l.this.left + 3

abbrev pub decreases-scan : goal.decreases-scan
decreases-scan l = 1000 * l.this.left + 4

abbrev pub decreases-stmt : goal.decreases-stmt
decreases-stmt l = 1000 * l.this.left + 8 * l.depth + 7

abbrev pub decreases-store : goal.decreases-store
decreases-store l = 1000 * l.this.left + 5

abbrev pub decreases-turns : goal.decreases-turns
decreases-turns l = 1000 * l.this.left + 8 * l.depth + 6

abbrev pub decreases-act : goal.decreases-act
decreases-act l = 1000 * l.this.left + 2

abbrev pub invariant-block-loop : goal.invariant-block-loop
invariant-block-loop l = L.Blocking l.this.code.words.now l.this.room l.this.left l.depth l.fn.at.n (drop l.fn.at.p l.this.code.words.now) (take l.this.locals l.initial.work) (world l.initial.meter.fuel l.initial.meter.logged l.initial.log l.initial.arrays) (l.end - l.counter) (drop l.p l.this.code.words.now) (take l.this.locals l.work) (world l.meter.fuel l.meter.logged l.log l.arrays) × Grows l.this.room l.initial.meter.logged l.initial.log l.meter.logged l.log

abbrev pub invariant-scan-loop-at : goal.invariant-scan-loop-at
invariant-scan-loop-at l = L.Scanning l.this.code.words.now l.this.room l.this.left l.initial.at.n (drop l.initial.at.p l.this.code.words.now) (take l.this.locals l.initial.work) (world l.initial.meter.fuel l.initial.meter.logged l.initial.log l.initial.arrays) l.this.locals l.at.n (drop l.at.p l.this.code.words.now) l.h l.work (world l.meter.fuel l.meter.logged l.log l.arrays) × Grows l.this.room l.initial.meter.logged l.initial.log l.meter.logged l.log

abbrev pub decreases-scan-loop-at : goal.decreases-scan-loop-at
decreases-scan-loop-at l = l.at.n

abbrev pub invariant-turns-loop : goal.invariant-turns-loop
invariant-turns-loop l = L.Rounding l.this.code.words.now l.this.room l.this.left l.depth l.condition.n (drop l.condition.p l.this.code.words.now) l.body.n (drop l.body.p l.this.code.words.now) (take l.this.locals l.initial.work) (world l.initial.meter.fuel l.initial.meter.logged l.initial.log l.initial.arrays) (l.end - l.counter) (take l.this.locals l.work) (world l.meter.fuel l.meter.logged l.log l.arrays) × Grows l.this.room l.initial.meter.logged l.initial.log l.meter.logged l.log
