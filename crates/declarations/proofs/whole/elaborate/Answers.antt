-- The declarations, and then the rest.
use native.Mathlib.Omega.{arith}
use Rattle.rules.proofs.Valued as V
use Rattle.declarations.proofs.Together as L
use Rattle.declarations.proofs.Rooms.{rooms_from, few_in}
use Rattle.declarations.proofs.whole.elaborate.Goals as goal

pub declare_all-requires : goal.declare_all-requires
declare_all-requires c = (c.requires.for_globals, c.requires.words_there)

pub overflow_add-count : goal.overflow_add-count
overflow_add-count c = omega (arith, few_in c.declare_all.ensures.few c.in_ok-tally.was)

pub build-requires : goal.build-requires
build-requires c = (rooms_from c.requires, c.requires.words_there, (few_in c.declare_all.ensures.few c.in_ok-tally.was).functions)

pub returns : goal.returns
returns c = L.whole _ _ _ _ c.requires.whole_tree c.declare_all.ensures c.in_ok-tally.was c.build.ensures

pub returns-in_err-tally : goal.returns-in_err-tally
returns-in_err-tally c = rw (V.passed _ c.from_residual.ensures.1) (L.whole_fault _ _ _ _ c.requires.whole_tree c.declare_all.ensures c.in_err-tally.was)

pub invariant_of-program : goal.invariant_of-program
invariant_of-program c = omega (arith, (few_in c.declare_all.ensures.few c.in_ok-tally.was).arrays, (few_in c.declare_all.ensures.few c.in_ok-tally.was).functions)
