-- The layout decides; then the functions, the traps, the beginning and the bytes.
use native.Mathlib.Omega.{arith}
use Rattle.std.proofs.lemmas.Result.{err_from_is_err_and}
use Rattle.compiler.proofs.Layouts.{too_long, no_room, compiled}
use Rattle.compiler.proofs.Holding.{for_words}
use Rattle.compiler.proofs.programs.compile.Goals as goal

pub layout-requires : goal.layout-requires
layout-requires c = (omega (arith, c.requires.1.0, c.word-n.ensures), omega (arith, c.requires.1.1.0, c.word-n.ensures))

pub returns-in_err-end : goal.returns-in_err-end
returns-in_err-end c =
    let p = err_from_is_err_and c.from_residual.result c.from_residual.ensures.1 in
    rw p.1 (record { compiles = for_words c.requires.0 (too_long _ c.word-n.ensures c.in_err-end.ensures); bounded = tt })

pub returns-then-image-end : goal.returns-then-image-end
returns-then-image-end c = record { compiles = for_words c.requires.0 (no_room c.word-n.ensures c.in_ok-end.ensures _ c.if-image-end.true); bounded = tt }

pub bodies-requires : goal.bodies-requires
bodies-requires c = (omega (arith, c.requires.1.0, c.word-n.ensures), omega (arith, c.in_ok-end.ensures.small))

pub starting-requires : goal.starting-requires
starting-requires c = (omega (arith, c.in_ok-end.ensures.small, c.bodies.ensures.within, c.traps.ensures.within), omega (arith, c.entry_of-main.ensures.within))

pub bytes-requires : goal.bytes-requires
bytes-requires c = (omega (arith, c.in_ok-end.ensures.small, c.requires.1.1.1, c.bodies.ensures.long, c.traps.ensures.long, c.starting.ensures.long), omega (arith, c.if-image-end.false))

pub returns : goal.returns
returns c = record { compiles = for_words c.requires.0 (compiled c.word-n.ensures c.in_ok-end.ensures (omega (arith, c.requires.1.1.0, c.word-n.ensures, c.layout.auto)) c.requires.1.1.1 c.word.ensures c.entry_of-main.ensures.value c.bodies.ensures.says c.traps.ensures.says c.starting.ensures.says c.bytes.ensures); bounded = omega (arith, c.in_ok-end.ensures.small) }
