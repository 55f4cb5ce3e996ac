-- The table's word, or its last.
use native.Mathlib.Omega.{arith}
use Rattle.compiler.proofs.Placing.{entry_clamped}
use Rattle.compiler.proofs.calls.entry_of.Goals as goal

pub returns : goal.returns
returns c = record { value = entry_clamped c.args.entries.now c.args.f (λ h. omega (arith, h, c.saturating_sub-last.ensures, c.min-i.ensures)) (λ h. omega (arith, h, c.saturating_sub-last.ensures, c.min-i.ensures)) c.word.ensures c.position.ensures.value; within = c.position.ensures.within }
