-- `main`, and then the functions.
use mathlib.Core.Path.{refl}
use native.Mathlib.Omega.{arith}
use Rattle.rules.proofs.Valued as V
use Rattle.declarations.proofs.Together as L
use Rattle.declarations.proofs.Rooms.{rooms_on}
use Rattle.declarations.proofs.whole.build.Goals as goal

pub put_header-requires : goal.put_header-requires
put_header-requires c = omega (arith, c.requires.0.for_core)

pub functions-requires : goal.functions-requires
functions-requires c = (rooms_on c.requires.0 refl refl refl c.put_header.auto.core, c.requires.1, c.requires.2)

pub returns : goal.returns
returns c = L.build_kept _ _ _ _ _ _ _ c.main_of.ensures c.in_ok-main.was c.put_header.ensures c.functions.ensures c.in_ok-reached.was

pub returns-in_err-reached : goal.returns-in_err-reached
returns-in_err-reached c = rw (V.passed _ c.from_residual-in_err-reached.ensures.1) (L.build_fault _ _ _ _ _ _ _ c.main_of.ensures c.in_ok-main.was c.put_header.ensures c.functions.ensures c.in_err-reached.was)

pub returns-in_err-main : goal.returns-in_err-main
returns-in_err-main c = rw (V.passed _ c.from_residual.ensures.1) (L.build_no_main _ _ _ _ _ _ _ c.main_of.ensures c.in_err-main.was)
