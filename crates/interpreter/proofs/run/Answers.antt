-- A run is the call of main, with the log empty and all activations to be made.
use Rattle.interpreter.proofs.Whole as L
use Rattle.interpreter.proofs.run.Goals as goal

pub returns : goal.returns
returns c = L.ran _ _ _ _ _ c.field-main.ensures c.call-called.ensures.calls c.from.ensures c.call-called.ensures.grows
