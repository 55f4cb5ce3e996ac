-- By the result's type.
use Rattle.declarations.proofs.Finishing as L
use Rattle.declarations.proofs.functions.must_end.Goals as goal

pub returns-in-None : goal.returns-in-None
returns-in-None g c = L.need_not_end _ _ c.in-None.ensures

pub ends_in_return-requires : goal.ends_in_return-requires
ends_in_return-requires g c = c.requires

pub returns-in-Some : goal.returns-in-Some
returns-in-Some g c = L.must_end_lem c.in-Some.ensures c.ends_in_return.ensures
