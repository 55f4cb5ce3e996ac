-- What is laid piece by piece.
use Rattle.emission.specs.Macros.{placed}
use Rattle.emission.proofs.Tapes.{after_two}
use Rattle.emission.proofs.Calling.{stores}
use Rattle.emission.proofs.calls.stored.Goals as goal

pub returns : goal.returns
returns c = after_two c.store.ensures c.fetch.ensures (stores (placed c.args.p) c.args.n c.source-from.ensures c.store.ensures.says c.fetch.ensures.says)
