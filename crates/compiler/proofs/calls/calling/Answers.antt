-- The arguments are passed, and then the function is entered.
use Rattle.emission.proofs.Tapes.{after_two}
use Rattle.compiler.proofs.Calling.{callings}
use Rattle.compiler.proofs.calls.calling.Goals as goal

pub returns : goal.returns
returns c = after_two c.calling.ensures c.passes.ensures (callings c.entry_of-to.ensures.value c.word-f.ensures c.word-n.ensures c.calling.ensures.says c.passes.ensures.says)
