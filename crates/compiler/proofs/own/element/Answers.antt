-- The array is the item's, the index its operand.
use Rattle.emission.proofs.Tapes.{after_one}
use Rattle.compiler.proofs.Placing.{reads}
use Rattle.compiler.proofs.own.element.Goals as goal

pub returns : goal.returns
returns c = after_one c.reading.ensures (reads c.word-offset.ensures c.word-size.ensures c.place_of-p.ensures c.reading.ensures.says)
