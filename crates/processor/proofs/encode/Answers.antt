-- The definition is met clause by clause (`word_of`); the rest are a round trip and the encoding's size.
use mathlib.Core.Path.{◌∙◌, ap}
use Rattle.processor.specs.Instructions.{decode_of}
use Rattle.processor.proofs.Round.{decode_encode, encode_small}
use Rattle.processor.proofs.encode.Goals as goal

pub returns : goal.returns
returns c = record { is = c.word_of.ensures; back = λ h. ap decode_of c.word_of.ensures ∙ decode_encode _ h; word = rw c.word_of.ensures (encode_small _) }
