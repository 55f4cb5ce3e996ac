-- `accept` meets its contract: so much of the tree's buffer as a tree has room for is handed on.
use lib.Seq.{length-take-le}
use Rattle.toolchain.proofs.accept.accept.Goals as goal

pub read-requires : goal.read-requires
read-requires c = (length-take-le _ _ c.requires.for_tree, c.requires.for_tokens, c.requires.for_starts, c.requires.for_core)
