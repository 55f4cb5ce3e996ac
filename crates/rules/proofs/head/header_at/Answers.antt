-- Each word is the tree's.
use Rattle.rules.proofs.Heading as L
use Rattle.rules.proofs.head.header_at.Goals as goal

pub returns : goal.returns
returns c = L.heads c.args.tree.now c.args.p c.word.ensures c.word-2.ensures c.word-3.ensures c.word-4.ensures c.word-5.ensures c.word-6.ensures c.word-7.ensures c.word-8.ensures
