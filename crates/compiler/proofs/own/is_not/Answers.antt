-- Both words are looked at.
use Prim.Native.Nat.{◌-◌}
use lib.ListN.{get_or}
use Rattle.compiler.specs.Lies.{first}
use Rattle.compiler.proofs.Placing.{both_words, other_word}
use Rattle.compiler.proofs.own.is_not.Goals as goal

pub returns-then-is_kind : goal.returns-then-is_kind
returns-then-is_kind c = both_words (get_or c.args.words.now (c.args.end - 4) 0) (first c.args.words.now c.args.end) c.is_kind.ensures c.if-is_kind.true c.word.ensures

pub returns : goal.returns
returns c = other_word (get_or c.args.words.now (c.args.end - 4) 0) (first c.args.words.now c.args.end) c.is_kind.ensures c.if-is_kind.false
