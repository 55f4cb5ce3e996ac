-- Document 01 §1: the answers to a text.
use Rattle.std.specs.Prelude.{List, ◌≡◌, ℕ, length}
use Rattle.language.specs.Tree.{Place, Item}
use Rattle.language.specs.Grammar.{Parses}
use Rattle.language.specs.Core.{Program}
use Rattle.language.specs.Rules.{keeps, breaks, elaborate}

-- "0: accepted": the text is readable, and its tree keeps the rules and gives this program
pub record Accepted (text : List ℕ) (program : Program) : Type 0 where
  pub items : List Item
  pub parses : Parses text items
  pub ruled : elaborate items (length text) ≡ keeps program

-- "1: unreadable (sections 2 and 3), or longer than that"
abbrev pub Unreadable : List ℕ → Type 0
Unreadable text = (items : List Item) → Parses text items → ⊥

-- "2: readable, but a rule of section 4 is broken", at this place
pub record Broken (text : List ℕ) (at : Place) : Type 0 where
  pub items : List Item
  pub parses : Parses text items
  pub ruled : elaborate items (length text) ≡ breaks at

-- "The smaller where both apply": an unreadable text has no tree, so that only one of them does.
pub data AnswerTo (text : List ℕ) : ℕ → Type 0 where
  accepted : {p : Program} → Accepted text p → AnswerTo text 0
  unreadable : Unreadable text → AnswerTo text 1
  broken : {at : Place} → Broken text at → AnswerTo text 2
