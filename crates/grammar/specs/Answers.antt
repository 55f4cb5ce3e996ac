-- What `parse` promises: document 01 §1's answer 1 and, with the tree's words, all other texts. The answer is determined by the text and the rooms' lengths.
use Rattle.std.specs.Prelude.{◌≡◌, List, ◌⊎◌, ℕ, ◌<◌, length, Result}
use Rattle.std.proofs.lemmas.List.Edits.{sets}
use Rattle.language.specs.Tree.{Item}
use Rattle.language.specs.Tokens.{Answer.good, Answer.refused}
use Rattle.language.specs.Grammar.{Parses}
use Rattle.tokens.specs.Kinds.{token_room}
use Rattle.grammar.specs.Parse.{tree_of}
use Rattle.grammar.specs.Flat.{tree_words, tree_room}
use Rattle.tokens.specs.declared.Unread.{Unread}
use Rattle.tokens.specs.declared.Unread.TheVariants as unread
use Rattle.grammar.specs.declared.Parsed.{Parsed}

-- c arrays and functions in e words: the text has this tree, and its words stand at the tree's start
pub record Good (text before : List ℕ) (c e : ℕ) (after : List ℕ) : Type 0 where
  pub items : List Item
  pub parses : Parses text items
  pub says : tree_of text ≡ good items
  pub count : c ≡ length items
  pub size : e ≡ length (tree_words items)
  pub words : after ≡ sets before 0 (tree_words items)

-- the text has no tree, and its fault is at p
pub record Bad (text : List ℕ) (p : ℕ) : Type 0 where
  pub says : tree_of text ≡ refused p
  pub never : (items : List Item) → Parses text items → ⊥

abbrev pub Case : List ℕ → List ℕ → List ℕ → Result Parsed Unread → List ℕ → Type 0
Case text room before (Result.Ok t) after = Good text before t.items t.words after
Case text room before (Result.Err (unread.Unreadable p)) after = Bad text p
Case text room before (Result.Err unread.NoRoom) after = (length room < token_room) ⊎ (length before < tree_room)

pub record Answers (text room before : List ℕ) (r : Result Parsed Unread) (after : List ℕ) : Type 0 where
  pub by : Case text room before r after
