-- Claims 1 and 2 of `check`: document 01 §1's answers to a text, the number and the place that a refusal carries, and how many elements an accepted
-- text's arrays have.
use Rattle.std.specs.Prelude.{ℕ, ◌≤◌, ◌≡◌, List, length, Option, Some, None, unwrap_or, Result, Ok, Err, ⊤}
use Rattle.language.specs.Tree.{Place}
use Rattle.language.specs.Tokens.{Answer.refused}
use Rattle.language.specs.Core.{Program}
use Rattle.language.specs.Text.{Accepted, Unreadable, Broken}
use Rattle.tokens.specs.Kinds.{token_room}
use Rattle.grammar.specs.Flat.{tree_room}
use Rattle.grammar.specs.Parse.{tree_of}
use Rattle.toolchain.specs.declared.work.Work.{Work}
use Rattle.toolchain.specs.declared.refusals.Refusal.{Refusal}
use Rattle.toolchain.specs.declared.refusals.Refusal.TheVariants.{Room}
use Rattle.toolchain.specs.declared.refusals.Refusal.TheVariants as R

-- Working room: four lent buffers, so many words each. What they hold before and afterwards is of no account.
abbrev pub work : List ℕ → List ℕ → List ℕ → List ℕ → Work
work a b c d = record { tokens = length a; tree = length b; starts = length c; core = length d }

-- a word for each item of a tree; the tree's words again, and before them those of a program and of 256 functions
abbrev pub starts_room : ℕ
starts_room = 131072

abbrev pub core_room : ℕ
core_room = 525315

pub record Enough (w : Work) : Type 0 where
  pub for_tokens : token_room ≤ w.tokens
  pub for_tree : tree_room ≤ w.tree
  pub for_starts : starts_room ≤ w.starts
  pub for_core : core_room ≤ w.core

-- it is enough, or refused where some of it is too short
abbrev pub Suffices : Work → Result ⊤ Refusal → Type 0
Suffices w (Ok u) = Enough w
Suffices w (Err r) = (r ≡ Room) × (Enough w → ⊥)

-- The answers that refuse: each has the documents' number (document 01 §1, document 03 §5), and those of a text a place in it.
abbrev pub number_of : Refusal → ℕ
number_of (R.Unreadable at) = 1
number_of (R.Broken at) = 2
number_of R.TooLong = 3
number_of R.Code = 4
number_of R.Input = 5
number_of R.Room = 6

abbrev pub place_in : Refusal → Option Place
place_in (R.Unreadable at) = Some at
place_in (R.Broken at) = Some at
place_in R.TooLong = None
place_in R.Code = None
place_in R.Input = None
place_in R.Room = None

-- the place, and 0 where there is none
abbrev pub place_of : Refusal → Place
place_of r = unwrap_or (place_in r) 0

-- Document 01 §1: the refusals of a text. Each carries a place in the text: of an unreadable text that of the token at fault, or the text's length
-- (`tree_of`); of a broken rule that which `elaborate` gives.
pub data Declined (text : List ℕ) : ℕ → Place → Type 0 where
  unreadable : {at : Place} → Unreadable text → tree_of text ≡ refused at → Declined text 1 at
  broken : {at : Place} → Broken text at → Declined text 2 at

-- Its answers: 0 with the number of elements of all arrays, or a refusal.
pub data Answered (text : List ℕ) : Result ℕ Refusal → Type 0 where
  accepted : {p : Program} → Accepted text p → Answered text (Ok p.elements)
  declined : {r : Refusal} → Declined text (number_of r) (place_of r) → Answered text (Err r)

-- `check`: 6 where working room is too short, else the text's answer.
pub record Checks (text : List ℕ) (w : Work) (r : Result ℕ Refusal) : Type 0 where
  pub answers : Enough w → Answered text r
  pub short : (Enough w → ⊥) → r ≡ Err Room
