-- What the entries' parts ensure: of a text, its program's words or its answer; of a program's words, the run.
use Rattle.std.specs.Prelude.{ℕ, ◌≤◌, ◌≡◌, List, ◌++◌, length, get_or, Result, Ok, Err}
use Rattle.std.proofs.lemmas.List.Edits.{sets}
use Rattle.language.specs.Tree.{Item}
use Rattle.language.specs.Grammar.{Parses}
use Rattle.language.specs.Core.{Program}
use Rattle.language.specs.Text.{Accepted}
use Rattle.grammar.specs.Flat.{tree_words}
use Rattle.flat.specs.Words.{words_of}
use Rattle.toolchain.specs.Checking.{Enough, Declined, core_room, number_of, place_of}
use Rattle.toolchain.specs.Interpretation.{Lent, Interprets}
use Rattle.interpreter.specs.declared.Ran as I
use Rattle.toolchain.specs.declared.work.Work.{Work}
use Rattle.toolchain.specs.declared.refusals.Refusal.{Refusal}

-- the text's program, whose n words stand first in the core's buffer
pub record Made (text : List ℕ) (n : ℕ) (core : List ℕ) : Type 0 where
  pub program : Program
  pub accepted : Accepted text program
  pub more : List ℕ
  pub there : core ≡ words_of program ++ more
  pub size : n ≡ length (words_of program)
  pub short : n ≤ core_room

-- the third word of a program: how many elements there are
abbrev pub elements_of : List ℕ → ℕ
elements_of core = get_or core 2 0

abbrev pub AcceptCase : List ℕ → Result ℕ Refusal → List ℕ → Type 0
AcceptCase text (Ok n) core' = Made text n core'
AcceptCase text (Err r) core' = Declined text (number_of r) (place_of r)

pub record Accepts (text : List ℕ) (r : Result ℕ Refusal) (core' : List ℕ) : Type 0 where
  pub by : AcceptCase text r core'

-- the same, for a tree's words that the text's tree has
pub record Elaborated (text tree : List ℕ) (words : ℕ) (r : Result ℕ Refusal) (core' : List ℕ) : Type 0 where
  pub by : (items : List Item) (before : List ℕ) → Parses text items → tree ≡ sets before 0 (tree_words items) → words ≡ length (tree_words items) → AcceptCase text r core'

-- the run of an accepted text's program, whatever text that is
pub record RunsWords (core input : List ℕ) (fuel room : ℕ) (before after : Lent) (r : Result I.Ran Refusal) : Type 0 where
  pub by : (text : List ℕ) (w : Work) (n : ℕ) → Enough w → Made text n core → Interprets text input fuel room w before after r
