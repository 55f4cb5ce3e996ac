-- The entries' cases, by what `accept` says of the text.
use Prim.Native.Nat.{ℕ, ◌+◌, ◌≤◌, ◌<◌}
use mathlib.Core.Logic.{◌⊎◌, inl, inr}
use Rattle.std.specs.Prelude.{Result, Ok, Err}
use mathlib.Core.Path.{◌≡◌, sym, ap, ◌∙◌, subst}
use mathlib.Core.List.{List, ◌++◌}
use native.Mathlib.Omega.{arith}
use lib.ListN.{length, drop}
use lib.Seq.{sets-eq}
use Rattle.language.specs.Tree.{Place, Item}
use Rattle.language.specs.Grammar.{Parses}
use Rattle.language.specs.Core.{Program}
use Rattle.language.specs.Rules.{elaborate}
use Rattle.language.specs.Text.{AnswerTo}
use Rattle.tokens.specs.Kinds.{token_room}
use Rattle.grammar.specs.Flat.{tree_room}
use Rattle.grammar.specs.Answers.{Answers}
use Rattle.tokens.specs.declared.Unread as T
use Rattle.tokens.specs.declared.Unread.TheVariants as U
use Rattle.flat.specs.Words.{words_of, words_then}
use Rattle.declarations.specs.Post.{Elaborates, Kept}
use Rattle.rules.specs.declared.Broken as R
use Rattle.toolchain.specs.Checking.{Declined, unreadable, broken, Answered, accepted, declined, core_room, number_of, place_of}
use Rattle.toolchain.specs.Accepting.{Made, Elaborated, elements_of}
use Rattle.toolchain.specs.declared.refusals.Refusal.{Refusal}
use Rattle.toolchain.specs.declared.refusals.Refusal.TheVariants.{Broken}
use Rattle.toolchain.specs.Refusals.{answer_in, from_reading}

-- the number of elements stands in the program's words
elements_at : (p : Program) (more core : List ℕ) → core ≡ words_of p ++ more → elements_of core ≡ p.elements
unfolding words_of words_then
elements_at p more core e = ap elements_of e

pub elements_are : {text core : List ℕ} {n k : ℕ} (m : Made text n core) → k ≡ elements_of core → k ≡ m.program.elements
elements_are {core = core} m e = e ∙ elements_at m.program m.more core m.there

pub accepted_with : {text core : List ℕ} {n k : ℕ} → Made text n core → k ≡ elements_of core → Answered text (Ok k)
accepted_with {text} m e = subst (λ (i : ℕ). Answered text (Ok i)) (sym (elements_are m e)) (accepted m.accepted)

-- the answer is one that document 01 §1 has for the text

declined_to : {text : List ℕ} {n : ℕ} {at : Place} → Declined text n at → AnswerTo text n
declined_to (unreadable u e) = AnswerTo.unreadable u
declined_to (broken b) = AnswerTo.broken b

pub answer_to : {text : List ℕ} {r : Result ℕ Refusal} → Answered text r → AnswerTo text (answer_in r)
answer_to (accepted a) = AnswerTo.accepted a
answer_to (declined d) = declined_to d

-- what `elaborate` says of a tree
module _ {text tree core core' : List ℕ} {words : ℕ} where
  pub program_of_lem : {n : ℕ} → Elaborates text tree words core (Ok n) core' → core_room ≤ length core → Elaborated text tree words (Ok n) core'
  program_of_lem {n} h room = record { by = λ items before p t w. whole items p (h.by items before p t w) }
    where
      whole : (items : List Item) → Parses text items → Kept (elaborate items (length text)) n core core' → Made text n core'
      whole items p k = record {
        program = k.value;
        accepted = record { items = items; parses = p; ruled = k.is };
        more = drop (0 + length (words_of k.value)) core;
        there = k.there ∙ sets-eq (words_of k.value) core 0 (let a = k.size in let b = k.short in omega (arith, a, b, room));
        size = k.size;
        short = k.short;
      }

  pub broken_of : {b : R.Broken} → Elaborates text tree words core (Err b) core' → Elaborated text tree words (Err (Broken b.0)) core'
  broken_of h = record { by = λ items before p t w. broken (record { items = items; parses = p; ruled = h.by items before p t w }) }

-- why `parse` gives no tree, where its rooms are long enough

too_short : {a b : ℕ} → (token_room ≤ a) × (tree_room ≤ b) → (a < token_room) ⊎ (b < tree_room) → ⊥
too_short rooms (inl l) = omega (arith, l, rooms.0)
too_short rooms (inr l) = omega (arith, l, rooms.1)

pub unread_of : {text room before after : List ℕ} (e : T.Unread) → (token_room ≤ length room) × (tree_room ≤ length before) → Answers text room before (Err e) after
    → Declined text (number_of (from_reading e)) (place_of (from_reading e))
unread_of (U.Unreadable at) rooms h = unreadable h.by.never h.by.says
unread_of U.NoRoom rooms h = absurd (too_short rooms h.by)
