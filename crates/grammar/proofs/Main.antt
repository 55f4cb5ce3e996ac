-- The front page: what is proved of document 01 §3. `tree_of` is the tree of a text; here is that it is what the derivations say.
use mathlib.Core.Path.{◌≡◌, refl, sym, ap, ◌∙◌}
use mathlib.Core.Logic.{◌↔◌}
use mathlib.Core.List.{List}
use Prim.Native.Nat.{ℕ, ◌≤◌}
use native.Mathlib.Omega.{arith}
use lib.ListN.{length}
use Rattle.language.specs.Tree.{Place, Item}
use Rattle.language.specs.Tokens.{Placed, Readable, Answer, Answer.good, Answer.refused, tokens_of}
use Rattle.language.specs.Grammar.{Parses}
use Rattle.tokens.proofs.Sound.{tokens_sound}
use Rattle.tokens.proofs.Complete.{tokens_complete}
use Rattle.tokens.proofs.Room.{tokens_few}
use Rattle.grammar.specs.Parse.{Out, Out.ok, Out.bad, many, program_of, answer_of, tree_in, tree_of}
use Rattle.grammar.proofs.Sound.{program_sound}
use Rattle.grammar.proofs.Complete.{program_complete}

pub few : {text : List ℕ} {ts : List Placed} → Readable text ts → length ts ≤ many
few h = omega (arith, tokens_few h, h.short)

-- a tree that is given derives
from_tokens : (text : List ℕ) (items : List Item) (a : Answer (List Placed)) → tokens_of text ≡ a → tree_in (length text) a ≡ good items → Parses text items
unfolding tree_in answer_of
from_tokens text items (refused p) q e = absurd (let z : ◌≡◌ {A = ℕ} 0 1 = cc in omega arith)
from_tokens text items (good ts) q e = go (program_of ts) refl e
  where
    go : (o : Out (List Item)) → program_of ts ≡ o → answer_of ts (length text) o ≡ good items → Parses text items
    go (ok xs j) r e = let x : xs ≡ items = cc in record { tokens = ts; reads = tokens_sound text ts q; derives = program_sound ts items j (r ∙ ap (λ (x : List Item). ok x j) x) }
    go (bad p) r e = absurd (let z : ◌≡◌ {A = ℕ} 0 1 = cc in omega arith)

pub tree_sound : (text : List ℕ) (items : List Item) → tree_of text ≡ good items → Parses text items
unfolding tree_of
tree_sound text items e = from_tokens text items (tokens_of text) refl e

-- a tree that derives is given
pub tree_complete : (text : List ℕ) (items : List Item) → Parses text items → tree_of text ≡ good items
unfolding tree_of tree_in answer_of
tree_complete text items h =
    ap (tree_in (length text)) (tokens_complete text h.tokens h.reads) ∙ ap (answer_of h.tokens (length text)) (program_complete h.tokens items (few h.reads) h.derives)

-- a text has this tree just when the function gives it
pub tree_agree : (text : List ℕ) (items : List Item) → (tree_of text ≡ good items) ↔ Parses text items
tree_agree text items = (tree_sound text items, tree_complete text items)

-- a text has one tree at most
pub tree_one : (text : List ℕ) (xs ys : List Item) → Parses text xs → Parses text ys → xs ≡ ys
tree_one text xs ys p q =
    let e : ◌≡◌ {A = Answer (List Item)} (good xs) (good ys) = sym (tree_complete text xs p) ∙ tree_complete text ys q in
    cc

-- a text that is refused has none: it is unreadable
pub refused_none : (text : List ℕ) (p : Place) → tree_of text ≡ refused p → (items : List Item) → Parses text items → ⊥
refused_none text p e items h =
    let q : ◌≡◌ {A = Answer (List Item)} (good items) (refused p) = sym (tree_complete text items h) ∙ e in
    let z : ◌≡◌ {A = ℕ} 0 1 = cc in
    omega arith
