-- The parts together: what the declarations count, `main`, the functions, and the program's words.
use mathlib.Core.Path.{◌≡◌, refl, sym, ap, subst, ◌∙◌}
use mathlib.Core.Bool.{Bool, true, false}
use mathlib.Core.List.{List, [], ◌∷◌, ◌++◌}
use Prim.Native.Nat.{ℕ, ◌+◌, ◌≤◌}
use native.Mathlib.Omega.{arith}
use lib.ListN.{length, drop}
use lib.Seq.{sets, sets-eq, length-sets}
use borrow.Author.Tests.{leb-true}
use Rattle.language.specs.Tree.{Place, Item, array, function}
use Rattle.language.specs.Core as C
use Rattle.language.specs.Grammar.{Parses}
use Rattle.language.specs.Rules.{Ruled, keeps, ◌>>=◌, need, Global, Declared, nothing_declared, declare, declare_all, main_of, functions_from, elaborate}
use Rattle.grammar.specs.Flat as G
use Rattle.grammar.specs.Answers.{Good}
use Rattle.grammar.proofs.FlatLaws.{items_linear}
use Rattle.rules.specs.Tables.{globals_in}
use Rattle.rules.proofs.Kept.{All, kept, then}
use Rattle.rules.proofs.Stating.{went, stopped}
use Rattle.std.specs.Prelude.{Result, Ok, Err}
use Rattle.rules.specs.declared.Broken.{Broken}
use Rattle.declarations.specs.declared.Tally.{Tally}
use Rattle.declarations.specs.declared.Reached.{Reached}
use Rattle.declarations.specs.Post.{Standing, declared_in, DeclareCase, DeclaresAll, function_count, FewParameters, MainCase, Begins, FillCase, Filled, Fills, built, Kept, ElaborateCase, Builds, Elaborates}
use Rattle.declarations.proofs.Names.{all_named}
use Rattle.declarations.proofs.Few.{tree_few}
use Rattle.declarations.proofs.Programs.{program_there, program_length}

-- What the declarations count

needed : (b : Bool) (at : Place) → All (λ u. b ≡ true) (need b at)
unfolding need
needed true at = kept refl
needed false at = record { holds = λ u e. let z : ◌≡◌ {A = ℕ} 0 1 = cc in absurd (omega arith) }

record One (i : Item) (d e : Declared) : Type 0 where
  few : (is : List Item) → FewParameters is → FewParameters (i ∷ is)
  count : (is : List Item) → e.functions + function_count is ≡ d.functions + function_count (i ∷ is)

one : (i : Item) (d : Declared) → All (One i d) (declare i d)
unfolding declare FewParameters function_count
one (array at x n) d =
    then (needed _ at) λ _ _.
    then (needed _ at) λ _ _.
    then (needed _ at) λ _ _.
    then (needed _ at) λ _ _.
    kept (record { few = λ is h. h; count = λ is. refl })
one (function at x ps r b) d =
    then (needed _ at) λ _ _.
    then (needed _ at) λ _ _.
    then (needed _ at) λ _ e.
    kept (record { few = λ is h. (leb-true (length ps) 8 e, h); count = λ is. omega arith })

record Tallied (is : List Item) (d e : Declared) : Type 0 where
  few : FewParameters is
  count : e.functions ≡ d.functions + function_count is

all : (is : List Item) (d : Declared) → All (Tallied is d) (declare_all is d)
unfolding declare_all FewParameters function_count
all [] d = kept (record { few = tt; count = omega arith })
all (i ∷ is) d = then (one i d) λ c o. record { holds = λ e q. let t = (all is c).holds e q in record { few = o.few is t.few; count = t.count ∙ o.count is } }

-- The program

module _ (text tree : List ℕ) (words : ℕ) (gs : List Global) (total elements : ℕ) (core : List ℕ) {s : Result ℕ Broken} (b : Begins gs (length text) s) where
  main_is : {u : Result ℕ Broken} → s ≡ u → MainCase (main_of gs (length text)) u
  main_is e = subst (MainCase (main_of gs (length text))) e b.by

  pub build_no_main : {d : Broken} {core' : List ℕ} → s ≡ Err d → Builds text tree words gs total elements core (Err d) core'
  unfolding built
  build_no_main e = record { by = λ is z few n. stopped _ (main_is e) }

  module _ {m : ℕ} (e : s ≡ Ok m) {core₁ : List ℕ} {r : Result Reached Broken} {core₂ : List ℕ} (h : core₁ ≡ sets core 0 (total ∷ m ∷ elements ∷ [])) (f : Fills text tree words gs total core₁ r core₂) where
    pub build_fault : {d : Broken} → r ≡ Err d → Builds text tree words gs total elements core (Err d) core₂
    unfolding built
    build_fault {d} k = record { by = λ is z few n. went _ (main_is e) (stopped _ (subst (λ (u : Result Reached Broken). FillCase (functions_from gs is) total core₁ u core₂) k (f.by is z few n))) }

    program_kept : {q : ℕ} (is : List Item) → Filled (functions_from gs is) total q core₁ core₂ → Kept (built gs is (length text) elements) q core core₂
    unfolding built
    program_kept is w = record {
      value = record { functions = w.value; main = m; elements = elements };
      is = went _ (main_is e) (went _ w.is refl);
      size = w.place ∙ program_length core w.value m elements total w.count;
      there = program_there core w.value m elements total w.count h w.there;
      short = w.short;
    }

    pub build_kept : {w : Reached} → r ≡ Ok w → Builds text tree words gs total elements core (Ok w.core) core₂
    build_kept k = record { by = λ is z few n. program_kept is (subst (λ (u : Result Reached Broken). FillCase (functions_from gs is) total core₁ u core₂) k (f.by is z few n)) }

-- The tree of a text

tree_words_lem : (before : List ℕ) (items : List Item) → length (G.tree_words items) ≤ length before → sets before 0 (G.tree_words items) ≡ G.items_words items (drop (length (G.tree_words items)) before)
unfolding G.tree_words
tree_words_lem before items l =
    sets-eq (G.items_words items []) before 0 (omega (arith, l)) ∙ (ap (λ (k : ℕ). G.items_words items [] ++ drop k before) {x = 0 + length (G.items_words items [])} {y = length (G.items_words items [])} (omega arith) ∙ sym (items_linear items (drop (length (G.items_words items [])) before)))

standing : (text tree : List ℕ) (words : ℕ) (items : List Item) (before : List ℕ) → length tree ≡ G.tree_room → Parses text items → tree ≡ sets before 0 (G.tree_words items) → words ≡ length (G.tree_words items) → Standing text tree words 0 items
unfolding G.tree_words
standing text tree words items before l p e n = record {
  more = drop (length (G.tree_words items)) before;
  is = e ∙ tree_words_lem before items (omega (arith, tree_few p, l, ap length e ∙ length-sets before 0 (G.tree_words items)));
  size = omega (arith, n);
  named = all_named p;
}

elaborate_is : (items : List Item) (end : Place) → elaborate items end ≡ declare_all items nothing_declared >>= λ d. built d.globals items end d.elements
unfolding elaborate built
elaborate_is items end = refl

module _ (text tree : List ℕ) (words : ℕ) (core : List ℕ) {r : Result Tally Broken} {globals : List ℕ} (l : length tree ≡ G.tree_room) (d : DeclaresAll text tree words r globals) where
  declared_is : {u : Result Tally Broken} → r ≡ u → (items : List Item) → Standing text tree words 0 items → DeclareCase text tree (declare_all items nothing_declared) u globals
  declared_is e items s = subst (λ (v : Result Tally Broken). DeclareCase text tree (declare_all items nothing_declared) v globals) e (d.by items s)

  pub whole_fault : {at : Broken} {core' : List ℕ} → r ≡ Err at → Elaborates text tree words core (Err at) core'
  whole_fault e = record { by = λ items before p t n. elaborate_is items (length text) ∙ stopped _ (declared_is e items (standing text tree words items before l p t n)) }

  whole_on : {w : Tally} {u : Result ℕ Broken} {core' : List ℕ} → r ≡ Ok w → Builds text tree words (globals_in text tree globals (w.arrays + w.functions)) w.functions w.elements core u core' → (items : List Item) → Standing text tree words 0 items → ElaborateCase (elaborate items (length text)) core u core'
  whole_on {w} {u} {core'} k b items s =
      let q : declare_all items nothing_declared ≡ keeps (declared_in text tree globals w.arrays w.elements w.functions) = declared_is k items s in
      let t : Tallied items nothing_declared (declared_in text tree globals w.arrays w.elements w.functions) = (all items nothing_declared).holds _ q in
      subst (λ (m : Ruled C.Program). ElaborateCase m core u core') (sym (elaborate_is items (length text) ∙ went _ q refl)) (b.by items s t.few (omega (arith, t.count)))

  pub whole : {w : Tally} {u : Result ℕ Broken} {core' : List ℕ} → r ≡ Ok w → Builds text tree words (globals_in text tree globals (w.arrays + w.functions)) w.functions w.elements core u core' → Elaborates text tree words core u core'
  whole k b = record { by = λ items before p t n. whole_on k b items (standing text tree words items before l p t n) }

-- For who calls `parse` first

pub tree_fits : {text before : List ℕ} {c e : ℕ} {tree : List ℕ} → Good text before c e tree → e ≤ G.tree_room
tree_fits g = rw g.size (tree_few g.parses)

pub of_parsed : {text before : List ℕ} {c e : ℕ} {tree core : List ℕ} {r : Result ℕ Broken} {core' : List ℕ} (g : Good text before c e tree) → Elaborates text tree e core r core' → ElaborateCase (elaborate g.items (length text)) core r core'
of_parsed {before = before} g x = x.by g.items before g.parses g.words g.size
