-- What the functions promise: each is the definition of document 01 §4 of the items that the tree's words stand for.
use Rattle.std.specs.Prelude.{◌≡◌, Bool, List, [], ◌∷◌, ℕ, suc, ◌+◌, ◌-◌, ◌*◌, ◌≤◌, ◌<◌, eqb, ltb, leb, length, drop, Result, Ok, Err, ⊤}
use Rattle.std.proofs.Math.Option.{Option}
use Rattle.std.proofs.lemmas.List.Edits.{sets}
use Rattle.word.specs.Choice.{pick, both}
use Rattle.language.specs.Tree.{Place, Name, Ty, Param, Item}
use Rattle.language.specs.Tree as T
use Rattle.language.specs.Core as C
use Rattle.language.specs.Rules.{Ruled, keeps, breaks, ◌>>=◌, ◌>>◌, need, absent, Scope, parameters, block, must_end, function_from, functions_from, elaborate, global_of, Global, Declared, nothing_declared, declare, declare_all, main_of, most_elements, most_arrays, most_elements_in_all, most_functions, most_parameters}
use Rattle.language.specs.Grammar.{Parses}
use Rattle.grammar.specs.Flat as G
use Rattle.grammar.specs.Flat.{tree_room}
use Rattle.flat.specs.Statements.{flats}
use Rattle.flat.specs.Words.{count, block_length, block_words, entries, bodies, entry, words_of}
use Rattle.rules.specs.Tables.{word, part, global_from, globals_in}
use Rattle.rules.specs.Named.{NamedParams, NamedItems}
use Rattle.rules.specs.Post.{scope_of}
use Rattle.rules.specs.declared.Broken.{Broken}
use Rattle.declarations.specs.declared.Tally.{Tally}
use Rattle.declarations.specs.declared.Reached.{Reached}

-- The room for the globals: two words for each of 64 arrays and 256 functions.

abbrev pub globals_room : ℕ
globals_room = 640

-- these items stand in the tree from word p on, up to the last word of all items; their names stand in the text
pub record Standing (text tree : List ℕ) (words p : ℕ) (items : List Item) : Type 0 where
  pub more : List ℕ
  pub is : drop p tree ≡ G.items_words items more
  pub size : words ≡ p + length (G.items_words items [])
  pub named : NamedItems text items

-- where the item after the one at p stands
unfoldable pub next_of : List ℕ → ℕ → ℕ
next_of tree p = pick (eqb (word tree p) 0) (p + 8) (p + 8 + 3 * word tree (p + 3) + word tree (p + 6))

-- The name of the item at p, and the rules of its declaration

abbrev pub name_at : List ℕ → List ℕ → ℕ → Name
name_at text tree p = part text (word tree (p + 1)) (word tree (p + 2))

unfoldable pub is_new : List ℕ → List ℕ → List ℕ → ℕ → ℕ → Bool
is_new text tree globals g p = absent (global_of (globals_in text tree globals g) (name_at text tree p))

unfoldable pub array_fits : ℕ → ℕ → ℕ → Bool
array_fits arrays elements n = both (both (leb 1 n) (leb n most_elements)) (both (ltb arrays most_arrays) (leb (elements + n) most_elements_in_all))

unfoldable pub function_fits : ℕ → ℕ → Bool
function_fits functions n = both (ltb functions most_functions) (leb n most_parameters)

-- a global more, after g of them
pub record Adds (globals : List ℕ) (g h v : ℕ) (globals' : List ℕ) : Type 0 where
  pub is : (text tree : List ℕ) → globals_in text tree globals' (g + 1) ≡ global_from text tree h v ∷ globals_in text tree globals g

-- Declarations

abbrev pub declared_in : List ℕ → List ℕ → List ℕ → ℕ → ℕ → ℕ → Declared
declared_in text tree globals arrays elements functions = record { globals = globals_in text tree globals (arrays + functions); arrays = arrays; elements = elements; functions = functions }

pub record Few (a e f : ℕ) : Type 0 where
  pub arrays : a ≤ most_arrays
  pub elements : e ≤ most_elements_in_all
  pub functions : f ≤ most_functions

abbrev pub FewIn : Result Tally Broken → Type 0
FewIn (Ok t) = Few t.arrays t.elements t.functions
FewIn (Err b) = Unit {0}

abbrev pub DeclareCase : List ℕ → List ℕ → Ruled Declared → Result Tally Broken → List ℕ → Type 0
DeclareCase text tree m (Ok t) globals' = m ≡ keeps (declared_in text tree globals' t.arrays t.elements t.functions)
DeclareCase text tree m (Err b) globals' = m ≡ breaks b.0

-- the item at p
pub record Declares (text tree : List ℕ) (p : ℕ) (globals : List ℕ) (arrays elements functions : ℕ) (r : Result Tally Broken) (globals' : List ℕ) : Type 0 where
  pub by : (words : ℕ) (i : Item) (is : List Item) → Standing text tree words p (i ∷ is) →
      DeclareCase text tree (declare i (declared_in text tree globals arrays elements functions)) r globals'
  pub few : FewIn r

-- all items
pub record DeclaresAll (text tree : List ℕ) (words : ℕ) (r : Result Tally Broken) (globals' : List ℕ) : Type 0 where
  pub by : (is : List Item) → Standing text tree words 0 is → DeclareCase text tree (declare_all is nothing_declared) r globals'
  pub few : FewIn r

-- `main`

abbrev pub MainCase : Ruled ℕ → Result ℕ Broken → Type 0
MainCase m (Ok f) = m ≡ keeps f
MainCase m (Err b) = m ≡ breaks b.0

pub record Begins (globals : List Global) (end : Place) (r : Result ℕ Broken) : Type 0 where
  pub by : MainCase (main_of globals end) r

-- Parameters

abbrev pub no_locals : (globals : List Global) → Scope globals
no_locals globals = record { visible = []; count = 0 }

abbrev pub TakeCase : (text : List ℕ) (globals : List Global) → Ruled (Scope globals) → ℕ → Result ⊤ Broken → List ℕ → Type 0
TakeCase text globals m n (Ok done) locals' = m ≡ keeps (scope_of globals text locals' n n)
TakeCase text globals m n (Err b) locals' = m ≡ breaks b.0

-- n parameters at ws
pub record Takes (text : List ℕ) (globals : List Global) (n : ℕ) (ws : List ℕ) (r : Result ⊤ Broken) (locals' : List ℕ) : Type 0 where
  pub by : (ps : List Param) (more : List ℕ) → ws ≡ G.params_words ps more → n ≡ length ps → NamedParams text ps →
      TakeCase text globals (parameters globals ps (no_locals globals)) n r locals'

-- The room for functions: an operand for each item of the tree; the core has at most as many words as the tree, besides its header and its entries.

-- "64 parameters and lets together per function", and one entry more
abbrev pub locals_room : ℕ
locals_room = 260

abbrev pub operands_room : ℕ
operands_room = 131072

-- a program's first words and the entries of 256 functions
abbrev pub head_words : ℕ
head_words = 1027

abbrev pub core_room : ℕ
core_room = tree_room + head_words

pub record Rooms (tree : List ℕ) (locals types starts core : List ℕ) : Type 0 where
  pub words : length tree ≡ tree_room
  pub for_locals : locals_room ≤ length locals
  pub for_types : operands_room ≤ length types
  pub for_starts : operands_room ≤ length starts
  pub for_core : core_room ≤ length core

-- an item at p, its body from q on, and its entry at e
pub record Placed (p q e : ℕ) : Type 0 where
  pub item : p < tree_room
  pub body : q ≤ p + head_words
  pub entry : e ≤ p + 3

-- Functions

-- n statements at ws are whatever block has them
pub record MustEnd (n : ℕ) (ws : List ℕ) (result : Option Ty) (r : Bool) : Type 0 where
  pub by : (b : T.Block) (more : List ℕ) → ws ≡ G.block_words b more → n ≡ G.count b → r ≡ must_end result b

-- the body, after the parameters, of which there are n
unfoldable pub finished : (globals : List Global) → Place → ℕ → Option Ty → T.Block → Scope globals → Ruled C.Function
finished globals at n r b s = do
  c ← block globals r b s
  need (must_end r b) at
  keeps (record { parameters = n; lets = c.1 - n; body = c.0 })

-- a function's words in the core: its entry, where its body stands at q, and its body
abbrev pub entry_of : C.Function → ℕ → List ℕ
entry_of f q = q ∷ count (flats f.body) ∷ f.parameters ∷ f.lets ∷ []

abbrev pub body_of : C.Function → List ℕ
body_of f = block_words (flats f.body) []

-- a function of the core, its body written from q on and its entry at e
pub record Made (b : T.Block) (m : Ruled C.Function) (q e : ℕ) (core core' : List ℕ) : Type 0 where
  pub value : C.Function
  pub is : m ≡ keeps value
  pub there : core' ≡ sets (sets core q (body_of value)) e (entry_of value q)
  pub size : block_length (flats value.body) ≡ length (G.block_words b [])

abbrev pub MakeCase : T.Block → Ruled C.Function → ℕ → ℕ → List ℕ → Result ⊤ Broken → List ℕ → Type 0
MakeCase b m q e core (Ok done) core' = Made b m q e core core'
MakeCase b m q e core (Err w) core' = m ≡ breaks w.0

pub record Finishes (text tree : List ℕ) (globals : List Global) (locals : List ℕ) (p q e n : ℕ) (core : List ℕ) (r : Result ⊤ Broken) (core' : List ℕ) : Type 0 where
  pub by : (words : ℕ) (at : Place) (x : Name) (ps : List Param) (t : Option Ty) (b : T.Block) (is : List Item) → Standing text tree words p (T.function at x ps t b ∷ is) → n ≡ length ps →
      MakeCase b (finished globals at n t b (scope_of globals text locals n n)) q e core r core'

pub record Makes (text tree : List ℕ) (globals : List Global) (p q e : ℕ) (core : List ℕ) (r : Result ⊤ Broken) (core' : List ℕ) : Type 0 where
  pub by : (words : ℕ) (at : Place) (x : Name) (ps : List Param) (t : Option Ty) (b : T.Block) (is : List Item) → Standing text tree words p (T.function at x ps t b ∷ is) → length ps ≤ most_parameters →
      MakeCase b (function_from globals at ps t b) q e core r core'

-- how many functions there are, and that none has too many parameters
unfoldable pub function_count : List Item → ℕ
function_count [] = 0
function_count (T.array at x n ∷ is) = function_count is
function_count (T.function at x ps r b ∷ is) = suc (function_count is)

unfoldable pub FewParameters : List Item → Type 0
FewParameters [] = Unit {0}
FewParameters (T.array at x n ∷ is) = FewParameters is
FewParameters (T.function at x ps r b ∷ is) = (length ps ≤ most_parameters) × FewParameters is

-- one item
abbrev pub PassCase : List Global → ℕ → ℕ → List ℕ → Item → Result Reached Broken → List ℕ → Type 0
PassCase globals q f core (T.array at x n) (Ok r) core' = (r.core ≡ q) × (r.functions ≡ f) × (core' ≡ core)
PassCase globals q f core (T.function at x ps t b) (Ok r) core' =
    (r.core ≡ q + length (G.block_words b [])) × (r.functions ≡ f + 1) × Made b (function_from globals at ps t b) q (entry f) core core'
PassCase globals q f core (T.array at x n) (Err b) core' = ⊥
PassCase globals q f core (T.function at x ps t c) (Err b) core' = function_from globals at ps t c ≡ breaks b.0

abbrev pub PassBound : List ℕ → ℕ → ℕ → ℕ → Result Reached Broken → Type 0
PassBound tree p q f (Ok r) = (r.core + p ≤ q + next_of tree p) × (r.functions ≤ f + 1)
PassBound tree p q f (Err b) = Unit {0}

pub record Passes (text tree : List ℕ) (globals : List Global) (p q f : ℕ) (core : List ℕ) (r : Result Reached Broken) (core' : List ℕ) : Type 0 where
  pub by : (words : ℕ) (i : Item) (is : List Item) → Standing text tree words p (i ∷ is) → FewParameters (i ∷ is) → PassCase globals q f core i r core'
  pub bounded : PassBound tree p q f r

-- all functions: the two rows of the core
pub record Filled (m : Ruled (List C.Function)) (total q : ℕ) (core core' : List ℕ) : Type 0 where
  pub value : List C.Function
  pub is : m ≡ keeps value
  pub count : length value ≡ total
  pub place : q ≡ entry total + length (bodies value [])
  pub there : core' ≡ sets (sets core 3 (entries value (entry total) [])) (entry total) (bodies value [])
  pub short : q ≤ core_room

abbrev pub FillCase : Ruled (List C.Function) → ℕ → List ℕ → Result Reached Broken → List ℕ → Type 0
FillCase m total core (Ok r) core' = Filled m total r.core core core'
FillCase m total core (Err b) core' = m ≡ breaks b.0

pub record Fills (text tree : List ℕ) (words : ℕ) (globals : List Global) (total : ℕ) (core : List ℕ) (r : Result Reached Broken) (core' : List ℕ) : Type 0 where
  pub by : (is : List Item) → Standing text tree words 0 is → FewParameters is → total ≡ function_count is → FillCase (functions_from globals is) total core r core'

-- The whole

-- after the declarations
unfoldable pub built : List Global → List Item → Place → ℕ → Ruled C.Program
built globals is end elements = do
  m ← main_of globals end
  fs ← functions_from globals is
  keeps (record { functions = fs; main = m; elements = elements })

-- a core program of n words, at the core's start
pub record Kept (m : Ruled C.Program) (n : ℕ) (core core' : List ℕ) : Type 0 where
  pub value : C.Program
  pub is : m ≡ keeps value
  pub size : n ≡ length (words_of value)
  pub there : core' ≡ sets core 0 (words_of value)
  pub short : n ≤ core_room

abbrev pub ElaborateCase : Ruled C.Program → List ℕ → Result ℕ Broken → List ℕ → Type 0
ElaborateCase m core (Ok n) core' = Kept m n core core'
ElaborateCase m core (Err b) core' = m ≡ breaks b.0

pub record Builds (text tree : List ℕ) (words : ℕ) (globals : List Global) (total elements : ℕ) (core : List ℕ) (r : Result ℕ Broken) (core' : List ℕ) : Type 0 where
  pub by : (is : List Item) → Standing text tree words 0 is → FewParameters is → total ≡ function_count is → ElaborateCase (built globals is (length text) elements) core r core'

-- the rooms that are lent, and the tree's words
pub record Lent (tree : List ℕ) (words : ℕ) (globals locals types starts core : List ℕ) : Type 0 where
  pub whole_tree : length tree ≡ tree_room
  pub words_there : words ≤ tree_room
  pub for_globals : globals_room ≤ length globals
  pub for_locals : locals_room ≤ length locals
  pub for_types : operands_room ≤ length types
  pub for_starts : operands_room ≤ length starts
  pub for_core : core_room ≤ length core

-- the text's tree, as `parse` gives it: its words were written to the tree's start
pub record Elaborates (text tree : List ℕ) (words : ℕ) (core : List ℕ) (r : Result ℕ Broken) (core' : List ℕ) : Type 0 where
  pub by : (items : List Item) (before : List ℕ) → Parses text items → tree ≡ sets before 0 (G.tree_words items) → words ≡ length (G.tree_words items) → ElaborateCase (elaborate items (length text)) core r core'
