-- What statements and blocks promise: each is the definition of document 01 §4 of whatever statement or block the words are, and the locals that were
-- visible before it stay.
use Rattle.std.specs.Prelude.{◌≡◌, Bool, true, List, [], ◌∷◌, ℕ, ◌+◌, ◌*◌, ◌≤◌, ◌<◌, eqb, length, drop, Result, Ok, Err, ⊤}
use Rattle.std.proofs.Math.Option as M
use Rattle.std.proofs.lemmas.List.Edits.{sets}
use Rattle.word.specs.Choice.{pick}
use Rattle.language.specs.Tree.{Ty, int, bool}
use Rattle.language.specs.Tree as T
use Rattle.language.specs.Core as C
use Rattle.language.specs.Rules.{Ruled, keeps, breaks, Global, global_of, is_function, and_then, ◌>>=◌, Local, most_locals, want, expr, stmt, block, is_return, ends_in_return}
use Rattle.grammar.specs.Flat as G
use Rattle.flat.specs.Items.{code}
use Rattle.flat.specs.Statements.{flats}
use Rattle.flat.specs.Words.{items_words, block_words, block_length, count}
use Rattle.rules.specs.Tables.{word, part}
use Rattle.rules.specs.Named.{NamedExpr, NamedArgs, NamedStmt, NamedBlock}
use Rattle.rules.specs.Scan.{Operand, Node, call_node}
use Rattle.rules.specs.Post.{Room, scope_of, StmtCase}
use Rattle.rules.specs.Bounds.{most_places}
use Rattle.std.specs.Prelude as P
use Rattle.grammar.specs.Numbers.{number_of_statement}
use Rattle.grammar.specs.declared.tree.Statement as K
use Rattle.rules.specs.declared.head.Head as H
use Rattle.rules.specs.declared.Scope as S
use Rattle.rules.specs.declared.Broken.{Broken}

-- the eight words of a header
pub record Heads (ws : List ℕ) (kind at size items more_items statements more_statements rest : ℕ) : Type 0 where
  pub is_kind : kind ≡ word ws 0
  pub is_at : at ≡ word ws 1
  pub is_size : size ≡ word ws 2
  pub is_items : items ≡ word ws 3
  pub is_more_items : more_items ≡ word ws 4
  pub is_statements : statements ≡ word ws 5
  pub is_more_statements : more_statements ≡ word ws 6
  pub is_rest : rest ≡ word ws 7

-- the kind whose number this is; or it is no kind's

abbrev pub KindCase : ℕ → P.Option K.Statement → Type 0
KindCase n P.None = 10 < n
KindCase n (P.Some s) = number_of_statement s ≡ n

-- a header that was read; or the kind that stands there is no statement's

abbrev pub Headed : List ℕ → H.Head K.Statement → Type 0
Headed ws h = Heads ws (number_of_statement h.kind) h.at h.size h.first h.second h.body h.other h.rest

abbrev pub HeadCase : List ℕ → P.Option (H.Head K.Statement) → Type 0
HeadCase ws P.None = 10 < word ws 0
HeadCase ws (P.Some h) = Headed ws h

-- The locals: those that were visible stay, and there are no more than the rules let be.

pub record Within (l count l' count' : ℕ) : Type 0 where
  pub visible : l ≤ l'
  pub counted : count ≤ count'
  pub among : l ≤ count → l' ≤ count'
  pub few : count ≤ most_locals → count' ≤ most_locals

abbrev pub StepCase : ℕ → ℕ → Result S.Scope Broken → Type 0
StepCase l count (Ok s) = Within l count s.visible s.count
StepCase l count (Err b) = Unit {0}

pub record Moves (l count : ℕ) (locals : List ℕ) (r : Result S.Scope Broken) (locals' : List ℕ) : Type 0 where
  pub kept : (i : ℕ) → i < 4 * l → word locals' i ≡ word locals i
  pub within : StepCase l count r

-- The room for a block, and for a statement whose header says how many words follow it

-- one entry more than "64 parameters and lets together per function"
abbrev pub locals_room : ℕ
locals_room = 260

pub record BlockRoom (tree : List ℕ) (locals : List ℕ) (l count : ℕ) (types starts core : List ℕ) (p q : ℕ) : Type 0 where
  pub room : Room tree l types starts core p q
  pub for_locals : locals_room ≤ length locals
  pub visible : l ≤ count
  pub few : count ≤ most_locals
  -- places in the core stay small as p and q go on together
  pub core_far : q + length tree ≤ p + most_places

pub record StmtRoom (tree : List ℕ) (locals : List ℕ) (l count : ℕ) (types starts core : List ℕ) (p q rest : ℕ) : Type 0 where
  pub all : BlockRoom tree locals l count types starts core p q
  pub whole : p + 8 + rest ≤ length tree

-- Statements

-- the type that a declaration of this kind declares
unfoldable pub declared_type : ℕ → Ty
declared_type k = pick (eqb k 10) bool int

-- two expressions, of n and m items, in rest words at ws
pub record StatesTwo (text : List ℕ) (globals : List Global) (locals : List ℕ) (l count : ℕ) (result : M.Option Ty) (build : T.Expr → T.Expr → T.Stmt) (n m rest : ℕ) (ws : List ℕ) (q : ℕ) (core : List ℕ) (r : Result S.Scope Broken)
    (locals' core' : List ℕ) : Type 0 where
  pub by : (i e : T.Expr) (more : List ℕ) → ws ≡ G.expr_words i (G.expr_words e more) → n ≡ G.size i → m ≡ G.size e → rest ≡ G.expr_length i + G.expr_length e → NamedExpr text i → NamedExpr text e →
      StmtCase globals text (stmt globals result (build i e) (scope_of globals text locals l count)) q core r locals' core'

-- a call whose result is dropped: the arguments are the uppermost operands
unfoldable pub dropped_node : List ℕ → List Global → ℕ → ℕ → ℕ → List Operand → M.Option Node
dropped_node text globals p a n os = and_then (global_of globals (part text p a)) (λ g. and_then (is_function g.thing) (λ s. call_node s n 0 0 int os))

-- a call as a statement: n items, in rest words at ws
pub record Runs (text : List ℕ) (globals : List Global) (locals : List ℕ) (l count : ℕ) (result : M.Option Ty) (at : ℕ) (x : T.Name) (n rest : ℕ) (ws : List ℕ) (q : ℕ) (core : List ℕ) (r : Result S.Scope Broken) (locals' core' : List ℕ) : Type 0 where
  pub by : (xs : T.Args) (more : List ℕ) → ws ≡ G.run_words at x xs more → n ≡ G.sizes xs + 1 → rest ≡ length (G.run_words at x xs []) → NamedArgs text xs →
      StmtCase globals text (stmt globals result (T.run at x xs) (scope_of globals text locals l count)) q core r locals' core'

-- whether a statement of this kind has blocks: those of `choose`, `while` and `when` have
unfoldable pub holds_blocks : ℕ → Bool
holds_blocks k = pick (eqb k 2) true (pick (eqb k 3) true (eqb k 8))

-- whatever statement the words at ws are
pub record Statement (text : List ℕ) (globals : List Global) (locals : List ℕ) (l count : ℕ) (result : M.Option Ty) (ws : List ℕ) (q : ℕ) (core : List ℕ) (r : Result S.Scope Broken) (locals' core' : List ℕ) : Type 0 where
  pub by : (s : T.Stmt) (more : List ℕ) → ws ≡ G.stmt_words s more → NamedStmt text s → StmtCase globals text (stmt globals result s (scope_of globals text locals l count)) q core r locals' core'

-- what a condition gives: an expression of the core, written from q on, in as many items as the tree's
pub record Tested (e : T.Expr) (m : Ruled C.Expr) (q : ℕ) (core core' : List ℕ) : Type 0 where
  pub value : C.Expr
  pub is : m ≡ keeps value
  pub there : core' ≡ sets core q (items_words (code value 0 []) [])
  pub many : length (code value 0 []) ≡ G.size e

abbrev pub TestCase : T.Expr → Ruled C.Expr → ℕ → List ℕ → Result ⊤ Broken → List ℕ → Type 0
TestCase e m q core (Ok done) core' = Tested e m q core core'
TestCase e m q core (Err b) core' = m ≡ breaks b.0

-- "conditions take bools": n items at ws
pub record Conditions (text : List ℕ) (globals : List Global) (locals : List Local) (at n : ℕ) (ws : List ℕ) (q : ℕ) (core : List ℕ) (r : Result ⊤ Broken) (core' : List ℕ) : Type 0 where
  pub by : (e : T.Expr) (more : List ℕ) → ws ≡ G.expr_words e more → n ≡ G.size e → NamedExpr text e → TestCase e (expr globals locals e >>= want bool at) q core r core'

-- the header of a statement with blocks
unfoldable pub nest_words : ℕ → ℕ → ℕ → ℕ → ℕ → ℕ → List ℕ
nest_words k size n s t rest = pick (eqb k 3) (3 ∷ 0 ∷ 0 ∷ n ∷ 0 ∷ s ∷ t ∷ rest ∷ []) (2 ∷ size ∷ 0 ∷ n ∷ 0 ∷ s ∷ t ∷ rest ∷ [])

-- Blocks

-- what elaboration gives: a block of the core, written from q on, in as many words and statements as the tree's
pub record Blocked (b : T.Block) (m : Ruled (C.Block × ℕ)) (q : ℕ) (core : List ℕ) (counted : ℕ) (core' : List ℕ) : Type 0 where
  pub value : C.Block
  pub is : m ≡ keeps (value, counted)
  pub there : core' ≡ sets core q (block_words (flats value) [])
  pub size : block_length (flats value) ≡ length (G.block_words b [])
  pub statements : count (flats value) ≡ G.count b

abbrev pub BlockCase : T.Block → Ruled (C.Block × ℕ) → ℕ → List ℕ → Result ℕ Broken → List ℕ → Type 0
BlockCase b m q core (Ok counted) core' = Blocked b m q core counted core'
BlockCase b m q core (Err e) core' = m ≡ breaks e.0

abbrev pub CountCase : ℕ → Result ℕ Broken → Type 0
CountCase counted (Ok counted') = (counted ≤ counted') × (counted' ≤ most_locals)
CountCase counted (Err b) = Unit {0}

-- n statements at ws are whatever block has them
pub record Blocks (text : List ℕ) (globals : List Global) (locals : List ℕ) (l counted : ℕ) (result : M.Option Ty) (n : ℕ) (ws : List ℕ) (q : ℕ) (core : List ℕ) (r : Result ℕ Broken) (locals' core' : List ℕ) : Type 0 where
  pub by : (b : T.Block) (more : List ℕ) → ws ≡ G.block_words b more → n ≡ G.count b → NamedBlock text b →
      BlockCase b (block globals result b (scope_of globals text locals l counted)) q core r core'
  pub kept : (i : ℕ) → i < 4 * l → word locals' i ≡ word locals i
  pub bounded : CountCase counted r

-- The blocks of a statement at p: n statements a words on, then, with what those counted, m statements b words on

abbrev pub OtherCase : List ℕ → List Global → ℕ → M.Option Ty → ℕ → List ℕ → ℕ → Result ℕ Broken → List ℕ → List ℕ → Result ℕ Broken → List ℕ → List ℕ → Type 0
OtherCase text globals l result m ws q (Ok counted) locals core r locals' core' = Blocks text globals locals l counted result m ws q core r locals' core'
OtherCase text globals l result m ws q (Err b) locals core r locals' core' = (r ≡ Err b) × (locals' ≡ locals)

pub record Branches (text : List ℕ) (globals : List Global) (locals : List ℕ) (l counted : ℕ) (result : M.Option Ty) (tree : List ℕ) (p q a n b m : ℕ) (core : List ℕ) (r : Result ℕ Broken) (locals' core' : List ℕ) : Type 0 where
  -- after the first
  pub given : Result ℕ Broken
  pub locals₁ : List ℕ
  pub core₁ : List ℕ
  pub body : Blocks text globals locals l counted result n (drop (p + a) tree) (q + a) core given locals₁ core₁
  pub other : OtherCase text globals l result m (drop (p + b) tree) (q + b) given locals₁ core₁ r locals' core'

-- whether a statement is a return, and whether n statements end in one
pub record Returns (ws : List ℕ) (r : Bool) : Type 0 where
  pub by : (s : T.Stmt) (more : List ℕ) → ws ≡ G.stmt_words s more → r ≡ is_return s

pub record Ends (n : ℕ) (ws : List ℕ) (r : Bool) : Type 0 where
  pub by : (b : T.Block) (more : List ℕ) → ws ≡ G.block_words b more → n ≡ G.count b → r ≡ ends_in_return b
