-- What the functions promise: each is the definition of document 01 §4 of what the words stand for.
use Rattle.std.specs.Prelude.{◌≡◌, Bool, List, [], ◌∷◌, ℕ, zero, suc, ◌+◌, ◌*◌, ◌≤◌, length, get_or, drop, Result, Ok, Err}
use Rattle.std.proofs.Math.Option as M
use Rattle.std.proofs.lemmas.List.Edits.{sets}
use Rattle.language.specs.Tree.{Ty}
use Rattle.language.specs.Tree as T
use Rattle.language.specs.Core as C
use Rattle.language.specs.Rules.{Ruled, keeps, breaks, Global, Local, Typed, Scope, fresh, need, expr, stmt}
use Rattle.grammar.specs.Flat as G
use Rattle.flat.specs.Items.{code}
use Rattle.flat.specs.Statements.{flat}
use Rattle.flat.specs.Words.{items_words, stmt_words, rest_length}
use Rattle.rules.specs.Bounds.{most_entries, most_places, most_words}
use Rattle.rules.specs.Tables.{word, part, type_of, locals_in}
use Rattle.rules.specs.Values.{meant, held}
use Rattle.rules.specs.Scan.{Operand, no_operand, Scanned, charged, scan}
use Rattle.rules.specs.Named.{NamedExpr}
use Rattle.grammar.specs.declared.tree.ValueType.{ValueType}
use Rattle.rules.specs.declared.operands.Operand as O
use Rattle.rules.specs.declared.Scope as S
use Rattle.rules.specs.declared.Broken.{Broken}

-- h operands in two rows, the uppermost first
unfoldable pub operands_in : List ℕ → List ℕ → ℕ → List Operand
operands_in types starts zero = []
operands_in types starts (suc h) = record { type = type_of (word types h); start = word starts h } ∷ operands_in types starts h

-- the operand below the j uppermost
pub record Tops (types starts : List ℕ) (h j : ℕ) (o : O.Operand ValueType) : Type 0 where
  pub is : get_or (operands_in types starts h) j no_operand ≡ held meant o

-- an operand in the place of the n uppermost
pub record Pushes (types starts : List ℕ) (h n : ℕ) (o : Operand) (h' : ℕ) (types' starts' : List ℕ) : Type 0 where
  pub is : operands_in types' starts' h' ≡ o ∷ drop n (operands_in types starts h)
  pub most : h' ≤ h + 1

-- n nodes more begin at the item at start, of those that were written from q on
pub record Charges (core : List ℕ) (q size start n : ℕ) (core' : List ℕ) : Type 0 where
  pub is : (core₀ ws : List ℕ) → core ≡ sets core₀ q ws → length ws ≡ size → core' ≡ sets core₀ q (charged n start ws)

-- the four words of an item
pub record Reads (ws : List ℕ) (p kind place a b : ℕ) : Type 0 where
  pub is_kind : kind ≡ word ws p
  pub is_place : place ≡ word ws (p + 1)
  pub is_a : a ≡ word ws (p + 2)
  pub is_b : b ≡ word ws (p + 3)

-- The room that is lent: an operand for each item of the tree, and as many words for the core from q on as the tree has from p on.

pub record Room (tree : List ℕ) (l : ℕ) (types starts core : List ℕ) (p q : ℕ) : Type 0 where
  pub locals : l ≤ most_entries
  pub words : length tree ≤ most_words
  pub place : p ≤ most_places
  pub for_types : length tree ≤ 4 * length types
  pub for_starts : length tree ≤ 4 * length starts
  pub for_core : q + length tree ≤ p + length core
  pub core_place : q ≤ most_places

-- Expressions: n items at ws

abbrev pub nothing_scanned : Scanned
nothing_scanned = record { operands = []; words = [] }

pub record Wrote (text : List ℕ) (globals : List Global) (locals : List Local) (n : ℕ) (ws : List ℕ) (q : ℕ) (core : List ℕ) (h : ℕ) (types' starts' core' : List ℕ) : Type 0 where
  pub words : List ℕ
  pub is : scan text globals locals n ws nothing_scanned ≡ keeps (record { operands = operands_in types' starts' h; words = words })
  pub there : core' ≡ sets core q words
  pub size : length words ≡ 4 * n
  pub few : h ≤ n

abbrev pub ScanCase : List ℕ → List Global → List Local → ℕ → List ℕ → ℕ → List ℕ → Result ℕ Broken → List ℕ → List ℕ → List ℕ → Type 0
ScanCase text globals locals n ws q core (Ok h) types' starts' core' = Wrote text globals locals n ws q core h types' starts' core'
ScanCase text globals locals n ws q core (Err b) types' starts' core' = scan text globals locals n ws nothing_scanned ≡ breaks b.0

pub record Scans (text : List ℕ) (globals : List Global) (locals : List Local) (n : ℕ) (ws : List ℕ) (q : ℕ) (core : List ℕ) (r : Result ℕ Broken) (types' starts' core' : List ℕ) : Type 0 where
  pub by : ScanCase text globals locals n ws q core r types' starts' core'

-- what elaboration gives: an expression of the core, of this type, written from q on
pub record TypedAs (m : Ruled Typed) (q : ℕ) (core : List ℕ) (ty : ValueType) (core' : List ℕ) : Type 0 where
  pub value : Typed
  pub is : m ≡ keeps value
  pub type : value.type ≡ meant ty
  pub there : core' ≡ sets core q (items_words (code value.expr 0 []) [])

abbrev pub ExprCase : Ruled Typed → ℕ → List ℕ → Result ValueType Broken → List ℕ → Type 0
ExprCase m q core (Ok ty) core' = TypedAs m q core ty core'
ExprCase m q core (Err b) core' = m ≡ breaks b.0

-- n items at ws are whatever expression has them
pub record Elaborates (text : List ℕ) (globals : List Global) (locals : List Local) (n : ℕ) (ws : List ℕ) (q : ℕ) (core : List ℕ) (r : Result ValueType Broken) (core' : List ℕ) : Type 0 where
  pub by : (e : T.Expr) (more : List ℕ) → ws ≡ G.expr_words e more → n ≡ G.size e → NamedExpr text e → ExprCase (expr globals locals e) q core r core'

-- Statements: where they begin, a header stands before their expressions

pub record HeaderRoom (tree : List ℕ) (l : ℕ) (types starts core : List ℕ) (p q : ℕ) : Type 0 where
  pub after : Room tree l types starts core (p + 8) (q + 8)
  pub header : q + 8 ≤ length core

-- the visible locals in words, and how many parameters and lets there were
abbrev pub scope_of : (globals : List Global) → List ℕ → List ℕ → ℕ → ℕ → Scope globals
scope_of globals text locals l count = record { visible = locals_in text locals l; count = count }

-- what elaboration gives: a statement of the core, written from q on, and the scope after it
pub record Stated (globals : List Global) (text : List ℕ) (m : Ruled (C.Stmt × Scope globals)) (q : ℕ) (core : List ℕ) (l count : ℕ) (locals' core' : List ℕ) : Type 0 where
  pub value : C.Stmt
  pub is : m ≡ keeps (value, scope_of globals text locals' l count)
  pub there : core' ≡ sets core q (stmt_words (flat value) (rest_length (flat value)) [])

abbrev pub StmtCase : (globals : List Global) → List ℕ → Ruled (C.Stmt × Scope globals) → ℕ → List ℕ → Result S.Scope Broken → List ℕ → List ℕ → Type 0
StmtCase globals text m q core (Ok s) locals' core' = Stated globals text m q core s.visible s.count locals' core'
StmtCase globals text m q core (Err b) locals' core' = m ≡ breaks b.0

-- a statement with one expression of n items, in rest words at ws
pub record States (text : List ℕ) (globals : List Global) (locals : List ℕ) (l count : ℕ) (result : M.Option Ty) (build : T.Expr → T.Stmt) (n rest : ℕ) (ws : List ℕ) (q : ℕ) (core : List ℕ) (r : Result S.Scope Broken) (locals' core' : List ℕ) : Type 0 where
  pub by : (e : T.Expr) (more : List ℕ) → ws ≡ G.expr_words e more → n ≡ G.size e → rest ≡ G.expr_length e → NamedExpr text e →
      StmtCase globals text (stmt globals result (build e) (scope_of globals text locals l count)) q core r locals' core'

-- whether a name is new
pub record Freshly (text : List ℕ) (globals : List Global) (locals : List ℕ) (l at size : ℕ) (r : Bool) : Type 0 where
  pub is : fresh globals (locals_in text locals l) at (part text at size) ≡ need r at

-- `return;`, whatever is visible
pub record Leaves (l count : ℕ) (result : M.Option Ty) (at q : ℕ) (core : List ℕ) (r : Result S.Scope Broken) (core' : List ℕ) : Type 0 where
  pub by : (text : List ℕ) (globals : List Global) (locals : List ℕ) → StmtCase globals text (stmt globals result (T.leave at) (scope_of globals text locals l count)) q core r locals core'
