-- The rules of an expression as one scan forward over the items of its flat tree, with a stack of operands: a type each, and where its items begin.
-- Each item gives one item of the core. A node's charge goes to the first item of its first operand, which is its leftmost leaf.
use Rattle.std.specs.Prelude.{Bool, true, false, List, [], ◌∷◌, ◌++◌, ℕ, zero, suc, ◌+◌, ◌-◌, eqb, ltb, leb, length, get_or, drop, set}
use Rattle.std.proofs.Math.Option.{Option, none, some}
use Rattle.word.specs.Choice.{pick, both}
use Rattle.word.specs.Word.{add_w}
use Rattle.language.specs.Tree.{Ty, int, bool}
use Rattle.language.specs.Rules.{Ruled, keeps, breaks, ◌>>=◌, found, Global, Local, Signature, global_of, local_of, is_array, is_function, and_then, same_ty}
use Rattle.rules.specs.Tables.{word, part, same_types}

pub record Operand : Type 0 where
  pub type : Ty
  -- the word at which its items begin, counted from the expression's first
  pub start : ℕ

-- What an item of the tree becomes: it takes operands and gives one of this type that begins at start; so many nodes begin there; and it
-- is this item of the core.
pub record Node : Type 0 where
  pub takes : ℕ
  pub type : Ty
  pub start : ℕ
  pub begins : ℕ
  pub kind : ℕ
  pub a : ℕ
  pub b : ℕ

pub record Scanned : Type 0 where
  pub operands : List Operand
  pub words : List ℕ

abbrev pub no_operand : Operand
no_operand = record { type = int; start = 0 }

-- the uppermost operand, and the one below it
abbrev pub upper : List Operand → Operand
upper os = get_or os 0 no_operand

abbrev pub lower : List Operand → Operand
lower os = get_or os 1 no_operand

-- the types of the n uppermost operands, in the order in which they came, and then more
unfoldable pub uppermost : ℕ → List Operand → List Ty → List Ty
uppermost zero os ts = ts
uppermost (suc n) [] ts = ts
uppermost (suc n) (o ∷ os) ts = uppermost n os (o.type ∷ ts)

unfoldable pub sole : {A : Type 0} → Bool → A → Option A
sole true a = some a
sole false a = none

-- The kinds, by what they take

unfoldable pub leaf : Ty → ℕ → ℕ → ℕ → Node
leaf t here k a = record { takes = 0; type = t; start = here; begins = 1; kind = k; a = a; b = 0 }

unfoldable pub name_node : List ℕ → List Local → ℕ → ℕ → ℕ → Option Node
name_node text locals p a here = and_then (local_of locals (part text p a)) (λ l. some (leaf l.type here 1 l.slot))

unfoldable pub element_node : List ℕ → List Global → ℕ → ℕ → Operand → Option Node
element_node text globals p a o =
    and_then (global_of globals (part text p a)) (λ g. and_then (is_array g.thing) (λ r. sole (same_ty int o.type)
    (record { takes = 1; type = int; start = o.start; begins = 1; kind = 2; a = r.offset; b = r.size })))

-- negation takes and gives an int, `!` a bool
unfoldable pub unary_node : ℕ → Operand → Option Node
unary_node a o = sole (same_ty (pick (eqb a 0) int bool) o.type) (record { takes = 1; type = pick (eqb a 0) int bool; start = o.start; begins = 1; kind = 4; a = a; b = 0 })

-- `==` and `!=`, below 2, take two of one type; those below 6 give a bool
unfoldable pub strict_node : ℕ → Operand → Operand → Option Node
strict_node a x y =
    sole (both (same_ty (pick (ltb a 2) x.type int) x.type) (same_ty (pick (ltb a 2) x.type int) y.type))
    (record { takes = 2; type = pick (ltb a 6) bool int; start = x.start; begins = 1; kind = 5; a = a; b = 0 })

-- `&&` or `||`, after its left side; nothing is asked before the right side was read
unfoldable pub mark_node : ℕ → ℕ → Operand → Node
mark_node k a x = record { takes = 1; type = x.type; start = x.start; begins = 0; kind = k; a = a; b = 0 }

unfoldable pub join_node : Operand → Operand → Option Node
join_node x y = sole (both (same_ty bool x.type) (same_ty bool y.type)) (record { takes = 2; type = bool; start = x.start; begins = 1; kind = 8; a = 0; b = 0 })

-- where a call begins: at its first argument, if it has one
abbrev pub first_start : ℕ → ℕ → List Operand → ℕ
first_start n here os = pick (eqb n 0) here (get_or os (n - 1) no_operand).start

-- the function of this name
unfoldable pub function_named : List ℕ → List Global → ℕ → ℕ → Option Signature
function_named text globals p a = and_then (global_of globals (part text p a)) (λ g. is_function g.thing)

-- a call of function s with n arguments: its operand has this type, if the arguments fit
unfoldable pub call_node : Signature → ℕ → ℕ → ℕ → Ty → List Operand → Option Node
call_node s n here begins t os =
    sole (both (leb n (length os)) (same_types (uppermost n os []) s.parameters))
    (record { takes = n; type = t; start = first_start n here os; begins = begins; kind = 3; a = s.number; b = n })

unfoldable pub called_node : List ℕ → List Global → ℕ → ℕ → ℕ → ℕ → List Operand → Option Node
called_node text globals p a n here os =
    and_then (global_of globals (part text p a)) (λ g. and_then (is_function g.thing) (λ s. and_then s.result (λ t. call_node s n here 1 t os)))

-- so many more nodes begin at the item that starts here
unfoldable pub charged : ℕ → ℕ → List ℕ → List ℕ
charged n start ws = set ws (start + 1) (add_w (word ws (start + 1)) n)

unfoldable pub added : Node → Scanned → Scanned
added n s =
    record {
      operands = record { type = n.type; start = n.start } ∷ drop n.takes s.operands;
      words = charged n.begins n.start (s.words ++ (n.kind ∷ 0 ∷ n.a ∷ n.b ∷ []));
    }

module _ (text : List ℕ) (globals : List Global) (locals : List Local) where
  -- by the item's kind's number: p is its place, here where the new item goes
  abbrev pub nodes : ℕ → ℕ → ℕ → ℕ → List Operand → List (Option Node)
  nodes p a b here os =
      some (leaf int here 0 a) ∷
      name_node text locals p a here ∷
      element_node text globals p a (upper os) ∷
      called_node text globals p a b here os ∷
      unary_node a (upper os) ∷
      strict_node a (lower os) (upper os) ∷
      some (mark_node 6 a (upper os)) ∷
      some (mark_node 7 a (upper os)) ∷
      join_node (lower os) (upper os) ∷
      some (leaf bool here 0 a) ∷
      []

  unfoldable pub node_of : ℕ → ℕ → ℕ → ℕ → ℕ → List Operand → Option Node
  node_of k p a b here os = get_or (nodes p a b here os) k none

  -- n items. Words that end before are no tree's.
  unfoldable pub scan : ℕ → List ℕ → Scanned → Ruled Scanned
  scan zero ws s = keeps s
  scan (suc n) [] s = breaks 0
  scan (suc n) (k ∷ []) s = breaks 0
  scan (suc n) (k ∷ p ∷ []) s = breaks 0
  scan (suc n) (k ∷ p ∷ a ∷ []) s = breaks 0
  scan (suc n) (k ∷ p ∷ a ∷ b ∷ ws) s = do
    n₁ ← found (node_of k p a b (length s.words) s.operands) p
    scan n ws (added n₁ s)
