-- What the code's values stand for in document 01: types, names, visible locals, arrays and functions, operands, items, places of broken rules.
use Rattle.std.specs.Prelude.{◌≡◌, refl, List, ◌∷◌, ℕ, ◌+◌, ◌*◌, ◌<◌, ◌^◌, Bool, Option, Some, None}
use Rattle.std.proofs.Math.Option as M
use Rattle.language.specs.Tree.{Place, Name, Ty, int, bool}
use Rattle.language.specs.Tokens.{same}
use Rattle.language.specs.Rules as R
use Rattle.language.specs.Rules.{local_of, global_of}
use Rattle.rules.specs.Tables.{word, part, type_of, locals_in, global_from, globals_in, signature}
use Rattle.rules.specs.Scan.{Operand, Node, function_named}
use Rattle.grammar.specs.Numbers.{number_of_type}
use Rattle.grammar.specs.declared.tree.ValueType.{ValueType}
use Rattle.grammar.specs.declared.tree.ValueType.TheVariants as V
use Rattle.rules.specs.declared.names.Name as C
use Rattle.rules.specs.declared.names.Local as L
use Rattle.rules.specs.declared.program.Global as G
use Rattle.rules.specs.declared.program.Program.{Program}
use Rattle.rules.specs.declared.operands.Operand as O
use Rattle.rules.specs.declared.nodes.Made.{Made}
use Rattle.rules.specs.declared.Scope.{Scope}
use Rattle.rules.specs.declared.Broken.{Broken}

abbrev pub meant : ValueType → Ty
meant V.Int = int
meant V.Bool = bool

-- a type's number is read as that type
pub number_means : (t : ValueType) → type_of (number_of_type t) ≡ meant t
unfolding type_of
number_means V.Int = refl
number_means V.Bool = refl

-- a function's result type, if it has one
abbrev pub result_in : Option ValueType → M.Option Ty
result_in None = M.none
result_in (Some t) = M.some (meant t)

-- a broken rule's place, and a scope, as values of the code
abbrev pub broken_at : Place → Broken
broken_at p = record { 0 = p }

abbrev pub scope_at : ℕ → ℕ → Scope
scope_at l count = record { visible = l; count = count }

-- Locals

abbrev pub known : List ℕ → L.Local → R.Local
known text l = record { name = part text l.name.place l.name.length; type = meant l.ty; slot = l.slot }

abbrev pub known_if : List ℕ → Option L.Local → M.Option R.Local
known_if text None = M.none
known_if text (Some l) = M.some (known text l)

pub record FindsLocal (text ws : List ℕ) (count : ℕ) (x : Name) (r : Option L.Local) : Type 0 where
  pub is : local_of (locals_in text ws count) x ≡ known_if text r

-- a local more is visible
pub record Enters (locals : List ℕ) (l : ℕ) (local : L.Local) (locals' : List ℕ) : Type 0 where
  pub is : (text : List ℕ) → locals_in text locals' (l + 1) ≡ known text local ∷ locals_in text locals l
  pub before : (i : ℕ) → i < 4 * l → word locals' i ≡ word locals i

-- Arrays and functions

abbrev pub globals_of : Program → List R.Global
globals_of p = globals_in p.text.now p.tree.now p.globals.now p.count

abbrev pub global_if : Program → Option G.Global → M.Option R.Global
global_if p None = M.none
global_if p (Some g) = M.some (global_from p.text.now p.tree.now g.header g.value)

pub record FindsGlobal (p : Program) (x : Name) (r : Option G.Global) : Type 0 where
  pub is : global_of (globals_of p) x ≡ global_if p r

-- by a test that says whether a name's bytes are those of x, the global of the name x
pub record FindsBy (says : C.Name → Bool → Type 0) (p : Program) (r : Option G.Global) : Type 0 where
  pub by : (x : Name) → ((n : C.Name) (b : Bool) → n.place < 2 ^ 32 → n.length < 2 ^ 32 → says n b → b ≡ same (part p.text.now n.place n.length) x) → FindsGlobal p x r

-- the function that is found, if there is one
abbrev pub callee_of : List ℕ → Option G.Global → M.Option R.Signature
callee_of tree None = M.none
callee_of tree (Some f) = M.some (signature tree f.header f.value)

pub record FindsFunction (p : Program) (place length : ℕ) (r : Option G.Global) : Type 0 where
  pub is : function_named p.text.now (globals_of p) place length ≡ callee_of p.tree.now r

-- Operands and items

-- an operand, by what its type's name stands for
abbrev pub held : {T : Type 0} → (T → Ty) → O.Operand T → Operand
held named o = record { type = named o.ty; start = o.start }

abbrev pub node_in : Made → Node
node_in m = record { takes = m.takes; type = meant m.gives.ty; start = m.gives.start; begins = m.begins; kind = m.kind; a = m.a; b = m.b }

-- what is made of an item, if it keeps the rules
abbrev pub made : Option Made → M.Option Node
made None = M.none
made (Some m) = M.some (node_in m)
