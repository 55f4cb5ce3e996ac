-- Document 01 §4: a tree that keeps every rule becomes a core program; any other is refused, at a place in the text.
-- Which token: rules are looked at in this order, and the first that is broken counts. Declarations, from the first to the last; then `main`;
-- then functions, from the first to the last, each in the order of its text: of an expression or a statement first the expressions in it, then
-- its own rules, then its blocks; of a function its parameters, then its block, then that it ends in return, at its name.
-- The place is that of the token which the tree's node carries; the text's end where there is no `main`.
use Rattle.std.specs.Prelude.{Bool, true, false, List, [], ◌∷◌, ℕ, suc, ◌+◌, ◌-◌, ltb, leb, eqb, length}
use Rattle.std.proofs.Math.Option.{Option, none, some}
use Rattle.word.specs.Choice.{pick, both}
use Rattle.language.specs.Tree.{Place, Name, Ty, int, bool, Unary, negate, not, Strict, eq, ne, lt, le, gt, ge, add, sub, mul, div, rem, Binary, or, and, strict, Param, Item, array, function}
use Rattle.language.specs.Tree as T
use Rattle.language.specs.Tokens.{bytes, same}
use Rattle.language.specs.Core.{Array, Function, Program}
use Rattle.language.specs.Core as C

infixl 20 ◌>>=◌
infixl 20 ◌>>◌
pub data Ruled (A : Type 0) : Type 0 where
  keeps : A → Ruled A
  breaks : Place → Ruled A

unfoldable pub ◌>>=◌ : {A B : Type 0} → Ruled A → (A → Ruled B) → Ruled B
◌>>=◌ (keeps a) f = f a
◌>>=◌ (breaks p) f = breaks p

abbrev pub ◌>>◌ : {A B : Type 0} → Ruled A → Ruled B → Ruled B
◌>>◌ m n = m >>= λ _. n

-- a rule: the test holds, or it is broken here
unfoldable pub need : Bool → Place → Ruled (Unit {0})
need true at = keeps tt
need false at = breaks at

-- what is there, or a rule is broken here
unfoldable pub found : {A : Type 0} → Option A → Place → Ruled A
found none at = breaks at
found (some a) at = keeps a

abbrev pub absent : {A : Type 0} → Option A → Bool
absent none = true
absent (some a) = false

-- Names and what they stand for

pub record Signature : Type 0 where
  pub number : ℕ
  pub parameters : List Ty
  pub result : Option Ty

pub data Thing : Type 0 where
  an_array : Array → Thing
  a_function : Signature → Thing

-- an array or a function, by its name
pub record Global : Type 0 where
  pub place : Place
  pub name : Name
  pub thing : Thing

-- a local or parameter that is visible
pub record Local : Type 0 where
  pub name : Name
  pub type : Ty
  pub slot : ℕ

unfoldable pub global_of : List Global → Name → Option Global
global_of [] x = none
global_of (g ∷ gs) x = pick (same g.name x) (some g) (global_of gs x)

unfoldable pub local_of : List Local → Name → Option Local
local_of [] x = none
local_of (l ∷ ls) x = pick (same l.name x) (some l) (local_of ls x)

abbrev pub is_array : Thing → Option Array
is_array (an_array a) = some a
is_array (a_function s) = none

abbrev pub is_function : Thing → Option Signature
is_function (an_array a) = none
is_function (a_function s) = some s

abbrev pub and_then : {A B : Type 0} → Option A → (A → Option B) → Option B
and_then none f = none
and_then (some a) f = f a

unfoldable pub array_of : List Global → Place → Name → Ruled Array
array_of gs at x = found (and_then (global_of gs x) (λ g. is_array g.thing)) at

unfoldable pub function_of : List Global → Place → Name → Ruled Signature
function_of gs at x = found (and_then (global_of gs x) (λ g. is_function g.thing)) at

-- "All arrays and functions have different names; order doesn't matter; functions may call each other and themselves."
-- "Sizes: an array has 1 to 4,096 elements; at most 64 arrays, 16,384 elements in all; 256 functions; 8 parameters;
-- 64 parameters and lets together per function."

abbrev pub most_elements : ℕ
most_elements = 4096

abbrev pub most_arrays : ℕ
most_arrays = 64

abbrev pub most_elements_in_all : ℕ
most_elements_in_all = 16384

abbrev pub most_functions : ℕ
most_functions = 256

abbrev pub most_parameters : ℕ
most_parameters = 8

abbrev pub most_locals : ℕ
most_locals = 64

-- what is declared so far, the last first, and how much
pub record Declared : Type 0 where
  pub globals : List Global
  pub arrays : ℕ
  pub elements : ℕ
  pub functions : ℕ

abbrev pub nothing_declared : Declared
nothing_declared = record { globals = []; arrays = 0; elements = 0; functions = 0 }

abbrev pub types : List Param → List Ty
types [] = []
types (p ∷ ps) = p.type ∷ types ps

unfoldable pub declare : Item → Declared → Ruled Declared
declare (array at x n) d = do
  need (absent (global_of d.globals x)) at
  need (both (leb 1 n) (leb n most_elements)) at
  need (ltb d.arrays most_arrays) at
  need (leb (d.elements + n) most_elements_in_all) at
  keeps (record {
    globals = record { place = at; name = x; thing = an_array (record { offset = d.elements; size = n }) } ∷ d.globals;
    arrays = suc d.arrays;
    elements = d.elements + n;
    functions = d.functions;
  })
declare (function at x ps r b) d = do
  need (absent (global_of d.globals x)) at
  need (ltb d.functions most_functions) at
  need (leb (length ps) most_parameters) at
  keeps (record {
    globals = record { place = at; name = x; thing = a_function (record { number = d.functions; parameters = types ps; result = r }) } ∷ d.globals;
    arrays = d.arrays;
    elements = d.elements;
    functions = suc d.functions;
  })

unfoldable pub declare_all : List Item → Declared → Ruled Declared
declare_all [] d = keeps d
declare_all (i ∷ is) d = do
  e ← declare i d
  declare_all is e

-- "There is a function `main` without parameters or result type."

abbrev pub main_name : Name
main_name = bytes "main"

unfoldable pub main_of : List Global → Place → Ruled ℕ
main_of gs end = do
  g ← found (global_of gs main_name) end
  s ← function_of gs g.place main_name
  need (eqb (length s.parameters) 0) g.place
  need (absent s.result) g.place
  keeps s.number

-- "Locals and parameters have their declared type; assignments keep it. Array elements and indices are int. `+ - * / %`, unary `-` and the four
-- order comparisons take ints; `!`, `&&`, `||` and conditions take bools; `==` and `!=` take two of one type. `emit` takes an int."

abbrev pub same_ty : Ty → Ty → Bool
same_ty int int = true
same_ty int bool = false
same_ty bool int = false
same_ty bool bool = true

-- an expression of the core, with its type
pub record Typed : Type 0 where
  pub type : Ty
  pub expr : C.Expr

unfoldable pub want : Ty → Place → Typed → Ruled C.Expr
want t at e = do
  need (same_ty t e.type) at
  keeps e.expr

abbrev pub truth_of : Bool → ℕ
truth_of true = 1
truth_of false = 0

unfoldable pub changed : Unary → Place → Typed → Ruled Typed
changed negate at a = do
  x ← want int at a
  keeps (record { type = int; expr = C.unary negate x })
changed not at a = do
  x ← want bool at a
  keeps (record { type = bool; expr = C.unary not x })

-- both sides of this type, and the whole of that
unfoldable pub joined : Ty → Ty → (C.Expr → C.Expr → C.Expr) → Place → Typed → Typed → Ruled Typed
joined t u f at a b = do
  x ← want t at a
  y ← want t at b
  keeps (record { type = u; expr = f x y })

unfoldable pub combined : Binary → Place → Typed → Typed → Ruled Typed
combined or at a b = joined bool bool C.or at a b
combined and at a b = joined bool bool C.and at a b
combined (strict eq) at a b = joined a.type bool (C.strict eq) at a b
combined (strict ne) at a b = joined a.type bool (C.strict ne) at a b
combined (strict lt) at a b = joined int bool (C.strict lt) at a b
combined (strict le) at a b = joined int bool (C.strict le) at a b
combined (strict gt) at a b = joined int bool (C.strict gt) at a b
combined (strict ge) at a b = joined int bool (C.strict ge) at a b
combined (strict add) at a b = joined int int (C.strict add) at a b
combined (strict sub) at a b = joined int int (C.strict sub) at a b
combined (strict mul) at a b = joined int int (C.strict mul) at a b
combined (strict div) at a b = joined int int (C.strict div) at a b
combined (strict rem) at a b = joined int int (C.strict rem) at a b

module _ (globals : List Global) where
  unfoldable pub indexed : Place → Name → Typed → Ruled Typed
  indexed at x i = do
    k ← want int at i
    a ← array_of globals at x
    keeps (record { type = int; expr = C.element a k })

  -- "Calls have the right number and types of arguments."
  unfoldable pub fit : Place → List Typed → List Ty → Ruled C.Args
  fit at [] [] = keeps C.none
  fit at [] (t ∷ ts) = breaks at
  fit at (e ∷ es) [] = breaks at
  fit at (e ∷ es) (t ∷ ts) = do
    v ← want t at e
    vs ← fit at es ts
    keeps (C.more v vs)

  -- "In an expression the function must have a result type"
  unfoldable pub called : Place → Name → List Typed → Ruled Typed
  called at x es = do
    s ← function_of globals at x
    vs ← fit at es s.parameters
    t ← found s.result at
    keeps (record { type = t; expr = C.call s.number vs })

  module _ (locals : List Local) where
    unfoldable pub known : Place → Name → Ruled Typed
    known at x = do
      l ← found (local_of locals x) at
      keeps (record { type = l.type; expr = C.local l.slot })

    unfoldable mutual
      pub expr : T.Expr → Ruled Typed
      expr (T.number n) = keeps (record { type = int; expr = C.number n })
      expr (T.truth b) = keeps (record { type = bool; expr = C.number (truth_of b) })
      expr (T.name at x) = known at x
      expr (T.element at x i) = do
        e ← expr i
        indexed at x e
      expr (T.call at x xs) = do
        es ← exprs xs
        called at x es
      expr (T.unary at o a) = do
        e ← expr a
        changed o at e
      expr (T.binary at o a b) = do
        x ← expr a
        y ← expr b
        combined o at x y

      pub exprs : T.Args → Ruled (List Typed)
      exprs T.none = keeps []
      exprs (T.more e xs) = do
        v ← expr e
        vs ← exprs xs
        keeps (v ∷ vs)

  -- "No local or parameter may have the name of an array, a function, or another local or parameter visible there."
  unfoldable pub fresh : List Local → Place → Name → Ruled (Unit {0})
  fresh locals at x = do
    need (absent (global_of globals x)) at
    need (absent (local_of locals x)) at

  -- "A function with a result type returns that type everywhere"; "Others only use `return;`."
  unfoldable pub leaves : Option Ty → Place → Ruled C.Stmt
  leaves none at = keeps C.leave
  leaves (some t) at = breaks at

  unfoldable pub gives : Option Ty → Place → Typed → Ruled C.Stmt
  gives none at e = breaks at
  gives (some t) at e = do
    v ← want t at e
    keeps (C.give v)

  -- Statements, with the locals that are visible and how many parameters and lets there were before.
  -- "A local name is visible from the end of its `let` to the end of the block; a parameter, in the whole body."
  -- "Two blocks side by side may use one name twice."
  pub record Scope : Type 0 where
    pub visible : List Local
    pub count : ℕ

  module _ (result : Option Ty) where
    unfoldable mutual
      pub stmt : T.Stmt → Scope → Ruled (C.Stmt × Scope)
      stmt (T.declare at x t e) s = do
        y ← expr s.visible e
        v ← want t at y
        fresh s.visible at x
        need (ltb s.count most_locals) at
        keeps (C.put s.count v, record { visible = record { name = x; type = t; slot = s.count } ∷ s.visible; count = suc s.count })
      stmt (T.assign at x e) s = do
        y ← expr s.visible e
        l ← found (local_of s.visible x) at
        v ← want l.type at y
        keeps (C.put l.slot v, s)
      stmt (T.store at x i e) s = do
        j ← expr s.visible i
        y ← expr s.visible e
        k ← want int at j
        v ← want int at y
        a ← array_of globals at x
        keeps (C.store a k v, s)
      stmt (T.when at e a) s = do
        y ← expr s.visible e
        c ← want bool at y
        p ← block a s
        keeps (C.choose c p.0 C.end, record { visible = s.visible; count = p.1 })
      stmt (T.choose at e a b) s = do
        y ← expr s.visible e
        c ← want bool at y
        p ← block a s
        q ← block b (record { visible = s.visible; count = p.1 })
        keeps (C.choose c p.0 q.0, record { visible = s.visible; count = q.1 })
      stmt (T.while at e a) s = do
        y ← expr s.visible e
        c ← want bool at y
        p ← block a s
        keeps (C.while c p.0, record { visible = s.visible; count = p.1 })
      stmt (T.leave at) s = do
        c ← leaves result at
        keeps (c, s)
      stmt (T.give at e) s = do
        y ← expr s.visible e
        c ← gives result at y
        keeps (c, s)
      stmt (T.emit at e) s = do
        y ← expr s.visible e
        v ← want int at y
        keeps (C.emit v, s)
      -- "as a statement it may, and the result is dropped"
      stmt (T.run at x xs) s = do
        es ← exprs s.visible xs
        f ← function_of globals at x
        vs ← fit at es f.parameters
        keeps (C.run f.number vs, s)

      -- a block's locals end with it, and stay counted
      pub block : T.Block → Scope → Ruled (C.Block × ℕ)
      block T.end s = keeps (C.end, s.count)
      block (T.then t b) s = do
        c ← stmt t s
        r ← block b c.1
        keeps (C.then c.0 r.0, r.1)

  unfoldable pub parameters : List Param → Scope → Ruled Scope
  parameters [] s = keeps s
  parameters (p ∷ ps) s = do
    fresh s.visible p.place p.name
    parameters ps (record { visible = record { name = p.name; type = p.type; slot = s.count } ∷ s.visible; count = suc s.count })

-- "its block *ends in return*: its last statement is a return, or an `if` with `else` both of whose blocks end in return"
unfoldable mutual
  pub is_return : T.Stmt → Bool
  is_return (T.declare at x t e) = false
  is_return (T.assign at x e) = false
  is_return (T.store at x i e) = false
  is_return (T.when at e a) = false
  is_return (T.choose at e a b) = both (ends_in_return a) (ends_in_return b)
  is_return (T.while at e a) = false
  is_return (T.leave at) = true
  is_return (T.give at e) = true
  is_return (T.emit at e) = false
  is_return (T.run at x xs) = false

  pub ends_in_return : T.Block → Bool
  ends_in_return T.end = false
  ends_in_return (T.then s T.end) = is_return s
  ends_in_return (T.then s (T.then t b)) = ends_in_return (T.then t b)

abbrev pub must_end : Option Ty → T.Block → Bool
must_end none b = true
must_end (some t) b = ends_in_return b

module _ (globals : List Global) where
  unfoldable pub function_from : Place → List Param → Option Ty → T.Block → Ruled Function
  function_from at ps r b = do
    s ← parameters globals ps (record { visible = []; count = 0 })
    c ← block globals r b s
    need (must_end r b) at
    keeps (record { parameters = length ps; lets = c.1 - length ps; body = c.0 })

  unfoldable pub functions_from : List Item → Ruled (List Function)
  functions_from [] = keeps []
  functions_from (array at x n ∷ is) = functions_from is
  functions_from (function at x ps r b ∷ is) = do
    f ← function_from at ps r b
    fs ← functions_from is
    keeps (f ∷ fs)

-- All of §4: the program of these items, whose text ends here.
unfoldable pub elaborate : List Item → Place → Ruled Program
elaborate is end = do
  d ← declare_all is nothing_declared
  m ← main_of d.globals end
  fs ← functions_from d.globals is
  keeps (record { functions = fs; main = m; elements = d.elements })
