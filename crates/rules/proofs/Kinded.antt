-- What the rules make of an item is of one of the core's kinds: its number is one that `flat::item::Kind::try_from` knows. (Of `leaf` and `mark` the caller
-- names the kind.)
use mathlib.Core.Path.{◌≡◌, sym, subst}
use mathlib.Core.Bool.{Bool, true, false}
use mathlib.Core.List.{List}
use mathlib.Core.Option.{Option, none, some}
use Prim.Native.Nat.{ℕ, zero, suc, ◌<◌}
use native.Mathlib.Omega.{arith}
use Rattle.std.specs.Prelude as P
use Rattle.std.specs.Prelude.{IfSome}
use Rattle.language.specs.Tree.{Ty}
use Rattle.language.specs.Rules.{Global, Local, Signature, global_of, local_of, is_array, is_function, and_then}
use Rattle.rules.specs.Tables.{part}
use Rattle.rules.specs.Scan.{Operand, Node, sole, leaf, mark_node, name_node, element_node, unary_node, strict_node, join_node, call_node, called_node, node_of}
use Rattle.rules.specs.Statements.{dropped_node}
use Rattle.rules.specs.Values.{made}
use Rattle.rules.specs.declared.nodes.Made.{Made}

abbrev pub Kinded : Option Node → Type 0
Kinded none = Unit {0}
Kinded (some n) = n.kind < 9

-- the same of the code's value, where its clause says which of these nodes it is
pub made_kinded : (m : P.Option Made) {o : Option Node} → made m ≡ o → Kinded o → IfSome m (λ n. n.kind < 9)
made_kinded P.None e h = tt
made_kinded (P.Some m) e h = subst Kinded (sym e) h

sole_kinded : (b : Bool) (n : Node) → n.kind < 9 → Kinded (sole b n)
unfolding sole
sole_kinded true n h = h
sole_kinded false n h = tt

then_kinded : {A : Type 0} (o : Option A) (f : A → Option Node) → ((a : A) → Kinded (f a)) → Kinded (and_then o f)
then_kinded none f h = tt
then_kinded (some a) f h = h a

pub name_kinded : (text : List ℕ) (locals : List Local) (p a here : ℕ) → Kinded (name_node text locals p a here)
unfolding name_node leaf
name_kinded text locals p a here = then_kinded (local_of locals (part text p a)) _ (λ l. omega arith)

pub element_kinded : (text : List ℕ) (globals : List Global) (p a : ℕ) (o : Operand) → Kinded (element_node text globals p a o)
unfolding element_node
element_kinded text globals p a o = then_kinded (global_of globals (part text p a)) _ (λ g. then_kinded (is_array g.thing) _ (λ r. sole_kinded _ _ (omega arith)))

pub unary_kinded : (a : ℕ) (o : Operand) → Kinded (unary_node a o)
unfolding unary_node
unary_kinded a o = sole_kinded _ _ (omega arith)

pub strict_kinded : (a : ℕ) (x y : Operand) → Kinded (strict_node a x y)
unfolding strict_node
strict_kinded a x y = sole_kinded _ _ (omega arith)

pub join_kinded : (x y : Operand) → Kinded (join_node x y)
unfolding join_node
join_kinded x y = sole_kinded _ _ (omega arith)

pub call_kinded : (s : Signature) (n here begins : ℕ) (t : Ty) (os : List Operand) → Kinded (call_node s n here begins t os)
unfolding call_node
call_kinded s n here begins t os = sole_kinded _ _ (omega arith)

pub called_kinded : (text : List ℕ) (globals : List Global) (p a n here : ℕ) (os : List Operand) → Kinded (called_node text globals p a n here os)
unfolding called_node
called_kinded text globals p a n here os =
    then_kinded (global_of globals (part text p a)) _ (λ g. then_kinded (is_function g.thing) _ (λ s. then_kinded s.result _ (λ t. call_kinded s n here 1 t os)))

pub dropped_kinded : (text : List ℕ) (globals : List Global) (p a n : ℕ) (os : List Operand) → Kinded (dropped_node text globals p a n os)
unfolding dropped_node
dropped_kinded text globals p a n os = then_kinded (global_of globals (part text p a)) _ (λ g. then_kinded (is_function g.thing) _ (λ s. call_kinded s n 0 0 _ os))

pub node_kinded : (text : List ℕ) (globals : List Global) (locals : List Local) (k p a b here : ℕ) (os : List Operand) → Kinded (node_of text globals locals k p a b here os)
unfolding node_of leaf mark_node
node_kinded text globals locals zero p a b here os = omega arith
node_kinded text globals locals (suc zero) p a b here os = name_kinded text locals p a here
node_kinded text globals locals (suc (suc zero)) p a b here os = element_kinded text globals p a _
node_kinded text globals locals (suc (suc (suc zero))) p a b here os = called_kinded text globals p a b here os
node_kinded text globals locals (suc (suc (suc (suc zero)))) p a b here os = unary_kinded a _
node_kinded text globals locals (suc (suc (suc (suc (suc zero))))) p a b here os = strict_kinded a _ _
node_kinded text globals locals (suc (suc (suc (suc (suc (suc zero)))))) p a b here os = omega arith
node_kinded text globals locals (suc (suc (suc (suc (suc (suc (suc zero))))))) p a b here os = omega arith
node_kinded text globals locals (suc (suc (suc (suc (suc (suc (suc (suc zero)))))))) p a b here os = join_kinded _ _
node_kinded text globals locals (suc (suc (suc (suc (suc (suc (suc (suc (suc zero))))))))) p a b here os = omega arith
node_kinded text globals locals (suc (suc (suc (suc (suc (suc (suc (suc (suc (suc k)))))))))) p a b here os = tt
