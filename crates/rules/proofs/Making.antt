-- What an item becomes, by what the tables say of its name and by the types of its operands.
use mathlib.Core.Path.{◌≡◌, refl, sym, ap, ◌∙◌}
use mathlib.Core.Bool.{Bool, true, false}
use mathlib.Core.List.{List, [], ◌∷◌, ◌++◌, append_assoc, append-nil}
use mathlib.Core.Option.{Option, none, some}
use Prim.Native.Nat.{ℕ, zero, suc, ◌+◌, ◌-◌, ◌*◌, ◌≤◌, ◌<◌}
use native.Mathlib.Omega.{arith}
use native.Mathlib.Numerals.{unary_clauses}
use lib.Dec.{eqb, ltb}
use lib.ListN.{length, get_or, get_or-eq_default}
use borrow.Author.Tests.{eq-eqb, ne_eqb, le-leb, lt-leb}
use Rattle.word.specs.Choice.{pick, both}
use Rattle.language.specs.Tree.{Ty, int, bool}
use Rattle.language.specs.Rules.{same_ty, Local, Global, Signature, global_of, and_then, is_function}
use Rattle.rules.specs.Tables.{word, part, type_of, result_of, types_from, same_types, locals_in, signature, thing_at}
use Rattle.rules.specs.Scan.{Operand, no_operand, Node, sole, leaf, name_node, element_node, unary_node, strict_node, mark_node, join_node, uppermost, first_start, function_named, call_node, called_node, nodes, node_of}
use Rattle.std.specs.Prelude.{Some, None}
use Rattle.rules.specs.declared.names.Name as N
use Rattle.rules.specs.declared.names.Local as L
use Rattle.rules.specs.declared.program.Global as P
use Rattle.rules.specs.declared.program.Program.{Program}
use Rattle.rules.specs.declared.operands.Operand as O
use Rattle.grammar.specs.declared.tree.ValueType.{ValueType}
use Rattle.rules.specs.Values.{meant, FindsLocal, globals_of, FindsGlobal, FindsFunction}
use Rattle.rules.specs.Post.{operands_in, Tops}

pub no_name : {text ws : List ℕ} {count : ℕ} (p a here : ℕ) → FindsLocal text ws count (part text p a) None → none ≡ name_node text (locals_in text ws count) p a here
unfolding name_node
no_name p a here f = rw f.is refl

pub name_some : {text ws : List ℕ} {count : ℕ} (p a here : ℕ) {l : L.Local} → FindsLocal text ws count (part text p a) (Some l) → some (leaf (meant l.ty) here 1 l.slot) ≡ name_node text (locals_in text ws count) p a here
unfolding name_node
name_some p a here f = rw f.is refl

module _ (p : Program) (x : N.Name) (o : Operand) where
  abbrev ElementIs : Option Node → Type 0
  ElementIs n = n ≡ element_node p.text.now (globals_of p) x.place x.length o

  pub no_thing : FindsGlobal p (part p.text.now x.place x.length) None → ElementIs none
  unfolding element_node
  no_thing f = rw f.is refl

  module _ {g : P.Global} {k : Bool} (f : FindsGlobal p (part p.text.now x.place x.length) (Some g)) (e : k ≡ eqb (word p.tree.now g.header) 0) where
    pub no_array : k ≡ false → ElementIs none
    unfolding element_node thing_at
    no_array d = rw (f.is, ← e, d) refl

    pub no_index : k ≡ true → same_ty int o.type ≡ false → ElementIs none
    unfolding element_node thing_at sole
    no_index d b = rw (f.is, ← e, d, b) refl

    pub array_some : {size : ℕ} → k ≡ true → same_ty int o.type ≡ true → size ≡ word p.tree.now (g.header + 3) → ElementIs (some (record { takes = 1; type = int; start = o.start; begins = 1; kind = 2; a = g.value; b = size }))
    unfolding element_node thing_at sole
    array_some d b v = rw (f.is, ← e, d, b, v) refl

pub unary_wrong : (a : ℕ) (o : Operand) {w : Ty} → w ≡ pick (eqb a 0) int bool → same_ty w o.type ≡ false → none ≡ unary_node a o
unfolding unary_node sole
unary_wrong a o e b = rw (← e, b) refl

pub unary_right : (a : ℕ) (o : Operand) {w : Ty} → w ≡ pick (eqb a 0) int bool → same_ty w o.type ≡ true →
    some (record { takes = 1; type = w; start = o.start; begins = 1; kind = 4; a = a; b = 0 }) ≡ unary_node a o
unfolding unary_node sole
unary_right a o e b = rw (← e, b) refl

module _ (a : ℕ) (x y : Operand) {w : Ty} (e : w ≡ pick (ltb a 2) x.type int) where
  pub strict_left : same_ty w x.type ≡ false → none ≡ strict_node a x y
  unfolding strict_node sole
  strict_left f = rw (← e, f) refl

  module _ (g : same_ty w x.type ≡ true) where
    pub strict_right : same_ty w y.type ≡ false → none ≡ strict_node a x y
    unfolding strict_node sole
    strict_right f = rw (← e, f, g) refl

    pub strict_fine : {v : Ty} → v ≡ pick (ltb a 6) bool int → same_ty w y.type ≡ true → some (record { takes = 2; type = v; start = x.start; begins = 1; kind = 5; a = a; b = 0 }) ≡ strict_node a x y
    unfolding strict_node sole
    strict_fine z f = rw (← z, ← e, f, g) refl

module _ (x y : Operand) where
  pub join_left : same_ty bool x.type ≡ false → none ≡ join_node x y
  unfolding join_node sole
  join_left f = rw f refl

  module _ (g : same_ty bool x.type ≡ true) where
    pub join_right : same_ty bool y.type ≡ false → none ≡ join_node x y
    unfolding join_node sole
    join_right f = rw (f, g) refl

    pub join_fine : same_ty bool y.type ≡ true → some (record { takes = 2; type = bool; start = x.start; begins = 1; kind = 8; a = 0; b = 0 }) ≡ join_node x y
    unfolding join_node sole
    join_fine f = rw (f, g) refl

-- Calls

types_snoc : (ws : List ℕ) (d i n : ℕ) → types_from ws d i (suc n) ≡ types_from ws d i n ++ (type_of (word ws (i + d * n)) ∷ [])
unfolding types_from
types_snoc ws d i zero = ap (λ (j : ℕ). type_of (word ws j) ∷ []) {x = i} {y = i + d * 0} (omega arith)
types_snoc ws d i (suc n) =
    ap (λ (ts : List Ty). type_of (word ws i) ∷ ts) (types_snoc ws d (i + d) n ∙ ap (λ (j : ℕ). types_from ws d (i + d) n ++ (type_of (word ws j) ∷ [])) {x = i + d + d * n} {y = i + d * suc n} (simp unary_clauses (omega arith)))

top_types : (ts ss : List ℕ) (n h : ℕ) (us : List Ty) → n ≤ h → uppermost n (operands_in ts ss h) us ≡ types_from ts 1 (h - n) n ++ us
unfolding uppermost operands_in types_from
top_types ts ss zero h us l = refl
top_types ts ss (suc n) zero us l = absurd (omega (arith, l))
top_types ts ss (suc n) (suc h) us l =
    top_types ts ss n h (type_of (word ts h) ∷ us) (omega (arith, l)) ∙
    (sym (append_assoc (types_from ts 1 (h - n) n) (type_of (word ts h) ∷ []) us) ∙
    ap (λ (vs : List Ty). vs ++ us) (ap (λ (j : ℕ). types_from ts 1 (h - n) n ++ (type_of (word ts j) ∷ [])) {x = h} {y = h - n + 1 * n} (omega (arith, l)) ∙
    (sym (types_snoc ts 1 (h - n) n) ∙ ap (λ (j : ℕ). types_from ts 1 j (suc n)) {x = h - n} {y = suc h - suc n} (omega arith))))

differ : (ts us : List ℕ) (d e i j n m : ℕ) → (n ≡ m → ⊥) → same_types (types_from ts d i n) (types_from us e j m) ≡ false
unfolding same_types types_from
differ ts us d e i j zero zero h = absurd (h refl)
differ ts us d e i j zero (suc m) h = refl
differ ts us d e i j (suc n) zero h = refl
differ ts us d e i j (suc n) (suc m) h = go (same_ty (type_of (word ts i)) (type_of (word us j))) (differ ts us d e (i + d) (j + e) n m (λ q. h (ap suc q)))
  where
    go : (c : Bool) {r : Bool} → r ≡ false → both c r ≡ false
    go true q = q
    go false q = refl

count_operands : (ts ss : List ℕ) (h : ℕ) → length (operands_in ts ss h) ≡ h
unfolding operands_in
count_operands ts ss zero = refl
count_operands ts ss (suc h) = ap suc (count_operands ts ss h)

module _ (ts ss tree : List ℕ) (h header v n here begins : ℕ) (t : Ty) where
  pub few_operands : h < n → none ≡ call_node (signature tree header v) n here begins t (operands_in ts ss h)
  unfolding call_node sole
  few_operands l = rw (count_operands ts ss h, lt-leb n h l) refl

  pub other_count : {k : ℕ} → n ≤ h → k ≡ word tree (header + 3) → (k ≡ n → ⊥) → none ≡ call_node (signature tree header v) n here begins t (operands_in ts ss h)
  unfolding call_node sole
  other_count l e d = rw (count_operands ts ss h, le-leb n h l, top_types ts ss n h [] l, append-nil (types_from ts 1 (h - n) n), ← e, differ ts tree 1 3 (h - n) (header + 10) n _ (λ q. d (sym q))) refl

  module _ {k : ℕ} {b : Bool} (l : n ≤ h) (e : k ≡ word tree (header + 3)) (d : k ≡ n) (q : b ≡ same_types (types_from ts 1 (h - n) n) (types_from tree 3 (header + 10) n)) where
    pub other_types : b ≡ false → none ≡ call_node (signature tree header v) n here begins t (operands_in ts ss h)
    unfolding call_node sole
    other_types f = rw (count_operands ts ss h, le-leb n h l, top_types ts ss n h [] l, append-nil (types_from ts 1 (h - n) n), ← e, d, ← q, f) refl

    pub call_fine : {start : ℕ} → start ≡ first_start n here (operands_in ts ss h) → b ≡ true →
        some (record { takes = n; type = t; start = start; begins = begins; kind = 3; a = v; b = n }) ≡ call_node (signature tree header v) n here begins t (operands_in ts ss h)
    unfolding call_node sole
    call_fine z f = rw (count_operands ts ss h, le-leb n h l, top_types ts ss n h [] l, append-nil (types_from ts 1 (h - n) n), ← e, d, ← q, f, z) refl

pub no_arguments : (os : List Operand) (n here : ℕ) → n ≡ 0 → here ≡ first_start n here os
no_arguments os n here e = rw (eq-eqb n 0 e) refl

pub first_argument : {ts ss : List ℕ} {h : ℕ} {o : O.Operand ValueType} (n here : ℕ) → (n ≡ 0 → ⊥) → Tops ts ss h (n - 1) o → o.start ≡ first_start n here (operands_in ts ss h)
first_argument n here e t = rw (ne_eqb n 0 e, t.is) refl

-- The function that a name stands for

module _ (p : Program) (x : N.Name) where
  pub no_thing_named : FindsGlobal p (part p.text.now x.place x.length) None → FindsFunction p x.place x.length None
  unfolding function_named
  no_thing_named f = record { is = rw f.is refl }

  module _ {g : P.Global} {k : Bool} (f : FindsGlobal p (part p.text.now x.place x.length) (Some g)) (e : k ≡ eqb (word p.tree.now g.header) 0) where
    pub not_function : k ≡ true → FindsFunction p x.place x.length None
    unfolding function_named thing_at
    not_function d = record { is = rw (f.is, ← e, d) refl }

    pub a_function_lem : k ≡ false → FindsFunction p x.place x.length (Some g)
    unfolding function_named thing_at
    a_function_lem d = record { is = rw (f.is, ← e, d) refl }

-- what is made of the thing of a name is made of the function of that name
pub of_function : (text : List ℕ) (gs : List Global) (p a : ℕ) (make : Signature → Option Node) → and_then (global_of gs (part text p a)) (λ g. and_then (is_function g.thing) make) ≡ and_then (function_named text gs p a) make
unfolding function_named
of_function text gs p a make = go (global_of gs (part text p a))
  where
    go : (o : Option Global) → and_then o (λ g. and_then (is_function g.thing) make) ≡ and_then (and_then o (λ g. is_function g.thing)) make
    go none = refl
    go (some g) = refl

module _ (text : List ℕ) (gs : List Global) (p a : ℕ) where
  pub named_none : function_named text gs p a ≡ none → (make : Signature → Option Node) → none ≡ and_then (global_of gs (part text p a)) (λ g. and_then (is_function g.thing) make)
  named_none f make = sym (of_function text gs p a make ∙ rw f refl)

  pub named_some : {s : Signature} → function_named text gs p a ≡ some s → (make : Signature → Option Node) → make s ≡ and_then (global_of gs (part text p a)) (λ g. and_then (is_function g.thing) make)
  named_some f make = sym (of_function text gs p a make ∙ rw f refl)

  module _ (n here : ℕ) (os : List Operand) where
    pub no_callee : function_named text gs p a ≡ none → none ≡ called_node text gs p a n here os
    unfolding called_node
    no_callee f = named_none f (λ s. and_then s.result (λ t. call_node s n here 1 t os))

    module _ (tree : List ℕ) (h v : ℕ) (f : function_named text gs p a ≡ some (signature tree h v)) {t : ℕ} (u : t ≡ word tree (h + 4)) where
      pub no_result : none ≡ result_of t → none ≡ called_node text gs p a n here os
      unfolding called_node
      no_result y = rw (← u, ← y) refl ∙ named_some f (λ s. and_then s.result (λ t. call_node s n here 1 t os))

      pub with_result : {w : Ty} {o : Option Node} → some w ≡ result_of t → o ≡ call_node (signature tree h v) n here 1 w os → o ≡ called_node text gs p a n here os
      unfolding called_node
      with_result {w} y e = e ∙ (has ∙ named_some f (λ s. and_then s.result (λ t. call_node s n here 1 t os)))
        where
          has : call_node (signature tree h v) n here 1 w os ≡ and_then (result_of (word tree (h + 4))) (λ t. call_node (signature tree h v) n here 1 t os)
          has = rw (← u, ← y) refl

-- Which kind it is

module _ (text : List ℕ) (globals : List Global) (locals : List Local) (p a b here : ℕ) (os : List Operand) where
  abbrev NodeAt : ℕ → Option Node → Type 0
  NodeAt k w = w ≡ node_of text globals locals k p a b here os

  at_kind : (i : ℕ) {k : ℕ} {w : Option Node} → k ≡ i → NodeAt i w → NodeAt k w
  at_kind i e h = h ∙ ap (λ (j : ℕ). node_of text globals locals j p a b here os) (sym e)

  pub a_number : {k : ℕ} {w : Option Node} → k ≡ 0 → w ≡ some (leaf int here 0 a) → NodeAt k w
  unfolding node_of
  a_number e q = at_kind 0 e q

  pub a_name : {k : ℕ} {w : Option Node} → k ≡ 1 → w ≡ name_node text locals p a here → NodeAt k w
  unfolding node_of
  a_name e q = at_kind 1 e q

  pub an_element : {k : ℕ} {w : Option Node} {o : Operand} → k ≡ 2 → get_or os 0 no_operand ≡ o → w ≡ element_node text globals p a o → NodeAt k w
  unfolding node_of
  an_element e t q = at_kind 2 e (q ∙ ap (element_node text globals p a) (sym t))

  pub a_call : {k : ℕ} {w : Option Node} → k ≡ 3 → w ≡ called_node text globals p a b here os → NodeAt k w
  unfolding node_of
  a_call e q = at_kind 3 e q

  pub a_unary : {k : ℕ} {w : Option Node} {o : Operand} → k ≡ 4 → get_or os 0 no_operand ≡ o → w ≡ unary_node a o → NodeAt k w
  unfolding node_of
  a_unary e t q = at_kind 4 e (q ∙ ap (unary_node a) (sym t))

  pub a_strict : {k : ℕ} {w : Option Node} {x y : Operand} → k ≡ 5 → get_or os 0 no_operand ≡ y → get_or os 1 no_operand ≡ x → w ≡ strict_node a x y → NodeAt k w
  unfolding node_of
  a_strict e t u q = at_kind 5 e (q ∙ rw (t, u) refl)

  pub an_and : {k : ℕ} {w : Option Node} {o : Operand} → k ≡ 6 → get_or os 0 no_operand ≡ o → w ≡ some (mark_node 6 a o) → NodeAt k w
  unfolding node_of
  an_and e t q = at_kind 6 e (q ∙ ap (λ (o : Operand). some (mark_node 6 a o)) (sym t))

  pub an_or : {k : ℕ} {w : Option Node} {o : Operand} → k ≡ 7 → get_or os 0 no_operand ≡ o → w ≡ some (mark_node 7 a o) → NodeAt k w
  unfolding node_of
  an_or e t q = at_kind 7 e (q ∙ ap (λ (o : Operand). some (mark_node 7 a o)) (sym t))

  pub a_join : {k : ℕ} {w : Option Node} {x y : Operand} → k ≡ 8 → get_or os 0 no_operand ≡ y → get_or os 1 no_operand ≡ x → w ≡ join_node x y → NodeAt k w
  unfolding node_of
  a_join e t u q = at_kind 8 e (q ∙ rw (t, u) refl)

  pub a_truth : {k : ℕ} {w : Option Node} → k ≡ 9 → w ≡ some (leaf bool here 0 a) → NodeAt k w
  unfolding node_of
  a_truth e q = at_kind 9 e q

  pub no_kind : {k : ℕ} {w : Option Node} → 10 ≤ k → w ≡ none → NodeAt k w
  unfolding node_of
  no_kind l q = q ∙ sym (get_or-eq_default (nodes text globals locals p a b here os) none l)
