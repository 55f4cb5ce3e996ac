-- A store: both expressions, then its own rules, then its header before both rows of items.
use mathlib.Core.Path.{◌≡◌, refl, sym, ap, subst, ◌∙◌}
use mathlib.Core.Bool.{Bool, true, false}
use mathlib.Core.List.{List, [], ◌∷◌, ◌++◌}
use mathlib.Core.Option.{Option, none, some}
use Prim.Native.Nat.{ℕ, ◌+◌, ◌*◌, ◌≤◌}
use native.Mathlib.Omega.{arith}
use lib.ListN.{length, drop}
use lib.Seq.{sets}
use Rattle.language.specs.Tree.{Place, Ty, int}
use Rattle.language.specs.Tree as T
use Rattle.language.specs.Core.{Array}
use Rattle.language.specs.Core as C
use Rattle.language.specs.Rules.{Ruled, keeps, breaks, ◌>>=◌, need, found, same_ty, Global, Thing, an_array, a_function, Local, Scope, Typed, global_of, is_array, and_then, array_of, want, expr, stmt}
use Rattle.grammar.specs.Flat as G
use Rattle.flat.specs.Items.{Item, Kind, code}
use Rattle.flat.specs.Items as I
use Rattle.flat.specs.Statements.{flat}
use Rattle.flat.specs.Words.{kind_words, items_words, stmt_words, rest_length}
use Rattle.flat.proofs.Writing.{items_then}
use Rattle.rules.specs.Tables.{part, locals_in}
use Rattle.rules.specs.Scan.{Node, sole, element_node}
use Rattle.rules.specs.Named.{NamedExpr}
use Rattle.std.specs.Prelude.{Some, None, Result, Ok, Err}
use Rattle.rules.specs.declared.nodes.Made.{Made}
use Rattle.rules.specs.declared.Broken.{Broken}
use Rattle.rules.specs.declared.Scope as S
use Rattle.grammar.specs.declared.tree.ValueType.{ValueType}
use Rattle.rules.specs.Values.{meant, made, node_in, broken_at, scope_at}
use Rattle.rules.specs.Post.{TypedAs, ExprCase, Elaborates, scope_of, Stated, StmtCase}
use Rattle.rules.specs.Statements.{StatesTwo}
use Rattle.rules.proofs.Sizes.{sized}
use Rattle.rules.proofs.Lengths.{expr_words_lem, code_length}
use Rattle.rules.proofs.Stacks.{sets_append}
use Rattle.rules.proofs.Stating.{sets_before, went, stopped, typed, faulty}
use Rattle.rules.proofs.Heading.{past_expr}

-- Its own rules

abbrev pub Found : Option Node → Type 0
Found none = ⊥
Found (some n) = Unit {0}

abbrev array_in : Option Node → Array
array_in none = record { offset = 0; size = 0 }
array_in (some n) = record { offset = n.a; size = n.b }

module _ (text : List ℕ) (gs : List Global) (at size : ℕ) {S : Type 0} (s : S) (j y : Typed) where
  abbrev own : Ruled (C.Stmt × S)
  own = want int at j >>= λ k. want int at y >>= λ v. array_of gs at (part text at size) >>= λ a. keeps (C.store a k v, s)

  abbrev place_of_here : Ty → Option Node
  place_of_here t = element_node text gs at size (record { type = t; start = 0 })

  -- an element of an array
  abbrev element : Array → Node
  element r = record { takes = 1; type = int; start = 0; begins = 1; kind = 2; a = r.offset; b = r.size }

  abbrev kept : Array → Ruled (C.Stmt × S)
  kept a = keeps (C.store a j.expr y.expr, s)

  own_value : same_ty int y.type ≡ false → own ≡ breaks at
  unfolding want need ◌>>=◌
  own_value h = rw h (go (same_ty int j.type))
    where
      go : (b : Bool) → ◌≡◌ {A = Ruled (C.Stmt × S)} ((need b at >>= λ _. keeps j.expr) >>= λ k. breaks at) (breaks at)
      go true = refl
      go false = refl

  own_element : place_of_here j.type ≡ none → own ≡ breaks at
  unfolding want need ◌>>=◌ array_of found element_node sole
  own_element = go (global_of gs (part text at size)) (same_ty int j.type) (same_ty int y.type)
    where
      thing : (o : Thing) (c : Bool) → and_then (is_array o) (λ r. some (element r)) ≡ none →
          ◌≡◌ {A = Ruled (C.Stmt × S)} ((need c at >>= λ _. keeps y.expr) >>= λ v. found (is_array o) at >>= λ a. keeps (C.store a j.expr v, s)) (breaks at)
      thing (an_array a) c h = absurd (subst Found h tt)
      thing (a_function f) true h = refl
      thing (a_function f) false h = refl

      go : (o : Option Global) (b c : Bool) → and_then o (λ g. and_then (is_array g.thing) (λ r. sole b (element r))) ≡ none →
          ◌≡◌ {A = Ruled (C.Stmt × S)} ((need b at >>= λ _. keeps j.expr) >>= λ k. (need c at >>= λ _. keeps y.expr) >>= λ v. found (and_then o (λ g. is_array g.thing)) at >>= λ a. keeps (C.store a k v, s)) (breaks at)
      go o false c h = refl
      go none true true h = refl
      go none true false h = refl
      go (some g) true c h = thing g.thing c h

  own_fine : (n : Node) → place_of_here j.type ≡ some n → same_ty int y.type ≡ true → own ≡ keeps (C.store (record { offset = n.a; size = n.b }) j.expr y.expr, s)
  unfolding want need ◌>>=◌ array_of found element_node sole
  own_fine n e f = rw f (go (global_of gs (part text at size)) (same_ty int j.type) e)
    where
      thing : (o : Thing) → and_then (is_array o) (λ r. some (element r)) ≡ some n →
          ◌≡◌ {A = Ruled (C.Stmt × S)} (found (is_array o) at >>= λ a. keeps (C.store a j.expr y.expr, s)) (keeps (C.store (record { offset = n.a; size = n.b }) j.expr y.expr, s))
      thing (an_array a) h = ap (λ (m : Option Node). kept (array_in m)) h
      thing (a_function f) h = absurd (subst Found (sym h) tt)

      go : (o : Option Global) (b : Bool) → and_then o (λ g. and_then (is_array g.thing) (λ r. sole b (element r))) ≡ some n →
          ◌≡◌ {A = Ruled (C.Stmt × S)} ((need b at >>= λ _. keeps j.expr) >>= λ k. found (and_then o (λ g. is_array g.thing)) at >>= λ a. keeps (C.store a k y.expr, s)) (keeps (C.store (record { offset = n.a; size = n.b }) j.expr y.expr, s))
      go none b h = absurd (subst Found (sym h) tt)
      go (some g) true h = thing g.thing h
      go (some g) false h = absurd (out g.thing h)
        where
          out : (o : Thing) → ◌≡◌ {A = Option Node} (and_then (is_array o) (λ r. none)) (some n) → ⊥
          out (an_array a) h = subst Found (sym h) tt
          out (a_function f) h = subst Found (sym h) tt

-- Its words

-- as many items as the tree's
pub items_many : (gs : List Global) (ls : List Local) (e : T.Expr) {q : ℕ} {core : List ℕ} {ty : ValueType} {core' : List ℕ} (t : TypedAs (expr gs ls e) q core ty core') → length (code t.value.expr 0 []) ≡ G.size e
items_many gs ls e t = code_length t.value.expr 0 [] ∙ (omega (arith) ∙ ((sized gs ls e).holds t.value t.is).same)

kind_words_lem : (k : Kind) (c : ℕ) (more : List ℕ) → length (kind_words k c more) ≡ 4 + length more
unfolding kind_words
kind_words_lem (I.number n) c more = omega arith
kind_words_lem (I.local x) c more = omega arith
kind_words_lem (I.element a) c more = omega arith
kind_words_lem (I.call f n) c more = omega arith
kind_words_lem (I.unary o) c more = omega arith
kind_words_lem (I.strict o) c more = omega arith
kind_words_lem (I.and n) c more = omega arith
kind_words_lem (I.or n) c more = omega arith
kind_words_lem I.join c more = omega arith
kind_words_lem I.unknown c more = omega arith

pub items_words_lem : (is : List Item) (more : List ℕ) → length (items_words is more) ≡ 4 * length is + length more
unfolding items_words
items_words_lem [] more = omega arith
items_words_lem (i ∷ is) more = kind_words_lem i.kind i.charge (items_words is more) ∙ omega (arith, items_words_lem is more)

-- words after words, and a header in front
pub row : (core : List ℕ) {core₁ core₂ : List ℕ} (i j : ℕ) (us vs : List ℕ) → core₁ ≡ sets core i us → core₂ ≡ sets core₁ j vs → j ≡ i + length us → core₂ ≡ sets core i (us ++ vs)
row core i j us vs e f h = f ∙ (ap (λ (w : List ℕ). sets w j vs) e ∙ (ap (λ (k : ℕ). sets (sets core i us) k vs) h ∙ sets_append core i us vs))

pub in_front : (core : List ℕ) {core₁ core₂ : List ℕ} (q i : ℕ) (h us : List ℕ) → core₁ ≡ sets core i us → core₂ ≡ sets core₁ q h → i ≡ q + length h → core₂ ≡ sets core q (h ++ us)
in_front core q i h us e f g = f ∙ (ap (λ (w : List ℕ). sets w q h) (e ∙ ap (λ (k : ℕ). sets core k us) g) ∙ sets_before core q h us)

pub two_rows : (core : List ℕ) {core₁ core₂ core₃ : List ℕ} (q n : ℕ) (h us vs : List ℕ) → core₁ ≡ sets core (q + length h) us → core₂ ≡ sets core₁ (q + length h + n) vs → core₃ ≡ sets core₂ q h → length us ≡ n → core₃ ≡ sets core q (h ++ (us ++ vs))
two_rows core q n h us vs e f g m = in_front core q (q + length h) h (us ++ vs) (row core (q + length h) (q + length h + n) us vs e f (ap (λ (k : ℕ). q + length h + k) (sym m))) g refl

module _ (text : List ℕ) (gs : List Global) (locals : List ℕ) (l count : ℕ) (result : Option Ty) (at size : ℕ) {n : ℕ} (m rest : ℕ) {ws : List ℕ} (q : ℕ) {core core₁ : List ℕ} {r₁ : Result ValueType Broken}
    (x : Elaborates text gs (locals_in text locals l) n ws (q + 8) core r₁ core₁) where
  abbrev store_of : T.Expr → T.Expr → T.Stmt
  store_of i e = T.store at (part text at size) i e

  abbrev stmt_of_here : T.Expr → T.Expr → Ruled (C.Stmt × Scope gs)
  stmt_of_here i e = stmt gs result (store_of i e) (scope_of gs text locals l count)

  abbrev expr_of_here : T.Expr → Ruled Typed
  expr_of_here e = expr gs (locals_in text locals l) e

  abbrev Said : Result S.Scope Broken → List ℕ → Type 0
  Said r core' = StatesTwo text gs locals l count result (λ i e. store_of i e) n m rest ws q core r locals core'

  index_stop : {b : Place} (i e : T.Expr) → expr_of_here i ≡ breaks b → stmt_of_here i e ≡ breaks b
  unfolding stmt
  index_stop i e f = stopped _ f

  pub index_fault : {b : Broken} {core' : List ℕ} → r₁ ≡ Err b → Said (Err b) core'
  index_fault d = record { by = λ i e more ew en em er ni ne. index_stop i e (faulty q x i (G.expr_words e more) ew en ni d) }

  module _ {index : ValueType} (d : r₁ ≡ Ok index) {us : List ℕ} {r₂ : Result ValueType Broken} {core₂ : List ℕ} (y : 4 * n ≤ rest → Elaborates text gs (locals_in text locals l) m us (q + 8 + 4 * n) core₁ r₂ core₂) (eu : us ≡ drop (4 * n) ws) where
    second : (i e : T.Expr) (more : List ℕ) → ws ≡ G.expr_words i (G.expr_words e more) → n ≡ G.size i → us ≡ G.expr_words e more
    second i e more ew en = eu ∙ (ap (drop (4 * n)) ew ∙ past_expr i (4 * n) (G.expr_words e more) (omega (arith, en)))

    value_stop : {b : Place} (i e : T.Expr) → TypedAs (expr_of_here i) (q + 8) core index core₁ → expr_of_here e ≡ breaks b → stmt_of_here i e ≡ breaks b
    unfolding stmt
    value_stop i e t f = went _ t.is (stopped _ f)

    the_value : (i e : T.Expr) (more : List ℕ) → ws ≡ G.expr_words i (G.expr_words e more) → n ≡ G.size i → m ≡ G.size e → rest ≡ G.expr_length i + G.expr_length e → NamedExpr text e → ExprCase (expr_of_here e) (q + 8 + 4 * n) core₁ r₂ core₂
    the_value i e more ew en em er ne = (y (omega (arith, en, er, expr_words_lem i []))).by e more (second i e more ew en) em ne

    pub value_fault : {b : Broken} {core' : List ℕ} → r₂ ≡ Err b → Said (Err b) core'
    value_fault f = record {
      by = λ i e more ew en em er ni ne. value_stop i e (typed q x i (G.expr_words e more) ew en ni d) (subst (λ (o : Result ValueType Broken). ExprCase (expr_of_here e) (q + 8 + 4 * n) core₁ o core₂) f (the_value i e more ew en em er ne));
    }

    module _ {value : ValueType} (f : r₂ ≡ Ok value) where
      abbrev Index : T.Expr → Type 0
      Index i = TypedAs (expr_of_here i) (q + 8) core index core₁

      abbrev Value : T.Expr → Type 0
      Value e = TypedAs (expr_of_here e) (q + 8 + 4 * n) core₁ value core₂

      -- what both expressions give decides
      decided : {r : Result S.Scope Broken} {core' : List ℕ} →
          ((i e : T.Expr) (a : Index i) (b : Value e) → n ≡ G.size i → m ≡ G.size e → rest ≡ G.expr_length i + G.expr_length e → StmtCase gs text (stmt_of_here i e) q core r locals core') →
          Said r core'
      decided k = record {
        by = λ i e more ew en em er ni ne.
            k i e (typed q x i (G.expr_words e more) ew en ni d) (subst (λ (o : Result ValueType Broken). ExprCase (expr_of_here e) (q + 8 + 4 * n) core₁ o core₂) f (the_value i e more ew en em er ne)) en em er;
      }

      value_off : (i e : T.Expr) → Index i → Value e → same_ty int (meant value) ≡ false → stmt_of_here i e ≡ breaks at
      unfolding stmt
      value_off i e a b h = went _ a.is (went _ b.is (own_value text gs at size _ a.value b.value (ap (same_ty int) b.type ∙ h)))

      pub value_wrong : {core' : List ℕ} → same_ty int (meant value) ≡ false → Said (Err (broken_at at)) core'
      value_wrong h = decided (λ i e a b en em er. value_off i e a b h)

      index_off : (i e : T.Expr) → Index i → Value e → made None ≡ element_node text gs at size (record { type = meant index; start = 0 }) → stmt_of_here i e ≡ breaks at
      unfolding stmt
      index_off i e a b z = went _ a.is (went _ b.is (own_element text gs at size _ a.value b.value (ap (λ (t : Ty). element_node text gs at size (record { type = t; start = 0 })) a.type ∙ sym z)))

      pub index_wrong : {core' : List ℕ} → made None ≡ element_node text gs at size (record { type = meant index; start = 0 }) → Said (Err (broken_at at)) core'
      index_wrong z = decided (λ i e a b en em er. index_off i e a b z)

      module _ (nd : Made) (z : made (Some nd) ≡ element_node text gs at size (record { type = meant index; start = 0 })) where
        store_at : (i e : T.Expr) {core' : List ℕ} (a : Index i) (b : Value e) → same_ty int (meant value) ≡ true → core' ≡ sets core q (1 ∷ nd.a ∷ nd.b ∷ n ∷ m ∷ 0 ∷ 0 ∷ rest ∷ items_words (code a.value.expr 0 []) (items_words (code b.value.expr 0 []) [])) →
            n ≡ length (code a.value.expr 0 []) → m ≡ length (code b.value.expr 0 []) → rest ≡ 4 * length (code a.value.expr 0 []) + 4 * length (code b.value.expr 0 []) →
            Stated gs text (stmt_of_here i e) q core l count locals core'
        unfolding stmt flat stmt_words rest_length
        store_at i e {core'} a b k c en em er = record {
          value = C.store (record { offset = nd.a; size = nd.b }) a.value.expr b.value.expr;
          is = went _ a.is (went _ b.is (own_fine text gs at size _ a.value b.value (node_in nd)
              (ap (λ (t : Ty). element_node text gs at size (record { type = t; start = 0 })) a.type ∙ sym z) (ap (same_ty int) b.type ∙ k)));
          there = c ∙ same n m rest en em er;
        }
          where
            same : (x y w : ℕ) → x ≡ length (code a.value.expr 0 []) → y ≡ length (code b.value.expr 0 []) → w ≡ 4 * length (code a.value.expr 0 []) + 4 * length (code b.value.expr 0 []) →
                sets core q (1 ∷ nd.a ∷ nd.b ∷ x ∷ y ∷ 0 ∷ 0 ∷ w ∷ items_words (code a.value.expr 0 []) (items_words (code b.value.expr 0 []) [])) ≡
                sets core q (1 ∷ nd.a ∷ nd.b ∷ length (code a.value.expr 0 []) ∷ length (code b.value.expr 0 []) ∷ 0 ∷ 0 ∷ (4 * length (code a.value.expr 0 []) + 4 * length (code b.value.expr 0 [])) ∷ items_words (code a.value.expr 0 []) (items_words (code b.value.expr 0 []) []))
            same x y w e f g = rw (e, f, g) refl

        store_words : (i e : T.Expr) {core₃ : List ℕ} (a : Index i) (b : Value e) → n ≡ G.size i → core₃ ≡ sets core₂ q (1 ∷ nd.a ∷ nd.b ∷ n ∷ m ∷ 0 ∷ 0 ∷ rest ∷ []) →
            core₃ ≡ sets core q (1 ∷ nd.a ∷ nd.b ∷ n ∷ m ∷ 0 ∷ 0 ∷ rest ∷ items_words (code a.value.expr 0 []) (items_words (code b.value.expr 0 []) []))
        store_words i e a b en c =
            two_rows core q (4 * n) (1 ∷ nd.a ∷ nd.b ∷ n ∷ m ∷ 0 ∷ 0 ∷ rest ∷ []) (items_words (code a.value.expr 0 []) []) (items_words (code b.value.expr 0 []) []) a.there b.there c (omega (arith, items_words_lem (code a.value.expr 0 []) [], items_many gs (locals_in text locals l) i a, en)) ∙
            ap (λ (w : List ℕ). sets core q (1 ∷ nd.a ∷ nd.b ∷ n ∷ m ∷ 0 ∷ 0 ∷ rest ∷ w)) (sym (items_then (code a.value.expr 0 []) [] (items_words (code b.value.expr 0 []) [])))

        pub store_next : {core₃ : List ℕ} → same_ty int (meant value) ≡ true → core₃ ≡ sets core₂ q (1 ∷ nd.a ∷ nd.b ∷ n ∷ m ∷ 0 ∷ 0 ∷ rest ∷ []) → Said (Ok (scope_at l count)) core₃
        store_next k c = decided (λ i e a b en em er. store_at i e a b k (store_words i e a b en c) (en ∙ sym (items_many gs (locals_in text locals l) i a)) (em ∙ sym (items_many gs (locals_in text locals l) e b))
            (omega (arith, er, expr_words_lem i [], expr_words_lem e [], items_many gs (locals_in text locals l) i a, items_many gs (locals_in text locals l) e b)))
